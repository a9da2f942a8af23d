use Rattle.std.proofs.Common.{◌≡◌, true, List, sym, ap, ◌∙◌, subst}
use Rattle.std.specs.List.{All, list_any}
use Rattle.txn_key.specs.Keys.{same_key}
use Rattle.txn_key.specs.declared.key.Key.{Key}
use Rattle.txn_record.specs.Chain.{keys_of}
use Rattle.txn_record.specs.declared.op.Op.{Op}
use Rattle.txn_record.proofs.ChainSteps.{each_among_keys}
use Rattle.txn_record.proofs.revnos.chain.Goals as goal

pub follow-requires-clause-there : goal.follow-requires-clause-there
follow-requires-clause-there c =
    let keys : c.as_slice-3.result.now ≡ keys_of c.as_slice-2.result.now = c.as_slice-3.ensures ∙ c.in_ok-keys.ensures.all ∙ ap keys_of (c.as_slice.ensures.list ∙ sym c.as_slice-2.ensures.list) in
    subst (λ (ks : List Key). All (λ (op : Op). list_any (same_key op.key) ks ≡ true) c.as_slice-2.result.now) (sym keys) (each_among_keys c.as_slice-2.result.now)
