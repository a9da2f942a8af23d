use Rattle.std.proofs.Common.{◌≡◌, ◌≢◌, ℕ, ◌<◌, Bool, false, List, [], length, get_or, sym, ap, ◌∙◌, arith, below_more, nat_eq}
use Rattle.std.specs.Cmp.{nat_eq_equiv}
use Rattle.std.specs.Cmp.Lexicographic.{pointwise}
use Rattle.std.proofs.lemmas.Bool.{false≢true}
use Rattle.std.proofs.lemmas.Cmp.{lists_equiv}
use Rattle.std.proofs.lemmas.List.{get_or_default}
use Rattle.store_tests.proofs.graphs.is_new.Goals as goal
use Rattle.txn_key.specs.declared.id.TxnId.{TxnId}

-- ids that the test tells apart differ
differ : (s t : TxnId) (answer : Bool) → answer ≡ pointwise nat_eq s.0 t.0 → answer ≡ false → s ≢ t
differ s t answer tells apart same =
    false≢true (sym apart ∙ tells ∙ ap (λ (r : TxnId). pointwise nat_eq s.0 r.0) (sym same) ∙ (lists_equiv nat_eq_equiv).refl s.0)

differ_at : (ids : List TxnId) (k at : ℕ) (d e : TxnId) → k < length ids → at < length ids → get_or ids k d ≢ get_or ids at d → get_or ids k e ≢ get_or ids at e
differ_at ids k at d e kin ain ne same = ne (get_or_default ids k d e kin ∙ same ∙ get_or_default ids at e d ain)

pub loop-k-preserved : goal.loop-k-preserved
loop-k-preserved c k d below =
    below_more (λ n. get_or c.args.ids.now n d ≢ get_or c.args.ids.now c.args.at d) c.loop-k.k (λ n b. c.loop-k.invariant n d b)
    (differ_at c.args.ids.now c.loop-k.k c.args.at (record { 0 = [] }) d (omega arith) c.requires (differ _ _ c.eq.result c.eq.ensures c.if-eq.false)) k below
