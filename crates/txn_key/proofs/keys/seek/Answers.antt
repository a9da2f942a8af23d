use Rattle.std.proofs.Common.{rules}
use Rattle.std.proofs.lemmas.Fn.{always_returns_same}
use Rattle.txn_key.specs.Keys.{key_cmp}
use Rattle.txn_key.proofs.KeyPlaces.{found_in_order}
use Rattle.txn_key.proofs.keys.seek.Goals as goal

pub returns-clause-stands : goal.returns-clause-stands
returns-clause-stands c =
    let by_key = c.binary_search_by.ensures.position (λ other. key_cmp other c.args.key.now) (always_returns_same _ _ _ (λ a r f' called. (search rules, search rules))) in
    (found_in_order c.args.key.now c.args.keys.now _ c.requires c.binary_search_by.ensures.bound by_key).0

pub returns-clause-goes : goal.returns-clause-goes
returns-clause-goes c =
    let by_key = c.binary_search_by.ensures.position (λ other. key_cmp other c.args.key.now) (always_returns_same _ _ _ (λ a r f' called. (search rules, search rules))) in
    (found_in_order c.args.key.now c.args.keys.now _ c.requires c.binary_search_by.ensures.bound by_key).1
