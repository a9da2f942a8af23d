use Rattle.std.proofs.Common.{rules}
use Rattle.std.proofs.lemmas.Fn.{always_returns_same}
use Rattle.store_trait.specs.Names.{name_cmp}
use Rattle.store_trait.proofs.NameOrder.{name_cmp_total}
use Rattle.store_memory.proofs.Search.{found_in_order}
use Rattle.store_memory.proofs.positions.seek.Goals as goal

pub returns-clause-stands : goal.returns-clause-stands
returns-clause-stands c =
    let by_name = c.binary_search_by.ensures.position (λ entry. name_cmp entry.0 c.args.name.now) (always_returns_same _ _ _ (λ a r f' called. (search rules, search rules))) in
    (found_in_order name_cmp_total c.args.name.now c.args.cells.now _ c.requires c.binary_search_by.ensures.bound by_name).0

pub returns-clause-goes : goal.returns-clause-goes
returns-clause-goes c =
    let by_name = c.binary_search_by.ensures.position (λ entry. name_cmp entry.0 c.args.name.now) (always_returns_same _ _ _ (λ a r f' called. (search rules, search rules))) in
    (found_in_order name_cmp_total c.args.name.now c.args.cells.now _ c.requires c.binary_search_by.ensures.bound by_name).1
