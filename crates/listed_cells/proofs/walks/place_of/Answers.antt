use Rattle.std.proofs.Common.{rules}
use Rattle.std.proofs.lemmas.Fn.{always_returns_same}
use Rattle.txn_key.specs.Ids.{id_cmp}
use Rattle.listed_cells.proofs.Rosters.{searched}
use Rattle.listed_cells.proofs.walks.place_of.Goals as goal

pub returns-in-Ok : goal.returns-in-Ok
returns-in-Ok c =
    let by_id = c.binary_search_by.ensures.position (λ other. id_cmp other c.args.id.now) (always_returns_same _ _ _ (λ a r f' called. (search rules, search rules))) in
    let found = searched c.args.ids.now c.requires c.args.id.now _ c.binary_search_by.ensures.bound by_id in
    (rw c.in-Ok.is at found).0

pub returns-in-Err : goal.returns-in-Err
returns-in-Err c =
    let by_id = c.binary_search_by.ensures.position (λ other. id_cmp other c.args.id.now) (always_returns_same _ _ _ (λ a r f' called. (search rules, search rules))) in
    let found = searched c.args.ids.now c.requires c.args.id.now _ c.binary_search_by.ensures.bound by_id in
    (rw c.in-Err.is at found).1
