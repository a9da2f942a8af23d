use Rattle.std.proofs.Common.{rules, Ok, Err, sym, ◌∙◌}
use Rattle.std.proofs.lemmas.Fn.{always_returns_same}
use Rattle.store_trait.specs.Names.{name_cmp}
use Rattle.store_trait.specs.declared.name.Name.TheVariants as name
use Rattle.listed_cells.proofs.Listings.{looked_up, counter_there}
use Rattle.listed_cells.proofs.cells.counter.Goals as goal

pub returns-in-Ok : goal.returns-in-Ok
returns-in-Ok c =
    let by_name = c.in-Ok.ensures.position (λ x. name_cmp x.name name.Nonce) (always_returns_same _ _ _ (λ a r f' called. (search rules, search rules))) in
    c.as_counter.ensures ∙ sym (counter_there _ _ ((looked_up _ c.args.cells.now (Ok c.in-Ok.place) c.requires c.in-Ok.ensures.bound by_name).0 _))

pub returns-in-Err : goal.returns-in-Err
returns-in-Err c =
    let by_name = c.in-Err.ensures.position (λ x. name_cmp x.name name.Nonce) (always_returns_same _ _ _ (λ a r f' called. (search rules, search rules))) in
    sym (counter_there _ _ ((looked_up _ c.args.cells.now (Err c.in-Err.field-0) c.requires c.in-Err.ensures.bound by_name).1))
