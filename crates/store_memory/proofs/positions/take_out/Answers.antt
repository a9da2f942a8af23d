use Rattle.std.proofs.Common.{List, sym, ◌∙◌, subst}
use Rattle.store_trait.specs.Names.{name_cmp}
use Rattle.store_trait.specs.declared.name.Name.{Name}
use Rattle.store_trait.specs.declared.cell.Cell.{Cell}
use Rattle.store_memory.specs.Positions.{StandsAt, GoesAt}
use Rattle.store_memory.proofs.Search.{others_stands, others_goes}
use Rattle.store_memory.proofs.positions.take_out.Goals as goal

pub returns-in-Ok : goal.returns-in-Ok
returns-in-Ok c =
    let stands = subst (λ (es : List (Name × Cell)). StandsAt name_cmp c.args.name.now c.in-Ok.position es) c.deref.ensures.value c.in-Ok.ensures.stands in
    c.remove.ensures.items ∙ sym (others_stands name_cmp c.args.name.now c.args.cells.now.items c.in-Ok.position stands)

pub returns-in_default : goal.returns-in_default
returns-in_default c =
    let goes = subst (λ (es : List (Name × Cell)). GoesAt name_cmp c.args.name.now c.in_default.field-0 es) c.deref.ensures.value c.in_default.ensures.goes in
    sym (others_goes name_cmp c.args.name.now c.args.cells.now.items c.in_default.field-0 goes)
