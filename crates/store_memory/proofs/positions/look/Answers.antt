use Rattle.std.proofs.Common.{Some, sym, ◌∙◌, ap, option_map}
use Rattle.std.proofs.lemmas.Option.{slice_get-get_or}
use Rattle.store_trait.specs.Names.{name_cmp}
use Rattle.store_trait.specs.declared.cell.Cell.{Cell}
use Rattle.store_trait.specs.declared.name.Name.{Name}
use Rattle.store_memory.proofs.Search.{value_stands, value_goes}
use Rattle.store_memory.proofs.positions.look.Goals as goal

pub returns-in-Ok : goal.returns-in-Ok
returns-in-Ok c =
    ap Some (c.cell.ensures ∙ ap (λ (e : Name × Cell). e.1) c.index-cells-position.is) ∙ sym (value_stands name_cmp c.args.name.now c.args.cells.now c.in-Ok.position c.in-Ok.ensures.stands ∙ ap (option_map (λ entry. entry.1)) (slice_get-get_or c.args.cells.now c.in-Ok.position _ c.in-Ok.ensures.within))

pub returns-in-Err : goal.returns-in-Err
returns-in-Err c = sym (value_goes name_cmp c.args.name.now c.args.cells.now c.in-Err.field-0 c.in-Err.ensures.goes)
