use Rattle.std.proofs.Common.{List, sym, ap, ◌∙◌, subst, set}
use Rattle.std.specs.List.{insert}
use Rattle.store_trait.specs.Names.{name_cmp}
use Rattle.store_trait.specs.declared.name.Name.{Name}
use Rattle.store_trait.specs.declared.cell.Cell.{Cell}
use Rattle.store_memory.specs.Positions.{StandsAt, GoesAt}
use Rattle.store_memory.proofs.Search.{put_stands, put_goes}
use Rattle.store_memory.proofs.positions.put.Goals as goal

pub returns-in-Ok-clause-ok : goal.returns-in-Ok-clause-ok
returns-in-Ok-clause-ok c =
    let cells = c.args.cells.now.items in
    let stands = subst (λ (es : List (Name × Cell)). StandsAt name_cmp c.args.name.now c.in-Ok.position es) c.deref.ensures.value c.in-Ok.ensures.stands in
    ap (set cells c.in-Ok.position) c.put.ensures ∙ ap (λ (e : Name × Cell). set cells c.in-Ok.position (e.0, c.args.cell)) c.index_mut.ensures.value ∙ sym (put_stands name_cmp c.args.name.now c.args.cell cells c.in-Ok.position _ stands)

pub returns-in_ok-insert-in-Err-clause-ok : goal.returns-in_ok-insert-in-Err-clause-ok
returns-in_ok-insert-in-Err-clause-ok c =
    let cells = c.args.cells.now.items in
    let goes = subst (λ (es : List (Name × Cell)). GoesAt name_cmp c.args.name.now c.in-Err.position es) c.deref.ensures.value c.in-Err.ensures.goes in
    c.in_ok-insert-in-Err.ensures.items ∙ ap (insert cells c.in-Err.position) (c.in_ok-slot-in-Err.ensures ∙ ap (λ (n : Name). (n, c.args.cell)) c.in_ok-copy-in-Err.ensures) ∙ sym (put_goes name_cmp c.args.name.now c.args.cell cells c.in-Err.position goes)
