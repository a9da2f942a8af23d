use Rattle.std.proofs.Common.{◌≡◌, suc, ◌+◌, sym, ap, ◌∙◌, slice_get, arith}
use Rattle.store_trait.specs.Names.{name_cmp}
use Rattle.store_memory.proofs.Search.{past_stands, past_goes}
use Rattle.store_memory.proofs.positions.position_past.Goals as goal

pub returns-in-Ok : goal.returns-in-Ok
returns-in-Ok c =
    let next : c.in-Ok.position + 1 ≡ suc c.in-Ok.position = omega arith in
    ap (slice_get c.args.cells.now) next ∙ sym (past_stands name_cmp c.args.name.now c.args.cells.now c.in-Ok.position c.in-Ok.ensures.stands)

pub returns-in-Err : goal.returns-in-Err
returns-in-Err c = sym (past_goes name_cmp c.args.name.now c.args.cells.now c.in-Err.position c.in-Err.ensures.goes)
