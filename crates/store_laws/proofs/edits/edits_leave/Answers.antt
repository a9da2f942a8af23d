use Rattle.store_laws.proofs.cells.Hits.{insert_hit, move_hit, add_hit, update_hit, draw_hit}
use Rattle.store_laws.proofs.edits.edits_leave.Goals as goal

pub returns : goal.returns
returns c = record { inserted = insert_hit; moved = move_hit; added = add_hit; updated = update_hit; drawn = draw_hit }
