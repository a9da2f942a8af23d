use Rattle.store_laws.proofs.cells.Hits.{insert_must, move_must, add_must, update_must, draw_must, place_must}
use Rattle.store_laws.proofs.edits.edits_hit.Goals as goal

pub returns : goal.returns
returns c = record { inserts = insert_must; moves = move_must; adds = add_must; updates = update_must; draws = draw_must; places = place_must }
