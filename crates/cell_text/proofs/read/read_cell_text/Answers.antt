use Rattle.cell_text.proofs.CellsStorable.{answer_read}
use Rattle.cell_text.proofs.read.read_cell_text.Goals as goal

pub returns-in-Object-clause-storable : goal.returns-in-Object-clause-storable
returns-in-Object-clause-storable c = answer_read c.as_slice.result.now c.read_fields.result c.read_fields.ensures
