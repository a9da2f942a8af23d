use Rattle.cell_text.proofs.CellsAgain.{cell_again, line_again}
use Rattle.cell_text.proofs.CellsStorable.{cell_read, read_again}
use Rattle.cell_text.proofs.laws.cells_read_back.Goals as goal

pub returns-clause-value : goal.returns-clause-value
returns-clause-value c named is = cell_again named.name named.cell is

pub returns-clause-line : goal.returns-clause-line
returns-clause-line c = line_again

pub returns-clause-read : goal.returns-clause-read
returns-clause-read c = cell_read

pub returns-clause-again : goal.returns-clause-again
returns-clause-again c = read_again
