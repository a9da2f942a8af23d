use Rattle.std.proofs.Common.{◌≡◌, drop}
use Rattle.txn_script.specs.Statements.{is_cell_line}
use Rattle.txn_script.proofs.statement.is_cell_line.Given as goal

abbrev pub invariant-loop-field : goal.invariant-loop-field
invariant-loop-field l = is_cell_line (drop l.field-index l.fields) ≡ is_cell_line l.fields
