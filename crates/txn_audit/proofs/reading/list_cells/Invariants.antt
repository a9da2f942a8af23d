use Rattle.std.proofs.Common.{length, ◌-◌}
use Rattle.txn_audit.proofs.Readings.{HasRead}
use Rattle.txn_audit.proofs.reading.list_cells.Given as goal

abbrev pub invariant-loop-after : goal.invariant-loop-after
invariant-loop-after g l = HasRead g.S.Store l.fn.store l.store l.after l.cells

abbrev pub decreases-loop-after : goal.decreases-loop-after
decreases-loop-after g l = 200000 - length l.cells
