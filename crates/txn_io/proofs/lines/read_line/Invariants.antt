use Rattle.std.proofs.Common.{◌+◌, ◌-◌, length}
use Rattle.txn_io.proofs.Invariants.{IsGathering}
use Rattle.txn_io.specs.Unread.{unread_behind}
use Rattle.txn_io.proofs.lines.read_line.Given as goal

abbrev pub invariant-loop-ahead : goal.invariant-loop-ahead
invariant-loop-ahead g l =
    IsGathering g.S.Source l.fn.source l.source
    (unread_behind g.S.Source l.fn.taken l.fn.ahead l.fn.source)
    (unread_behind g.S.Source l.taken l.ahead l.source) l.line.items

abbrev pub decreases-loop-ahead : goal.decreases-loop-ahead
decreases-loop-ahead g l = 268435456 - (l.taken + length l.line.items)
