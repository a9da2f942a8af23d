use Rattle.std.proofs.Common.{length, ◌-◌}
use Rattle.txn_io.proofs.Invariants.{IsPouring}
use Rattle.txn_io.proofs.pouring.pour.Given as goal

abbrev pub invariant-loop-done : goal.invariant-loop-done
invariant-loop-done g l = IsPouring g.K.Sink l.fn.sink l.sink l.bytes l.done

abbrev pub decreases-loop-done : goal.decreases-loop-done
decreases-loop-done g l = length l.bytes - l.done
