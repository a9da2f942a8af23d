use Rattle.txn_runner.specs.Stages.{IsSettlingOne, steps_left}
use Rattle.txn_runner.proofs.settling.settle.Given as goal

abbrev pub invariant-loop-stage : goal.invariant-loop-stage
invariant-loop-stage g l = IsSettlingOne g.S.Store l.fn.store l.store l.fn.order.items l.order.items l.txn l.stage

abbrev pub decreases-loop-stage : goal.decreases-loop-stage
decreases-loop-stage g l = steps_left l.stage
