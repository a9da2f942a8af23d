use Rattle.cycle_order.proofs.Leasts.{IsLeastSoFar}
use Rattle.cycle_order.proofs.least.least_marked.Given as goal

abbrev pub invariant-loop-a : goal.invariant-loop-a
invariant-loop-a l = IsLeastSoFar l.graph l.marked l.a l.least
