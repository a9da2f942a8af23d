use Rattle.std.proofs.Common.{◌≡◌, drop}
use Rattle.txn_script.specs.Plans.{stop_each_once}
use Rattle.txn_script.proofs.plan.stop_each_once.Given as goal

abbrev pub invariant-loop-i : goal.invariant-loop-i
invariant-loop-i l = stop_each_once (drop l.i l.stops) ≡ stop_each_once l.stops
