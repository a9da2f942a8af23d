use Rattle.std.proofs.Common.{◌≡◌, drop}
use Rattle.txn_script.specs.Plans.{has_stop}
use Rattle.txn_script.proofs.plan.has_stop.Given as goal

abbrev pub invariant-loop-stop : goal.invariant-loop-stop
invariant-loop-stop l = has_stop l.runner (drop l.stop-index l.stops) ≡ has_stop l.runner l.stops
