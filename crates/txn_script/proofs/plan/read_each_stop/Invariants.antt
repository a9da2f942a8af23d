use Rattle.std.proofs.Common.{◌≡◌, drop}
use Rattle.txn_script.specs.Plans.{stops_of}
use Rattle.txn_script.proofs.Stops.{after_those}
use Rattle.txn_script.proofs.plan.read_each_stop.Given as goal

abbrev pub invariant-loop-value : goal.invariant-loop-value
invariant-loop-value l = after_those l.stops (stops_of l.runners (drop l.value-index l.values)) ≡ stops_of l.runners l.values
