use Rattle.cycle_order.proofs.incoming.Incoming.new.Given as goal
use Rattle.cycle_order.specs.Search.{IsLinked}

abbrev pub invariant-loop-place : goal.invariant-loop-place
invariant-loop-place l = IsLinked l.edge-items l.last.items l.previous.items l.count l.place
