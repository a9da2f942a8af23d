use Rattle.std.proofs.Common.{◌≡◌, replicate, None}
use Rattle.cycle_order.proofs.incoming.no_places.Given as goal

abbrev pub invariant-loop : goal.invariant-loop
invariant-loop l = l.places.items ≡ replicate l.counter None
