use Rattle.std.proofs.Common.{◌≡◌, ℕ, ◌<◌, true, get_or}
use Rattle.cycle_order.proofs.cleanness.are_settled.Given as goal
use Rattle.cycle_order.specs.Search.{Marked}

abbrev pub invariant-loop-a : goal.invariant-loop-a
invariant-loop-a l = (a : ℕ) → a < l.a → Marked l.marked a → get_or l.settled a true ≡ true
