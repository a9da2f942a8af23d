use Rattle.std.proofs.Common.{ℕ, ◌<◌}
use Rattle.cycle_order.proofs.ready.all_give_way.Given as goal
use Rattle.cycle_order.specs.Choice.{GivesWay}

abbrev pub invariant-loop-a : goal.invariant-loop-a
invariant-loop-a l = (a : ℕ) → a < l.a → GivesWay l.graph l.before l.after l.v a
