use Rattle.std.proofs.Common.{ℕ, ◌<◌}
use Rattle.cycle_order.proofs.choice.pick.Given as goal
use Rattle.cycle_order.specs.Choice.{IsChoice}
use Rattle.cycle_order.specs.Graphs.{IsUnsettled}
use Rattle.cycle_order.specs.Search.{Marked}

abbrev pub invariant-loop-v : goal.invariant-loop-v
invariant-loop-v l = record {
  choice : IsChoice l.graph l.choice.passed.items l.choice.first;
  all : (u : ℕ) → u < l.v → IsUnsettled l.graph u → Marked l.choice.passed.items u;
}
