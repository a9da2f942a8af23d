use Rattle.std.proofs.Common.{◌≡◌, ℕ, ◌<◌, ◌⊎◌, length}
use Rattle.cycle_order.proofs.search.mark_all.Given as goal
use Rattle.cycle_order.specs.Search.{Marked}

abbrev pub invariant-loop-a : goal.invariant-loop-a
invariant-loop-a l = record {
  size : length l.marked.items ≡ length l.fn.marked.items;
  keeps : (b : ℕ) → Marked l.fn.marked.items b → Marked l.marked.items b;
  adds : (b : ℕ) → b < l.a → Marked l.more b → Marked l.marked.items b;
  only : (b : ℕ) → Marked l.marked.items b → Marked l.fn.marked.items b ⊎ Marked l.more b;
}
