use Rattle.std.proofs.Common.{◌+◌, length}
use Rattle.cycle_order.proofs.Searches.{IsSearch}
use Rattle.cycle_order.proofs.search.follow.Given as goal
use Rattle.cycle_order.specs.Search.{Marked, unmarked}

abbrev pub invariant-loop-t : goal.invariant-loop-t
invariant-loop-t l = IsSearch l.into.edges.items (Marked l.fn.search.found.items) (length l.fn.search.found.items) l.search.found.items l.search.frontier.items

abbrev pub decreases-loop-t : goal.decreases-loop-t
decreases-loop-t l = unmarked l.search.found.items + length l.search.frontier.items
