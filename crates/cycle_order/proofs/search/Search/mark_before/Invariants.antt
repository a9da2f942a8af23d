use Rattle.cycle_order.proofs.LastEdges.{IsFollowed, places_left}
use Rattle.cycle_order.proofs.search.Search.mark_before.Given as goal
use Rattle.cycle_order.specs.Graphs.{HasEdge}
use Rattle.cycle_order.specs.Search.{Finds}

abbrev pub invariant-loop-next : goal.invariant-loop-next
invariant-loop-next l = record {
  followed : IsFollowed l.into.edges.items l.t l.self.found.items l.next;
  finds : Finds (λ a. HasEdge l.into.edges.items a l.t) l.fn.self.found.items l.fn.self.frontier.items l.self.found.items l.self.frontier.items;
}

abbrev pub decreases-loop-next : goal.decreases-loop-next
decreases-loop-next l = places_left l.next
