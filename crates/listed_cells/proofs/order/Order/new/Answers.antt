use Rattle.listed_cells.proofs.Listed.{roster}
use Rattle.listed_cells.proofs.OrderMade.{gathered, graph_made, order_from}
use Rattle.listed_cells.proofs.order.Order.new.Goals as goal

pub walk_all-requires-clause-roster : goal.walk_all-requires-clause-roster
walk_all-requires-clause-roster c = rw (c.as_slice-2.ensures.value, c.in_ok-ids.ensures) (roster _ c.requires)

pub descendants-requires-clause-graph : goal.descendants-requires-clause-graph
descendants-requires-clause-graph c =
    let all = gathered _ c.requires _ _ _ _ _ _ _ c.in_ok-ids.ensures c.as_slice.ensures.value c.as_slice-2.ensures.value c.in_ok-settled.ensures c.in_ok-walked.ensures c.from_vec.ensures c.from_vec-2.ensures c.from_vec-3.ensures in
    graph_made _ _ _ all.roster all.flags all.walked

pub returns : goal.returns
returns c =
    let all = gathered _ c.requires _ _ _ _ _ _ _ c.in_ok-ids.ensures c.as_slice.ensures.value c.as_slice-2.ensures.value c.in_ok-settled.ensures c.in_ok-walked.ensures c.from_vec.ensures c.from_vec-2.ensures c.from_vec-3.ensures in
    order_from _ _ _ _ _ all c.as_slice-3.ensures.value c.in_ok-unsealed.ensures.flags c.in_ok-unsealed.ensures.exact
