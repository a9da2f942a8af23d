use Rattle.cycle_order.proofs.TurnedEdges.{turned_inside}
use Rattle.cycle_order.proofs.links.Links.new.Goals as goal

pub new-requires-2 : goal.new-requires-2
new-requires-2 c = turned_inside _ _ _ _ _ c.as_slice-2.ensures c.in_ok-turned.ensures c.len-count.ensures c.requires.edges
