use Rattle.listed_cells.proofs.order.Order.vertex.Goals as goal

pub place_of-requires : goal.place_of-requires
place_of-requires c = rw c.as_slice.ensures c.requires.order.roster.rise
