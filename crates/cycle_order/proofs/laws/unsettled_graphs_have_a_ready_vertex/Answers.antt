use Rattle.cycle_order.proofs.DecidedWalks.{has_ready}
use Rattle.cycle_order.proofs.laws.unsettled_graphs_have_a_ready_vertex.Goals as goal

pub returns : goal.returns
returns c = λ graph v g u. has_ready graph g v u
