use Rattle.cycle_order.proofs.GrowingGraphs.{graph_empty, graph_vertex, graph_settled, graph_edge}
use Rattle.cycle_order.proofs.laws.graphs_grow.Goals as goal

pub returns : goal.returns
returns c = record { empty = graph_empty; vertex = graph_vertex; settled = graph_settled; edge = graph_edge }
