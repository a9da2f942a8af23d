use Rattle.cycle_order.proofs.GraphLaws.{ready_with_edges, clean_with_edges}
use Rattle.cycle_order.proofs.laws.late_edges_keep_the_ready.Goals as goal

pub returns : goal.returns
returns c = record { ready = ready_with_edges; clean = clean_with_edges }
