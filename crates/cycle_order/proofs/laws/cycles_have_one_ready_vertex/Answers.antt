use Rattle.cycle_order.proofs.GraphLaws.{never_both}
use Rattle.cycle_order.proofs.laws.cycles_have_one_ready_vertex.Goals as goal

pub returns : goal.returns
returns c = never_both
