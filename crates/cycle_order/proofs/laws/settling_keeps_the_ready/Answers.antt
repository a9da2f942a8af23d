use Rattle.cycle_order.proofs.GraphLaws.{ready_with_settled, clean_with_settled}
use Rattle.cycle_order.proofs.laws.settling_keeps_the_ready.Goals as goal

pub returns : goal.returns
returns c = record { ready = ready_with_settled; clean = clean_with_settled }
