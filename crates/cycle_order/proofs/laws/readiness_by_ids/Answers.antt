use Rattle.cycle_order.proofs.IdWalks.{ready_by_ids, clean_by_ids}
use Rattle.cycle_order.proofs.laws.readiness_by_ids.Goals as goal

pub returns : goal.returns
returns c = record { ready = λ graph v g within. ready_by_ids graph g v within; clean = λ graph v g within. clean_by_ids graph g v within }
