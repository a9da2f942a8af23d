use Rattle.std.proofs.Common.{arith}
use Rattle.cycle_order.proofs.Picking.{picked_all, none_all}
use Rattle.cycle_order.proofs.choice.pick.Goals as goal

pub returns-clause-first : goal.returns-clause-first
returns-clause-first c = picked_all _ c.requires _ _ c.loop-v.invariant.choice (λ v within. c.loop-v.invariant.all v (omega arith))

pub returns-clause-none : goal.returns-clause-none
returns-clause-none c = none_all _ c.requires _ _ c.loop-v.invariant.choice (λ v within. c.loop-v.invariant.all v (omega arith))
