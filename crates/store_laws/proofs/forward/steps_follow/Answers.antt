use Rattle.store_laws.proofs.steps.Chained.{step_then}
use Rattle.store_laws.proofs.steps.Moments.{since_step, since_then}
use Rattle.store_laws.proofs.cells.Misses.{quiet_itself, miss_leaves}
use Rattle.store_laws.proofs.forward.steps_follow.Goals as goal

pub returns : goal.returns
returns c = record { none = quiet_itself; missed = miss_leaves; both = λ a b c one two. step_then one two; chained = since_step; joined = since_then }
