use Rattle.store_trait.proofs.HitKinds.{hit_may_leave}
use Rattle.store_trait.proofs.changes.edits_keep_kinds.Goals as goal

pub returns : goal.returns
returns c = hit_may_leave
