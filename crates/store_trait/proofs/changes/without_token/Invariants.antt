use Rattle.std.proofs.Common.{◌≡◌, ◌++◌, drop}
use Rattle.store_trait.specs.Edits.{without_token}
use Rattle.store_trait.proofs.changes.without_token.Given as goal

abbrev pub invariant-loop-other : goal.invariant-loop-other
invariant-loop-other l = l.shorter ++ without_token l.token (drop l.other-index l.queue) ≡ without_token l.token l.queue
