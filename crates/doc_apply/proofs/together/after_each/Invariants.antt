use Rattle.std.proofs.Common.{◌≡◌, drop, map}
use Rattle.doc_apply.specs.Groups.{change_below}
use Rattle.doc_update.specs.Updates.{after_changes}
use Rattle.doc_apply.proofs.together.after_each.Given as goal

abbrev pub invariant-loop-change : goal.invariant-loop-change
invariant-loop-change l = after_changes (map (change_below l.depth) (drop l.change-index l.changes)) l.made ≡ after_changes (map (change_below l.depth) l.changes) l.initial.made
