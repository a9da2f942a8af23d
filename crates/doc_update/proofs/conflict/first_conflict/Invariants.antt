use Rattle.std.proofs.Common.{◌≡◌, ◌<◌, ◌≤◌, ◌-◌, take, length, true, false}
use Rattle.doc_update.specs.Changes.{changes_in}
use Rattle.doc_update.specs.Conflicts.{are_apart}
use Rattle.doc_update.proofs.conflict.first_conflict.Given as goal

abbrev pub invariant-loop-conflicting : goal.invariant-loop-conflicting
invariant-loop-conflicting l = record { apart : are_apart (take l.apart (changes_in l.operators)) ≡ true; conflicting : are_apart (take l.conflicting (changes_in l.operators)) ≡ false; order : l.apart < l.conflicting; within : l.conflicting ≤ length l.changes.items }

abbrev pub decreases-loop-conflicting : goal.decreases-loop-conflicting
decreases-loop-conflicting l = l.conflicting - l.apart
