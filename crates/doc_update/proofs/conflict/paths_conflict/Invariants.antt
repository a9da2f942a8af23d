use Rattle.std.proofs.Common.{◌≡◌, ◌≤◌, drop, length}
use Rattle.doc_update.specs.Conflicts.{paths_conflict}
use Rattle.doc_update.proofs.conflict.paths_conflict.Given as goal

abbrev pub invariant-loop-i : goal.invariant-loop-i
invariant-loop-i l = record { here : paths_conflict (drop l.i l.parts) (drop l.i l.others) ≡ paths_conflict l.parts l.others; within : l.i ≤ length l.others }
