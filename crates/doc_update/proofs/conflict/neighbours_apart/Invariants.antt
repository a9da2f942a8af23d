use Rattle.std.proofs.Common.{◌≡◌, drop, map}
use Rattle.doc_update.specs.Conflicts.{neighbours_apart}
use Rattle.doc_update.specs.Listed.{change_listed}
use Rattle.doc_update.proofs.conflict.neighbours_apart.Given as goal

abbrev pub invariant-loop-i : goal.invariant-loop-i
invariant-loop-i l = neighbours_apart (map change_listed (drop l.i l.changes)) ≡ neighbours_apart (map change_listed l.changes)
