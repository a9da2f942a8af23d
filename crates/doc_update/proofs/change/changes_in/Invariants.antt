use Rattle.std.proofs.Common.{◌≡◌, ◌++◌, drop, map}
use Rattle.doc_update.specs.Changes.{changes_in}
use Rattle.doc_update.specs.Listed.{change_listed}
use Rattle.doc_update.proofs.change.changes_in.Given as goal

abbrev pub invariant-loop-field : goal.invariant-loop-field
invariant-loop-field l = map change_listed l.made.items ++ changes_in (drop l.field-index l.operators) ≡ changes_in l.operators
