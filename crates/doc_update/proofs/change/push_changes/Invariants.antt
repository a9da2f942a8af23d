use Rattle.std.proofs.Common.{◌≡◌, ◌++◌, drop, map}
use Rattle.doc_update.specs.Changes.{change_of}
use Rattle.doc_update.specs.Listed.{change_listed}
use Rattle.doc_update.proofs.change.push_changes.Given as goal

abbrev pub invariant-loop-field : goal.invariant-loop-field
invariant-loop-field l = map change_listed l.made.items ++ map (change_of l.operator) (drop l.field-index l.fields) ≡ map change_listed l.initial.made.items ++ map (change_of l.operator) l.fields
