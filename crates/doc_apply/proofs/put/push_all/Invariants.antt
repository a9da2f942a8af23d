use Rattle.std.proofs.Common.{◌≡◌, ◌++◌, take}
use Rattle.doc_apply.proofs.put.push_all.Given as goal

abbrev pub invariant-loop-field : goal.invariant-loop-field
invariant-loop-field l = l.made ≡ l.initial.made ++ take l.field-index l.fields
