use Rattle.std.proofs.Common.{◌≡◌, ◌++◌, drop}
use Rattle.std.specs.Prelude.{filter}
use Rattle.doc_update.specs.Places.{is_below}
use Rattle.doc_apply.proofs.place.push_below.Given as goal

abbrev pub invariant-loop-field : goal.invariant-loop-field
invariant-loop-field l = l.made ++ filter (is_below l.name) (drop l.field-index l.fields) ≡ l.initial.made ++ filter (is_below l.name) l.fields
