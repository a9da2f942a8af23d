use Rattle.std.proofs.Common.{◌≡◌, drop}
use Rattle.doc_value.specs.Bodies.{first_refused}
use Rattle.doc_value.proofs.body.first_refused_field.Given as goal

abbrev pub invariant-loop-field : goal.invariant-loop-field
invariant-loop-field l = first_refused l.id (drop l.field-index l.fields) ≡ first_refused l.id l.fields
