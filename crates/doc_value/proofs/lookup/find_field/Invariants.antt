use Rattle.std.proofs.Common.{◌≡◌, drop}
use Rattle.doc_value.specs.Paths.{field_named}
use Rattle.doc_value.proofs.lookup.find_field.Given as goal

abbrev pub invariant-loop-field : goal.invariant-loop-field
invariant-loop-field l = field_named l.name (drop l.field-index l.fields) ≡ field_named l.name l.fields
