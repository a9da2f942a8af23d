use Rattle.std.proofs.Common.{◌≡◌, drop}
use Rattle.std.specs.List.{list_all}
use Rattle.cell_text.specs.Syntax.{is_record_name}
use Rattle.cell_text.proofs.read.are_record_fields.Given as goal

abbrev pub invariant-loop-field : goal.invariant-loop-field
invariant-loop-field l = list_all (λ field. is_record_name field.name) (drop l.field-index l.fields) ≡ list_all (λ field. is_record_name field.name) l.fields
