use Rattle.std.proofs.Common.{◌≡◌, ◌++◌, drop, filter, not}
use Rattle.cell_text.specs.Syntax.{is_own_name}
use Rattle.cell_text.proofs.read.other_fields.Given as goal

abbrev pub invariant-loop-field : goal.invariant-loop-field
invariant-loop-field l =
    l.rest ++ filter (λ field. not (is_own_name field.name)) (drop l.field-index l.fields) ≡ filter (λ field. not (is_own_name field.name)) l.fields
