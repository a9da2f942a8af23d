use Rattle.std.proofs.Common.{◌≡◌, drop}
use Rattle.doc_update.specs.Syntax.{are_operators}
use Rattle.doc_update.proofs.shape.are_operators.Given as goal

abbrev pub invariant-loop-field : goal.invariant-loop-field
invariant-loop-field l = are_operators (drop l.field-index l.fields) ≡ are_operators l.fields
