use Rattle.std.proofs.Common.{◌≡◌, map, drop}
use Rattle.doc_value.specs.Fields.{judged}
use Rattle.doc_query.specs.Syntax.{operators_fault, beside_fault}
use Rattle.doc_query.proofs.reading.+conditions.Given as goal

abbrev pub invariant-check_operators-loop-field : goal.invariant-check_operators-loop-field
invariant-check_operators-loop-field l = operators_fault (map (judged beside_fault) (drop l.field-index l.fields)) ≡ operators_fault (map (judged beside_fault) l.fields)
