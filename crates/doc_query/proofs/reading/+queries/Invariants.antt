use Rattle.std.proofs.Common.{◌≡◌, map, drop}
use Rattle.doc_value.specs.Fields.{judged}
use Rattle.doc_query.specs.Syntax.{names_fault, members_fault, beside_fault}
use Rattle.doc_query.proofs.reading.+queries.Given as goal

abbrev pub invariant-check_names-loop-field : goal.invariant-check_names-loop-field
invariant-check_names-loop-field l = names_fault (map (judged beside_fault) (drop l.field-index l.fields)) ≡ names_fault (map (judged beside_fault) l.fields)

abbrev pub invariant-check_members-loop-value : goal.invariant-check_members-loop-value
invariant-check_members-loop-value l = members_fault l.name (map beside_fault (drop l.value-index l.values)) ≡ members_fault l.name (map beside_fault l.values)
