use Rattle.std.proofs.Common.{◌≡◌, map, drop}
use Rattle.std.specs.Option.{option_copied}
use Rattle.doc_value.specs.Fields.{judged}
use Rattle.doc_query.specs.Conditions.{all_pass, beside_truth}
use Rattle.doc_query.proofs.condition.+passing.Given as goal

abbrev pub invariant-each_passes-loop-operator : goal.invariant-each_passes-loop-operator
invariant-each_passes-loop-operator l = all_pass (map (judged beside_truth) (drop l.operator-index l.operators)) (option_copied l.field) ≡ all_pass (map (judged beside_truth) l.operators) (option_copied l.field)
