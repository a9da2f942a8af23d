-- Whether fields are operators goes by their names alone, whatever stands in their values' place.
use Rattle.std.proofs.Common.{◌≡◌, ◌&&◌, List, map, ap, ◌∙◌}
use Rattle.std.proofs.lemmas.List.Folds.{list_all-map}
use Rattle.std.specs.List.{list_any, list_all}
use Rattle.doc_value.specs.Fields.{judged}
use Rattle.doc_value.specs.declared.value.Named.{Named}
use Rattle.doc_query.proofs.Lists.{list_any-map}
use Rattle.doc_query.specs.Operators.{is_operator_field, are_operators}

module _ {A B : Type 0} (f : A → B) (fields : List (Named A)) where
  pub some_operator_judged : list_any is_operator_field (map (judged f) fields) ≡ list_any is_operator_field fields
  some_operator_judged = list_any-map is_operator_field (judged f) fields

  pub are_operators_judged : are_operators (map (judged f) fields) ≡ are_operators fields
  are_operators_judged =
      ap (λ some. some && list_all is_operator_field (map (judged f) fields)) some_operator_judged
      ∙ ap (λ all. list_any is_operator_field fields && all) (list_all-map is_operator_field (judged f) fields)

pub ruleset names_alone = (some_operator_judged, are_operators_judged)
