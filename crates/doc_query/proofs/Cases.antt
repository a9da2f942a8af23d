-- What the truth of a query says of an object and of a list, in terms of what stands inside.
use Rattle.std.proofs.Common.{◌≡◌, Option, List, map, rules, ◌∙◌}
use Rattle.std.proofs.lemmas.List.Folds.{list_all-map}
use Rattle.std.specs.List.{list_any, list_all}
use Rattle.doc_value.specs.Fields.{judged}
use Rattle.doc_value.specs.declared.value.Named.{Named}
use Rattle.doc_value.specs.declared.value.Value.{Value, List as Items_of, Object, the_lemmas}
use Rattle.doc_query.proofs.Levels.{passes_all_level, holds_as_level}
use Rattle.doc_query.proofs.Lists.{list_any-map}
use Rattle.doc_query.specs.Conditions.{all_pass, passes_all, passes_named, beside_truth}
use Rattle.doc_query.specs.Meaning.{every, some, names_hold, name_holds, every_holds, some_holds, holds, holds_as, beside_meaning}
use Rattle.doc_query.specs.Operators.{operator_named}

names_level : (fields : List (Named Value)) (body : Value) → holds (Object fields) body ≡ names_hold (map (judged beside_meaning) fields) body
names_level fields body = search (rules, the_lemmas, holds_as_level)

every_level : (queries : List Value) (body : Value) → holds_as (Items_of queries) every body ≡ every_holds (map beside_meaning queries) body
every_level queries body = search (rules, the_lemmas, holds_as_level)

some_level : (queries : List Value) (body : Value) → holds_as (Items_of queries) some body ≡ some_holds (map beside_meaning queries) body
some_level queries body = search (rules, the_lemmas, holds_as_level)

operators_level : (operators : List (Named Value)) (field : Option Value) → passes_all (Object operators) field ≡ all_pass (map (judged beside_truth) operators) field
operators_level operators field = search (rules, the_lemmas, passes_all_level)

pub names_case : (fields : List (Named Value)) (body : Value)
    → holds (Object fields) body ≡ list_all (λ field. name_holds field.name field.value (holds_as field.value) body) fields
names_case fields body = names_level fields body ∙ list_all-map _ (judged beside_meaning) fields

pub every_case : (queries : List Value) (body : Value) → holds_as (Items_of queries) every body ≡ list_all (λ query. holds query body) queries
every_case queries body = every_level queries body ∙ list_all-map _ beside_meaning queries

pub some_case : (queries : List Value) (body : Value) → holds_as (Items_of queries) some body ≡ list_any (λ query. holds query body) queries
some_case queries body = some_level queries body ∙ list_any-map _ beside_meaning queries

pub operators_case : (operators : List (Named Value)) (field : Option Value)
    → passes_all (Object operators) field ≡ list_all (λ operator. passes_named (operator_named operator.name) operator.value (passes_all operator.value) field) operators
operators_case operators field = operators_level operators field ∙ list_all-map _ (judged beside_truth) operators
