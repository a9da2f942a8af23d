-- Whether a query holds on a body.
use Rattle.std.specs.Prelude.{ℕ, Bool, false, not, List, Option, Some, None, if◌then◌else◌}
use Rattle.std.specs.List.{list_any, list_all}
use Rattle.doc_value.specs.Names.{is_operator_name}
use Rattle.doc_value.specs.Paths.{get_at, parts_of}
use Rattle.doc_value.specs.declared.value.Named.{Named}
use Rattle.doc_value.specs.declared.value.Value.{Value, para-Value}
use Rattle.doc_value.specs.declared.value.Value.TheOpen.{Value-F}
use Rattle.doc_query.specs.declared.operator.Logic.{Logic}
use Rattle.doc_query.specs.declared.operator.Logic.TheVariants.{And, Or, Nor}
use Rattle.doc_query.specs.Operators.{logic_named}
use Rattle.doc_query.specs.Conditions.{meets}

-- how a value is taken: as one query, or as a list of queries that must all hold, or of which some must
pub data Part : Type 0 where
  one : Part
  every : Part
  some : Part

abbrev pub TruthAs : Type 0
TruthAs = Part → Value → Bool

abbrev pub logic_holds : Option Logic → TruthAs → Value → Bool
logic_holds (Some And) inside body = inside every body
logic_holds (Some Or) inside body = inside some body
logic_holds (Some Nor) inside body = not (inside some body)
logic_holds None inside body = false

-- a name with its value, beside that value's truth as each part
abbrev pub name_holds : List ℕ → Value → TruthAs → Value → Bool
name_holds name value inside body =
    if is_operator_name name then logic_holds (logic_named name) inside body
    else meets value (get_at (parts_of name) body)

abbrev pub names_hold : List (Named (Value × TruthAs)) → Value → Bool
names_hold fields body =
    list_all (λ field. name_holds field.name field.value.0 field.value.1 body) fields

abbrev pub every_holds : List (Value × TruthAs) → Value → Bool
every_holds values body = list_all (λ value. value.1 one body) values

abbrev pub some_holds : List (Value × TruthAs) → Value → Bool
some_holds values body = list_any (λ value. value.1 one body) values

abbrev pub holding_step : Value-F (Value × TruthAs) → TruthAs
holding_step (Value-F.Object fields) one body = names_hold fields body
holding_step (Value-F.List values) every body = every_holds values body
holding_step (Value-F.List values) some body = some_holds values body
holding_step _ _ body = false

abbrev pub holds_as : Value → TruthAs
holds_as = para-Value TruthAs holding_step

-- a value beside its truth as each part
abbrev pub beside_meaning : Value → Value × TruthAs
beside_meaning value = (value, holds_as value)

-- the truth of a query on a body
abbrev pub holds : Value → Value → Bool
holds value body = holds_as value one body
