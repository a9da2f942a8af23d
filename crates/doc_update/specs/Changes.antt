-- The changes that an update is made of.
use Rattle.std.specs.Prelude.{ℕ, List, [], ◌∷◌, ◌++◌, map, Option, Some, None}
use Rattle.doc_value.specs.declared.value.Named.{Named}
use Rattle.doc_value.specs.declared.value.Value.{Value, out-Value}
use Rattle.doc_value.specs.declared.value.Value.TheOpen.{Value-F}
use Rattle.doc_value.specs.Paths.{parts_of}
use Rattle.doc_update.specs.Operators.{operator_named}
use Rattle.doc_update.specs.declared.operator.Operator.{Operator}

-- one operator at one path, which has the text `name`
pub record Change : Type 0 where
  pub operator : Operator
  pub name : List ℕ
  pub path : List (List ℕ)
  pub operand : Value

-- the fields of an object, none of what has no fields
abbrev pub fields_within : Value-F Value → List (Named Value)
fields_within (Value-F.Object fields) = fields
fields_within _ = []

abbrev pub fields_of : Value → List (Named Value)
fields_of value = fields_within (out-Value value)

abbrev pub change_of : Operator → Named Value → Change
change_of operator field = record {
  operator = operator;
  name = field.name;
  path = parts_of field.name;
  operand = field.value;
}

abbrev pub changes_under : Option Operator → List (Named Value) → List Change
changes_under (Some operator) fields = map (change_of operator) fields
changes_under None fields = []

abbrev pub changes_in : List (Named Value) → List Change
changes_in [] = []
changes_in (operator ∷ operators) =
    changes_under (operator_named operator.name) (fields_of operator.value) ++ changes_in operators

-- the changes of an update, in byte order of operators and of the paths under each
abbrev pub changes_of : Value → List Change
changes_of update = changes_in (fields_of update)
