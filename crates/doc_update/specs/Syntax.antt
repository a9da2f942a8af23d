-- What a value is as an update, or the fault for which it is refused.
use Rattle.std.specs.Prelude.{ℕ, Bool, true, false, ◌&&◌, List, [], ◌∷◌, Option, Some, None, Result, Ok, Err, is_ok, if◌then◌else◌}
use Rattle.std.specs.Option.{option_or}
use Rattle.doc_value.specs.declared.value.Named.{Named}
use Rattle.doc_value.specs.declared.value.Value.{Value, out-Value}
use Rattle.doc_value.specs.declared.value.Value.TheOpen.{Value-F}
use Rattle.doc_value.specs.Names.{is_operator_name}
use Rattle.doc_value.specs.Paths.{path_in}
use Rattle.doc_update.specs.Changes.{fields_of, changes_in}
use Rattle.doc_update.specs.Conflicts.{first_conflict}
use Rattle.doc_update.specs.Operators.{operator_named, is_operand}
use Rattle.doc_update.specs.declared.fault.UpdateFault.{UpdateFault}
use Rattle.doc_update.specs.declared.fault.UpdateFault.TheVariants.{NotOperators, Empty, UnknownOperator, BadPath, BadOperand, Conflict}
use Rattle.doc_update.specs.declared.operator.Operator.{Operator}

abbrev pub is_object_layer : Value-F Value → Bool
is_object_layer (Value-F.Object _) = true
is_object_layer _ = false

abbrev pub is_object : Value → Bool
is_object value = is_object_layer (out-Value value)

-- ---- the shape

-- each is an object under a name that begins with `$`
abbrev pub are_operators : List (Named Value) → Bool
are_operators [] = true
are_operators (operator ∷ operators) =
    (is_operator_name operator.name && is_object operator.value) && are_operators operators

abbrev pub is_empty : List (Named Value) → Bool
is_empty [] = true
is_empty _ = false

abbrev pub some_empty : List (Named Value) → Bool
some_empty [] = false
some_empty (operator ∷ operators) =
    if is_empty (fields_of operator.value) then true else some_empty operators

-- ---- the first fault of an operator, a path or an operand

abbrev pub fault_of_change : Operator → Named Value → Option UpdateFault
fault_of_change operator change =
    if is_ok (path_in change.name)
    then (if is_operand operator change.value then None else Some (BadOperand change.name))
    else Some (BadPath change.name)

abbrev pub fault_of_changes : Operator → List (Named Value) → Option UpdateFault
fault_of_changes operator [] = None
fault_of_changes operator (change ∷ changes) =
    option_or (fault_of_change operator change) (fault_of_changes operator changes)

abbrev pub fault_under : List ℕ → Option Operator → List (Named Value) → Option UpdateFault
fault_under name (Some operator) changes = fault_of_changes operator changes
fault_under name None changes = Some (UnknownOperator name)

abbrev pub fault_of_operators : List (Named Value) → Option UpdateFault
fault_of_operators [] = None
fault_of_operators (operator ∷ operators) =
    option_or (fault_under operator.name (operator_named operator.name) (fields_of operator.value))
    (fault_of_operators operators)

-- ---- the conflicts, once all else is right

abbrev pub conflict_fault : Option (List ℕ) → Option UpdateFault
conflict_fault (Some path) = Some (Conflict path)
conflict_fault None = None

-- ---- the reading

abbrev pub fault_among : List (Named Value) → Option UpdateFault
fault_among operators =
    if is_empty operators then Some Empty
    else (if some_empty operators then Some Empty
    else option_or (fault_of_operators operators)
    (conflict_fault (first_conflict (changes_in operators))))

abbrev pub fault_of_shape : List (Named Value) → Option UpdateFault
fault_of_shape operators =
    if are_operators operators then fault_among operators else Some NotOperators

abbrev pub fault_in : Value-F Value → Option UpdateFault
fault_in (Value-F.Object operators) = fault_of_shape operators
fault_in _ = Some NotOperators

abbrev pub unless_fault : Value → Option UpdateFault → Result Value UpdateFault
unless_fault value (Some fault) = Err fault
unless_fault value None = Ok value

-- an update is kept as the value that it is
abbrev pub update_in : Value → Result Value UpdateFault
update_in value = unless_fault value (fault_in (out-Value value))

abbrev pub is_update : Value → Bool
is_update value = is_ok (update_in value)
