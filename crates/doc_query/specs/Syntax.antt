-- What a value is as a query, or the fault for which it is refused: the first in the order of the names.
use Rattle.std.specs.Prelude.{◌≡◌, ◌≢◌, ℕ, Bool, List, [], ◌∷◌, if◌then◌else◌, Option, Some, None, is_none, is_ok, Result, Ok, Err}
use Rattle.std.specs.List.{list_any}
use Rattle.std.specs.Option.{option_or}
use Rattle.doc_value.specs.Names.{is_operator_name}
use Rattle.doc_value.specs.Paths.{path_in}
use Rattle.doc_value.specs.declared.value.Named.{Named}
use Rattle.doc_value.specs.declared.value.Value.{Value, out-Value, para-Value}
use Rattle.doc_value.specs.declared.value.Value.TheOpen.{Value-F}
use Rattle.doc_query.specs.declared.fault.QueryFault.{QueryFault}
use Rattle.doc_query.specs.declared.fault.QueryFault.TheVariants.{NotObject, UnknownOperator, BadPath, BadOperand, EmptyList, Mixed, OutOfMemory}
use Rattle.doc_query.specs.declared.operator.Logic.{Logic}
use Rattle.doc_query.specs.declared.operator.Operator.{Operator}
use Rattle.doc_query.specs.declared.operator.Operator.TheVariants.{Not}
use Rattle.doc_query.specs.Operators.{logic_named, operator_named, is_operand, is_operator_field, are_operators}

-- what a value stands for in a query, with the name or the path that it stands under
pub data Place : Type 0 where
  -- the whole
  as_query : Place
  -- the list under an operator that joins queries, and each member of it
  as_queries : List ℕ → Place
  as_member : List ℕ → Place
  as_condition : List ℕ → Place
  -- the operand of `$not`
  as_negated : List ℕ → Place

-- the first fault of a value, wherever it stands
abbrev pub FaultAt : Type 0
FaultAt = Place → Option QueryFault

-- ---- under a path: each value beside its own first fault

abbrev pub operand_fault : List ℕ → Operator → Value → Option QueryFault
operand_fault name operator operand =
    if is_operand operator (out-Value operand) then None else Some (BadOperand name)

abbrev pub operator_fault : List ℕ → Option Operator → Value → FaultAt → Option QueryFault
operator_fault name None operand inside = Some (UnknownOperator name)
operator_fault name (Some Not) operand inside = inside (as_negated name)
operator_fault name (Some operator) operand inside = operand_fault name operator operand

abbrev pub operators_fault : List (Named (Value × FaultAt)) → Option QueryFault
operators_fault [] = None
operators_fault (field ∷ fields) =
    option_or (operator_fault field.name (operator_named field.name) field.value.0 field.value.1)
    (operators_fault fields)

abbrev pub condition_fault : List ℕ → List (Named (Value × FaultAt)) → Option QueryFault
condition_fault path fields =
    if are_operators fields then operators_fault fields
    else (if list_any is_operator_field fields then Some (Mixed path) else None)

abbrev pub negated_fault : List ℕ → List (Named (Value × FaultAt)) → Option QueryFault
negated_fault name fields =
    if are_operators fields then operators_fault fields else Some (BadOperand name)

-- ---- a query: its names are paths, and operators that join queries

abbrev pub logic_fault : List ℕ → Option Logic → FaultAt → Option QueryFault
logic_fault name None inside = Some (UnknownOperator name)
logic_fault name (Some logic) inside = inside (as_queries name)

abbrev pub path_fault : List ℕ → FaultAt → Option QueryFault
path_fault path inside =
    if is_ok (path_in path) then inside (as_condition path) else Some (BadPath path)

abbrev pub name_fault : List ℕ → FaultAt → Option QueryFault
name_fault name inside =
    if is_operator_name name then logic_fault name (logic_named name) inside
    else path_fault name inside

abbrev pub names_fault : List (Named (Value × FaultAt)) → Option QueryFault
names_fault [] = None
names_fault (field ∷ fields) = option_or (name_fault field.name field.value.1) (names_fault fields)

abbrev pub members_fault : List ℕ → List (Value × FaultAt) → Option QueryFault
members_fault name [] = None
members_fault name (value ∷ values) =
    option_or (value.1 (as_member name)) (members_fault name values)

abbrev pub queries_fault : List ℕ → List (Value × FaultAt) → Option QueryFault
queries_fault name [] = Some (EmptyList name)
queries_fault name values = members_fault name values

-- ---- a value, at each place

abbrev pub fault_step : Value-F (Value × FaultAt) → FaultAt
fault_step (Value-F.Object fields) as_query = names_fault fields
fault_step _ as_query = Some NotObject
fault_step (Value-F.List values) (as_queries name) = queries_fault name values
fault_step _ (as_queries name) = Some (BadOperand name)
fault_step (Value-F.Object fields) (as_member name) = names_fault fields
fault_step _ (as_member name) = Some (BadOperand name)
fault_step (Value-F.Object fields) (as_condition path) = condition_fault path fields
fault_step _ (as_condition path) = None
fault_step (Value-F.Object fields) (as_negated name) = negated_fault name fields
fault_step _ (as_negated name) = Some (BadOperand name)

abbrev pub fault_at : Value → FaultAt
fault_at = para-Value FaultAt fault_step

-- a value beside its first fault
abbrev pub beside_fault : Value → Value × FaultAt
beside_fault value = (value, fault_at value)

abbrev pub is_query : Value → Bool
is_query value = is_none (fault_at value as_query)

abbrev pub unless_faulty : Value → Option QueryFault → Result Value QueryFault
unless_faulty value None = Ok value
unless_faulty value (Some fault) = Err fault

-- the query that a value is; it is kept as that value
abbrev pub query_in : Value → Result Value QueryFault
query_in value = unless_faulty value (fault_at value as_query)

-- what a check answers where that is the first fault, but for want of memory
abbrev pub Reports : Result (Unit {0}) QueryFault → Option QueryFault → Type 0
Reports (Ok _) fault = fault ≡ None
Reports (Err why) fault = why ≢ OutOfMemory → fault ≡ Some why
