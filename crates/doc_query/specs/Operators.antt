-- The operators of queries: their names, and the kinds of their operands.
use Rattle.std.specs.Prelude.{ℕ, ℤ, pos, negsuc, Bool, true, false, ◌&&◌, List, codes, if◌then◌else◌, Option, Some, None}
use Rattle.std.specs.List.{list_any, list_all}
use Rattle.std.specs.Str.{bytes_eq}
use Rattle.doc_value.specs.Names.{is_operator_name}
use Rattle.doc_value.specs.declared.value.Named.{Named}
use Rattle.doc_value.specs.declared.value.Value.{Value}
use Rattle.doc_value.specs.declared.value.Value.TheOpen.{Value-F}
use Rattle.doc_query.specs.declared.operator.Comparison.TheVariants.{Greater, GreaterOrEqual, Less, LessOrEqual}
use Rattle.doc_query.specs.declared.operator.Logic.{Logic}
use Rattle.doc_query.specs.declared.operator.Logic.TheVariants.{And, Or, Nor}
use Rattle.doc_query.specs.declared.operator.Operator.{Operator}
use Rattle.doc_query.specs.declared.operator.Operator.TheVariants.{Equal, NotEqual, In, NotIn, Exists, Size, Compare, Not}

-- the operators that join queries
abbrev pub logic_named : List ℕ → Option Logic
logic_named name =
    if bytes_eq name (codes "$and") then Some And
    else (if bytes_eq name (codes "$or") then Some Or
    else (if bytes_eq name (codes "$nor") then Some Nor else None))

abbrev pub comparison_named : List ℕ → Option Operator
comparison_named name =
    if bytes_eq name (codes "$gt") then Some (Compare Greater)
    else (if bytes_eq name (codes "$gte") then Some (Compare GreaterOrEqual)
    else (if bytes_eq name (codes "$lt") then Some (Compare Less)
    else (if bytes_eq name (codes "$lte") then Some (Compare LessOrEqual) else None)))

-- the operators that ask something of a field
abbrev pub operator_named : List ℕ → Option Operator
operator_named name =
    if bytes_eq name (codes "$eq") then Some Equal
    else (if bytes_eq name (codes "$ne") then Some NotEqual
    else (if bytes_eq name (codes "$in") then Some In
    else (if bytes_eq name (codes "$nin") then Some NotIn
    else (if bytes_eq name (codes "$exists") then Some Exists
    else (if bytes_eq name (codes "$size") then Some Size
    else (if bytes_eq name (codes "$not") then Some Not
    else comparison_named name))))))

abbrev pub is_natural : ℤ → Bool
is_natural (pos n) = true
is_natural (negsuc n) = false

-- The operand is of the operator's kind. That of `$not` is read for itself.
abbrev pub is_operand : Operator → Value-F Value → Bool
is_operand Equal _ = true
is_operand NotEqual _ = true
is_operand In (Value-F.List _) = true
is_operand NotIn (Value-F.List _) = true
is_operand Exists (Value-F.Bool _) = true
is_operand Size (Value-F.Int number) = is_natural number
is_operand (Compare _) (Value-F.Int _) = true
is_operand (Compare _) (Value-F.Text _) = true
is_operand _ _ = false

-- ---- the names of an object's fields

abbrev pub is_operator_field : {A : Type 0} → Named A → Bool
is_operator_field field = is_operator_name field.name

-- operators alone, and at least one
abbrev pub are_operators : {A : Type 0} → List (Named A) → Bool
are_operators fields = list_any is_operator_field fields && list_all is_operator_field fields
