-- What conditions ask of a field, which may be missing.
use Rattle.std.specs.Prelude.{pos, Bool, true, false, not, ◌||◌, List, [], length, Option, Some, None, is_some, if◌then◌else◌}
use Rattle.std.specs.Bool.{beq}
use Rattle.std.specs.Cmp.Lexicographic.{slice_cmp}
use Rattle.std.specs.List.{list_any, list_all}
use Rattle.std.specs.Option.{option_map_or}
use Rattle.std.specs.Ordering.{nat_cmp, int_cmp, int_eq, is_lt, is_gt}
use Rattle.std.specs.declared.cmp.Ordering.{Ordering}
use Rattle.doc_value.specs.declared.value.Named.{Named}
use Rattle.doc_value.specs.declared.value.Value.{Value, out-Value, para-Value}
use Rattle.doc_value.specs.declared.value.Value.TheOpen.{Value-F}
use Rattle.doc_query.specs.declared.operator.Comparison.{Comparison}
use Rattle.doc_query.specs.declared.operator.Comparison.TheVariants.{Greater, GreaterOrEqual, Less, LessOrEqual}
use Rattle.doc_query.specs.declared.operator.Operator.{Operator}
use Rattle.doc_query.specs.declared.operator.Operator.TheVariants.{Equal, NotEqual, In, NotIn, Exists, Size, Compare, Not}
use Rattle.doc_query.specs.Operators.{operator_named, are_operators}
use Rattle.doc_value.specs.Same.{same}

abbrev pub elements_of : Value-F Value → List Value
elements_of (Value-F.List values) = values
elements_of _ = []

abbrev pub elements : Value → List Value
elements value = elements_of (out-Value value)

-- ---- equality: null equals a missing field too, and a list's elements count

abbrev pub is_null : Value-F Value → Bool
is_null Value-F.Null = true
is_null _ = false

abbrev pub equals : Value → Option Value → Bool
equals operand None = is_null (out-Value operand)
equals operand (Some field) =
    same field operand || list_any (λ element. same element operand) (elements field)

abbrev pub equals_some : Value → Option Value → Bool
equals_some operand field = list_any (λ member. equals member field) (elements operand)

-- ---- presence and length

abbrev pub exists_layer : Value-F Value → Option Value → Bool
exists_layer (Value-F.Bool truth) field = beq (is_some field) truth
exists_layer _ field = false

abbrev pub exists : Value → Option Value → Bool
exists operand field = exists_layer (out-Value operand) field

abbrev pub size_layers : Value-F Value → Value-F Value → Bool
size_layers (Value-F.Int number) (Value-F.List values) = int_eq number (pos (length values))
size_layers _ _ = false

abbrev pub has_size : Value → Option Value → Bool
has_size operand None = false
has_size operand (Some field) = size_layers (out-Value operand) (out-Value field)

-- ---- order: of whole numbers, and of texts by their bytes; other kinds don't compare

abbrev pub order_of : Value-F Value → Value-F Value → Option Ordering
order_of (Value-F.Int number) (Value-F.Int other) = Some (int_cmp number other)
order_of (Value-F.Text text) (Value-F.Text other) = Some (slice_cmp nat_cmp text other)
order_of _ _ = None

abbrev pub allows : Comparison → Ordering → Bool
allows Greater ordering = is_gt ordering
allows GreaterOrEqual ordering = not (is_lt ordering)
allows Less ordering = is_lt ordering
allows LessOrEqual ordering = not (is_gt ordering)

-- the value compares so to the operand
abbrev pub compares : Comparison → Value → Value → Bool
compares comparison operand value =
    option_map_or (allows comparison) (order_of (out-Value value) (out-Value operand)) false

-- the field, or an element of it, compares so
abbrev pub compares_some : Comparison → Value → Option Value → Bool
compares_some comparison operand None = false
compares_some comparison operand (Some field) =
    compares comparison operand field || list_any (compares comparison operand) (elements field)

-- ---- operators

abbrev pub Truth : Type 0
Truth = Option Value → Bool

-- `inside` is the truth of the operators in the operand
abbrev pub passes : Operator → Value → Truth → Truth
passes Equal operand inside field = equals operand field
passes NotEqual operand inside field = not (equals operand field)
passes In operand inside field = equals_some operand field
passes NotIn operand inside field = not (equals_some operand field)
passes Exists operand inside field = exists operand field
passes Size operand inside field = has_size operand field
passes (Compare comparison) operand inside field = compares_some comparison operand field
passes Not operand inside field = not (inside field)

abbrev pub passes_named : Option Operator → Value → Truth → Truth
passes_named None operand inside field = false
passes_named (Some operator) operand inside field = passes operator operand inside field

-- each value stands beside the truth of the operators in it
abbrev pub all_pass : List (Named (Value × Truth)) → Truth
all_pass operators field = list_all (λ operator.
    passes_named (operator_named operator.name) operator.value.0 operator.value.1 field) operators

abbrev pub passing_step : Value-F (Value × Truth) → Truth
passing_step (Value-F.Object operators) field = all_pass operators field
passing_step _ field = false

-- the operators in a value all hold
abbrev pub passes_all : Value → Truth
passes_all = para-Value Truth passing_step

-- a value beside the truth of the operators in it
abbrev pub beside_truth : Value → Value × Truth
beside_truth value = (value, passes_all value)

-- ---- conditions: operators, or a value to equal

abbrev pub is_operators : Value-F Value → Bool
is_operators (Value-F.Object fields) = are_operators fields
is_operators _ = false

abbrev pub meets : Value → Truth
meets condition field =
    if is_operators (out-Value condition) then passes_all condition field
    else equals condition field
