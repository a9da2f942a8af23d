-- What each operator makes of the field at its path.
--
-- A field is something or nothing, since it may be missing. An effect answers what the field is afterwards, or nothing
-- where the operator doesn't fit: `None` says that it doesn't fit, `Some None` that the field is missing afterwards.
use Rattle.std.specs.Prelude.{Bool, false, not, ◌-◌, pos, ◌+ℤ◌, List, [], ◌∷◌, ◌++◌, length, take, drop, filter, Option, Some, None, if◌then◌else◌}
use Rattle.std.specs.List.{list_any}
use Rattle.std.specs.Ordering.{int_eq}
use Rattle.doc_value.specs.Sound.{fits_64_bits}
use Rattle.doc_value.specs.declared.value.Value.{Value, Int, List as Items_of, out-Value}
use Rattle.doc_value.specs.declared.value.Value.TheOpen.{Value-F}
use Rattle.doc_value.specs.Same.{same}
use Rattle.doc_update.specs.declared.operator.Operator.{Operator}
use Rattle.doc_update.specs.declared.operator.Operator.TheVariants.{Set, Unset, Inc, Push, AddToSet, Pull, Pop}

abbrev pub stands : Value → Option (Option Value)
stands value = Some (Some value)

-- the sum, where both are numbers and it fits 64 bits
abbrev pub increased : Value-F Value → Value-F Value → Option (Option Value)
increased (Value-F.Int number) (Value-F.Int more) =
    if fits_64_bits (number +ℤ more) then stands (Int (number +ℤ more)) else None
increased _ _ = None

abbrev pub is_among : Value → List Value → Bool
is_among item items = list_any (λ other. same other item) items

-- the items without all that equal that one
abbrev pub without_item : Value → List Value → List Value
without_item item items = filter (λ other. not (same other item)) items

abbrev pub is_one : Value-F Value → Bool
is_one (Value-F.Int number) = int_eq number (pos 1)
is_one _ = false

-- the items without the last for 1, without the first for -1
abbrev pub popped : Value → List Value → List Value
popped operand items =
    if is_one (out-Value operand) then take (length items - 1) items else drop 1 items

abbrev pub pushed_onto : Value → Value-F Value → Option (Option Value)
pushed_onto operand (Value-F.List items) = stands (Items_of (items ++ operand ∷ []))
pushed_onto operand _ = None

abbrev pub added_to : Value → Value-F Value → Option (Option Value)
added_to operand (Value-F.List items) =
    if is_among operand items then stands (Items_of items)
    else stands (Items_of (items ++ operand ∷ []))
added_to operand _ = None

abbrev pub pulled_from : Value → Value-F Value → Option (Option Value)
pulled_from operand (Value-F.List items) = stands (Items_of (without_item operand items))
pulled_from operand _ = None

abbrev pub popped_from : Value → Value-F Value → Option (Option Value)
popped_from operand (Value-F.List items) = stands (Items_of (popped operand items))
popped_from operand _ = None

-- what an operator makes of a field that is there
abbrev pub effect_on : Operator → Value → Value → Option (Option Value)
effect_on Set operand found = stands operand
effect_on Unset operand found = Some None
effect_on Inc operand found = increased (out-Value found) (out-Value operand)
effect_on Push operand found = pushed_onto operand (out-Value found)
effect_on AddToSet operand found = added_to operand (out-Value found)
effect_on Pull operand found = pulled_from operand (out-Value found)
effect_on Pop operand found = popped_from operand (out-Value found)

-- what it makes where the field is missing: `$set` and `$inc` put the operand, `$push` and `$addToSet` a list of it, the others nothing
abbrev pub effect_on_missing : Operator → Value → Option Value
effect_on_missing Set operand = Some operand
effect_on_missing Unset operand = None
effect_on_missing Inc operand = Some operand
effect_on_missing Push operand = Some (Items_of (operand ∷ []))
effect_on_missing AddToSet operand = Some (Items_of (operand ∷ []))
effect_on_missing Pull operand = None
effect_on_missing Pop operand = None

abbrev pub effect : Operator → Value → Option Value → Option (Option Value)
effect operator operand (Some found) = effect_on operator operand found
effect operator operand None = Some (effect_on_missing operator operand)
