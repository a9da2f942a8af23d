-- The operators of updates by their names, and which operands each takes.
use Rattle.std.specs.Prelude.{ℕ, Bool, true, false, ◌||◌, ◌&&◌, pos, negsuc, List, Option, Some, None, is_none, codes, if◌then◌else◌}
use Rattle.std.specs.Ordering.{int_eq}
use Rattle.std.specs.Str.{bytes_eq}
use Rattle.doc_value.specs.declared.value.Value.{Value, out-Value}
use Rattle.doc_value.specs.declared.value.Value.TheOpen.{Value-F}
use Rattle.doc_value.specs.Bodies.{refused_inside}
use Rattle.doc_update.specs.declared.operator.Operator.{Operator}
use Rattle.doc_update.specs.declared.operator.Operator.TheVariants.{Set, Unset, Inc, Push, AddToSet, Pull, Pop}

abbrev pub operator_named : List ℕ → Option Operator
operator_named name =
    if bytes_eq name (codes "$set") then Some Set
    else (if bytes_eq name (codes "$unset") then Some Unset
    else (if bytes_eq name (codes "$inc") then Some Inc
    else (if bytes_eq name (codes "$push") then Some Push
    else (if bytes_eq name (codes "$addToSet") then Some AddToSet
    else (if bytes_eq name (codes "$pull") then Some Pull
    else (if bytes_eq name (codes "$pop") then Some Pop else None))))))

-- the kind of value that an operator takes: `$inc` a number, `$pull` any but an object, `$pop` 1 or -1, the others any
abbrev pub is_of_kind : Operator → Value-F Value → Bool
is_of_kind Inc (Value-F.Int _) = true
is_of_kind Inc _ = false
is_of_kind Pull (Value-F.Object _) = false
is_of_kind Pop (Value-F.Int number) = int_eq number (pos 1) || int_eq number (negsuc 0)
is_of_kind Pop _ = false
is_of_kind _ _ = true

-- An operand is of its operator's kind, and no name inside it holds a dot or begins with `$`.
abbrev pub is_operand : Operator → Value → Bool
is_operand operator value = is_of_kind operator (out-Value value) && is_none (refused_inside value)
