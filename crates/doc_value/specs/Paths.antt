-- What bytes are as a path, or the fault for which they are refused, and where a path leads.
use Rattle.std.specs.Prelude.{ℕ, Bool, false, List, [], ◌∷◌, ◌||◌, ◌==◌, length, nat_lt, if◌then◌else◌, Option, Some, None, option_and_then, Result, Ok, Err}
use Rattle.std.specs.List.{list_any, slice_split}
use Rattle.std.specs.Str.{is_utf8, bytes_eq}
use Rattle.doc_value.specs.declared.fault.PathFault.{PathFault}
use Rattle.doc_value.specs.declared.fault.PathFault.TheVariants.{EmptyPart, BadPart, Reserved}
use Rattle.doc_value.specs.declared.value.Named.{Named}
use Rattle.doc_value.specs.declared.value.Value.{Value, out-Value}
use Rattle.doc_value.specs.declared.value.Value.TheOpen.{Value-F}
use Rattle.doc_value.specs.Names.{is_id_name, is_transaction_name, is_operator_name}

-- the pieces between the dots
abbrev pub parts_of : List ℕ → List (List ℕ)
parts_of text = slice_split (λ byte. byte == 46) text

abbrev pub is_empty_part : List ℕ → Bool
is_empty_part part = length part == 0

-- begins with `$` or holds a NUL
abbrev pub is_bad_part : List ℕ → Bool
is_bad_part part = is_operator_name part || list_any (λ byte. byte == 0) part

abbrev pub is_reserved_part : List ℕ → Bool
is_reserved_part part = is_id_name part || is_transaction_name part

abbrev pub begins_reserved : List (List ℕ) → Bool
begins_reserved [] = false
begins_reserved (part ∷ parts) = is_reserved_part part

-- the parts of a path of that length
abbrev pub path_of : ℕ → List (List ℕ) → Result (List (List ℕ)) PathFault
path_of len parts =
    if list_any is_empty_part parts then Err EmptyPart
    else (if list_any is_bad_part parts || nat_lt 1024 len then Err BadPart
    else (if begins_reserved parts then Err Reserved else Ok parts))

unfoldable pub path_in : List ℕ → Result (List (List ℕ)) PathFault
path_in bytes = if is_utf8 bytes then path_of (length bytes) (parts_of bytes) else Err BadPart

-- ---- where a path leads

abbrev pub field_named : List ℕ → List (Named Value) → Option Value
field_named name [] = None
field_named name (field ∷ fields) =
    if bytes_eq field.name name then Some field.value else field_named name fields

-- the field of that name, of an object alone
abbrev pub field_in : List ℕ → Value-F Value → Option Value
field_in name (Value-F.Object fields) = field_named name fields
field_in name _ = None

-- From object to object: nothing where a part isn't there or its parent is no object.
abbrev pub get_at : List (List ℕ) → Value → Option Value
get_at [] value = Some value
get_at (part ∷ parts) value = option_and_then (get_at parts) (field_in part (out-Value value))
