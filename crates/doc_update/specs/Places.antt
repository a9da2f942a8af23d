-- A change at the end of a path, and what becomes of all that the path leads through.
use Rattle.std.specs.Prelude.{ℕ, Bool, true, List, [], ◌∷◌, ◌++◌, filter, Option, Some, None, option_and_then}
use Rattle.std.specs.Cmp.Lexicographic.{slice_cmp}
use Rattle.std.specs.Ordering.{nat_cmp, is_lt, is_gt}
use Rattle.doc_value.specs.declared.value.Named.{Named}
use Rattle.doc_value.specs.declared.value.Value.{Value, Object, out-Value}
use Rattle.doc_value.specs.declared.value.Value.TheOpen.{Value-F}
use Rattle.doc_value.specs.Paths.{field_in}
use Rattle.doc_update.specs.Syntax.{is_object}

abbrev pub is_below : List ℕ → Named Value → Bool
is_below name field = is_lt (slice_cmp nat_cmp field.name name)

abbrev pub is_above : List ℕ → Named Value → Bool
is_above name field = is_gt (slice_cmp nat_cmp field.name name)

abbrev pub field_or_none : List ℕ → Option Value → List (Named Value)
field_or_none name (Some value) = record { name = name; value = value } ∷ []
field_or_none name None = []

-- the fields, in byte order of their names, with this one as it is afterwards in its place
abbrev pub with_field : List ℕ → Option Value → List (Named Value) → List (Named Value)
with_field name after fields =
    filter (is_below name) fields ++ field_or_none name after ++ filter (is_above name) fields

-- the field of that name, of an object that is there
abbrev pub part_of : List ℕ → Option Value → Option Value
part_of part None = None
part_of part (Some value) = field_in part (out-Value value)

-- a field may be put there: in an object, and where nothing is
abbrev pub is_open : Option Value → Bool
is_open None = true
is_open (Some value) = is_object value

-- What has no fields takes none; nothing changes there where the field is missing afterwards.
abbrev pub placed_in : List ℕ → Option Value → Value → Value-F Value → Option (Option Value)
placed_in part after value (Value-F.Object fields) =
    Some (Some (Object (with_field part after fields)))
placed_in part None value _ = Some (Some value)
placed_in part (Some after) value _ = None

-- what was found, with its field of that name as it is afterwards: a missing parent becomes an object where the field is there
abbrev pub placed : List ℕ → Option Value → Option Value → Option (Option Value)
placed part (Some value) after = placed_in part after value (out-Value value)
placed part None (Some after) = Some (Some (Object (record { name = part; value = after } ∷ [])))
placed part None None = Some None

-- what is found afterwards, where an effect is had at the end of the path
abbrev pub changed : (Option Value → Option (Option Value)) → List (List ℕ) →
    Option Value → Option (Option Value)
changed effect [] found = effect found
changed effect (part ∷ parts) found =
    option_and_then (placed part found) (changed effect parts (part_of part found))
