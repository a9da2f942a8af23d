-- The fields of objects: by their names, and in byte order of them.
use Rattle.std.specs.Prelude.{ℕ, Bool, true, false, List, [], ◌∷◌, if◌then◌else◌, Option, Some, None}
use Rattle.std.specs.Cmp.Lexicographic.{slice_cmp}
use Rattle.std.specs.List.{list_all}
use Rattle.std.specs.Ordering.{nat_cmp, is_lt}
use Rattle.std.specs.Str.{bytes_eq}
use Rattle.doc_value.specs.Paths.{field_in}
use Rattle.doc_value.specs.declared.value.Named.{Named as Field}
use Rattle.doc_value.specs.declared.value.Value.{Value, out-Value}
use Rattle.doc_value.specs.declared.value.Value.TheOpen.{Value-F}

abbrev pub field : List ℕ → Value → Field Value
field name value = record { name = name; value = value }

abbrev pub is_named : Field Value → List ℕ → Bool
is_named field name = bytes_eq field.name name

-- the fields of an object
abbrev pub fields_in : Value-F Value → List (Field Value)
fields_in (Value-F.Object fields) = fields
fields_in _ = []

-- the field of that name, where the value is an object that has it
abbrev pub part : List ℕ → Value → Option Value
part name value = field_in name (out-Value value)

-- an object whose fields all have names of that kind
abbrev pub has_only : (List ℕ → Bool) → Value-F Value → Bool
has_only is_known (Value-F.Object fields) = list_all (λ field. is_known field.name) fields
has_only is_known _ = false

-- the fields with one more, which stands behind those of lower names
abbrev pub inserted : Field Value → List (Field Value) → List (Field Value)
inserted new [] = new ∷ []
inserted new (field ∷ fields) =
    if is_lt (slice_cmp nat_cmp field.name new.name) then field ∷ inserted new fields
    else new ∷ field ∷ fields

-- the same, where there is a value for it
abbrev pub with_field : List ℕ → Option Value → List (Field Value) → List (Field Value)
with_field name (Some value) fields = inserted (field name value) fields
with_field name None fields = fields
