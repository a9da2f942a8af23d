-- The fields of an object stand in byte order of their names, each name once, at every depth.
use Rattle.std.specs.Prelude.{ℕ, Bool, true, ◌&&◌, List, [], ◌∷◌}
use Rattle.std.specs.Ordering.{nat_cmp, is_lt}
use Rattle.std.specs.Cmp.Lexicographic.{slice_cmp}
use Rattle.doc_value.specs.declared.value.Named.{Named}
use Rattle.doc_value.specs.declared.value.Value.{Value, fold-Value}
use Rattle.doc_value.specs.declared.value.Value.TheOpen.{Value-F}

-- the name is below that of the next field
abbrev pub precedes : {A : Type 0} → List ℕ → List (Named A) → Bool
precedes name [] = true
precedes name (field ∷ fields) = is_lt (slice_cmp nat_cmp name field.name)

abbrev pub all_ordered : List Bool → Bool
all_ordered [] = true
all_ordered (ordered ∷ rest) = ordered && all_ordered rest

abbrev pub fields_ordered : List (Named Bool) → Bool
fields_ordered [] = true
fields_ordered (field ∷ fields) =
    precedes field.name fields && (field.value && fields_ordered fields)

-- one level, with each value inside already judged
abbrev pub ordered_step : Value-F Bool → Bool
ordered_step (Value-F.List items) = all_ordered items
ordered_step (Value-F.Object fields) = fields_ordered fields
ordered_step _ = true

abbrev pub is_ordered : Value → Bool
is_ordered = fold-Value Bool ordered_step
