-- All changed parts of an object put at once.
use Rattle.std.specs.Prelude.{ℕ, suc, Bool, true, ◌&&◌, List, [], ◌∷◌, Option, Some, option_and_then, is_none, if◌then◌else◌}
use Rattle.std.specs.Str.{bytes_eq}
use Rattle.std.specs.Cmp.Lexicographic.{slice_cmp}
use Rattle.std.specs.List.{list_all}
use Rattle.std.specs.Ordering.{nat_cmp, is_lt}
use Rattle.doc_value.specs.declared.value.Named.{Named}
use Rattle.doc_value.specs.declared.value.Value.{Value}
use Rattle.doc_update.specs.Places.{with_field, placed, is_below}
use Rattle.doc_apply.specs.declared.put.Put.{Put}

-- one part after another
abbrev pub placed_all : List Put → Option Value → Option (Option Value)
placed_all [] found = Some found
placed_all (put ∷ puts) found = option_and_then (placed_all puts) (placed put.part found put.after)

-- the fields of an object with these in their places
abbrev pub with_fields : List Put → List (Named Value) → List (Named Value)
with_fields [] fields = fields
with_fields (put ∷ puts) fields = with_fields puts (with_field put.part put.after fields)

abbrev pub nothing_put : List Put → Bool
nothing_put puts = list_all (λ put. is_none put.after) puts

abbrev pub precedes_put : List ℕ → List Put → Bool
precedes_put name [] = true
precedes_put name (put ∷ puts) = is_lt (slice_cmp nat_cmp name put.part)

-- the parts in byte order, each once
abbrev pub puts_rise : List Put → Bool
puts_rise [] = true
puts_rise (put ∷ puts) = precedes_put put.part puts && puts_rise puts

abbrev pub precedes_field : List ℕ → List (Named Value) → Bool
precedes_field name [] = true
precedes_field name (field ∷ fields) = is_lt (slice_cmp nat_cmp name field.name)

-- the names in byte order, each once
abbrev pub names_rise : List (Named Value) → Bool
names_rise [] = true
names_rise (field ∷ fields) = precedes_field field.name fields && names_rise fields

-- how many fields stand before the first whose name isn't below
abbrev pub count_below : List ℕ → List (Named Value) → ℕ
count_below name [] = 0
count_below name (field ∷ fields) = if is_below name field then suc (count_below name fields) else 0

-- the fields without the first, where it has that name
abbrev pub without_own : List ℕ → List (Named Value) → List (Named Value)
without_own name [] = []
without_own name (field ∷ fields) = if bytes_eq field.name name then fields else field ∷ fields
