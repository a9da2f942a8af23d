-- Whether an update fits, told from the body as it is before all its changes.
use Rattle.std.specs.Prelude.{ℕ, Bool, true, false, ◌&&◌, not, ◌+◌, List, [], ◌∷◌, length, nat_lt, Option, Some, None, is_some, if◌then◌else◌}
use Rattle.doc_value.specs.declared.value.Value.{Value}
use Rattle.doc_value.specs.Depth.{nesting}
use Rattle.doc_update.specs.Changes.{Change}
use Rattle.doc_update.specs.Effects.{effect}
use Rattle.doc_update.specs.Places.{part_of, is_open}

-- the field at the end of a path, be it there or missing; none where a parent on the way is no object
abbrev pub located : List (List ℕ) → Option Value → Option (Option Value)
located [] found = Some found
located (part ∷ parts) found = if is_open found then located parts (part_of part found) else None

abbrev pub is_nothing : Option (Option Value) → Bool
is_nothing (Some None) = true
is_nothing _ = false

-- An effect fits where it has one. Where a parent is no object it fits if it leaves the missing field missing.
abbrev pub fits_in : (Option Value → Option (Option Value)) → Option (Option Value) → Bool
fits_in effect (Some found) = is_some (effect found)
fits_in effect None = is_nothing (effect None)

abbrev pub change_fits : Value → Change → Bool
change_fits body change =
    fits_in (effect change.operator change.operand) (located change.path (Some body))

-- what stands at that depth reaches below the limit
abbrev pub reaches_below : ℕ → ℕ → Option (Option Value) → Bool
reaches_below limit depth (Some (Some value)) = nat_lt limit (depth + nesting value)
reaches_below limit depth _ = false

abbrev pub puts_below : (Option Value → Option (Option Value)) → ℕ → ℕ →
    Option (Option Value) → Bool
puts_below effect limit depth (Some found) = reaches_below limit depth (effect found)
puts_below effect limit depth None = false

-- what a change puts at its path would nest deeper than the limit
abbrev pub change_is_deep : ℕ → Value → Change → Bool
change_is_deep limit body change =
    puts_below (effect change.operator change.operand) limit (length change.path)
    (located change.path (Some body))

-- a change fits the body alone, and puts nothing too deep
abbrev pub change_is_good : Value → Change → Bool
change_is_good body change = change_fits body change && not (change_is_deep 90 body change)

-- what is afterwards nests deeper than the limit
abbrev pub nests_below : ℕ → Option (Option Value) → Bool
nests_below limit (Some (Some value)) = nat_lt limit (nesting value)
nests_below limit _ = false
