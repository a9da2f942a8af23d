-- How deep lists and objects nest in a value.
use Rattle.std.specs.Prelude.{ℕ, suc, max, List, [], ◌∷◌}
use Rattle.doc_value.specs.declared.value.Named.{Named}
use Rattle.doc_value.specs.declared.value.Value.{Value, fold-Value}
use Rattle.doc_value.specs.declared.value.Value.TheOpen.{Value-F}

abbrev pub deepest : List ℕ → ℕ
deepest [] = 0
deepest (depth ∷ depths) = max depth (deepest depths)

abbrev pub deepest_field : List (Named ℕ) → ℕ
deepest_field [] = 0
deepest_field (field ∷ fields) = max field.value (deepest_field fields)

-- one level, with each value inside already its nesting: 0 for what holds no values, else one more than the deepest
abbrev pub nesting_step : Value-F ℕ → ℕ
nesting_step (Value-F.List depths) = suc (deepest depths)
nesting_step (Value-F.Object fields) = suc (deepest_field fields)
nesting_step _ = 0

abbrev pub nesting : Value → ℕ
nesting = fold-Value ℕ nesting_step
