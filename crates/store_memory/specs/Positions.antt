use Rattle.std.specs.Prelude.{◌≡◌, ℕ, zero, suc, List, [], ◌∷◌}
use Rattle.std.specs.declared.cmp.Ordering.{Ordering}
use Rattle.std.specs.declared.cmp.Ordering.TheVariants.{Less, Equal, Greater}

-- A key goes at a position among entries: it is above the keys before, and below those from there
-- on.
abbrev pub GoesAt : {K X : Type 0} → (K → K → Ordering) → K → ℕ → List (K × X) → Type 0
GoesAt order key zero [] = Unit {0}
GoesAt order key (suc position) [] = ⊥
GoesAt order key zero (entry ∷ entries) = (order key entry.0 ≡ Less) × GoesAt order key zero entries
GoesAt order key (suc position) (entry ∷ entries) =
    (order key entry.0 ≡ Greater) × GoesAt order key position entries

-- A key stands at a position: it ties there, is above the keys before, and below those after.
abbrev pub StandsAt : {K X : Type 0} → (K → K → Ordering) → K → ℕ → List (K × X) → Type 0
StandsAt order key position [] = ⊥
StandsAt order key zero (entry ∷ entries) =
    (order key entry.0 ≡ Equal) × GoesAt order key zero entries
StandsAt order key (suc position) (entry ∷ entries) =
    (order key entry.0 ≡ Greater) × StandsAt order key position entries
