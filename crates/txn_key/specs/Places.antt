-- Where a key stands among keys that rise.
use Rattle.std.specs.Prelude.{◌≡◌, ℕ, zero, suc, Bool, true, ◌&&◌, List, [], ◌∷◌}
use Rattle.std.specs.Ordering.{is_lt}
use Rattle.std.specs.declared.cmp.Ordering.TheVariants.{Less, Equal, Greater}
use Rattle.txn_key.specs.Keys.{key_cmp}
use Rattle.txn_key.specs.declared.key.Key.{Key}

-- A key goes at a place: it is above the keys before, and below those from there on.
abbrev pub GoesAt : Key → ℕ → List Key → Type 0
GoesAt key zero [] = Unit {0}
GoesAt key (suc place) [] = ⊥
GoesAt key zero (k ∷ keys) = (key_cmp key k ≡ Less) × GoesAt key zero keys
GoesAt key (suc place) (k ∷ keys) = (key_cmp key k ≡ Greater) × GoesAt key place keys

-- A key stands at a place: it ties there, is above the keys before, and below those after.
abbrev pub StandsAt : Key → ℕ → List Key → Type 0
StandsAt key place [] = ⊥
StandsAt key zero (k ∷ keys) = (key_cmp key k ≡ Equal) × GoesAt key zero keys
StandsAt key (suc place) (k ∷ keys) = (key_cmp key k ≡ Greater) × StandsAt key place keys

abbrev pub below_each : Key → List Key → Bool
below_each key [] = true
below_each key (k ∷ keys) = is_lt (key_cmp key k) && below_each key keys

-- the keys rise, each once
abbrev pub keys_rise : List Key → Bool
keys_rise [] = true
keys_rise (key ∷ keys) = below_each key keys && keys_rise keys
