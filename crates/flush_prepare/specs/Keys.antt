use Rattle.std.specs.Prelude.{◌≡◌, List, [], ◌∷◌, ◌⊎◌}
use Rattle.txn_key.specs.declared.key.Key.{Key}

abbrev pub IsAmong : Key → List Key → Type 0
IsAmong key [] = ⊥
IsAmong key (k ∷ keys) = (k ≡ key) ⊎ IsAmong key keys
