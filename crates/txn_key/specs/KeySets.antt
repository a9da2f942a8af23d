-- Keys as a set, each once.
use Rattle.std.specs.Prelude.{map, List, [], ◌∷◌}
use Rattle.std.specs.FinMap.{FinMap, insert, keys as keys_in, empty, from_sorted}
use Rattle.txn_key.specs.Keys.{key_cmp}
use Rattle.txn_key.specs.declared.key.Key.{Key}

abbrev pub KeySet : Type 0
KeySet = FinMap key_cmp (Unit {0})

-- keys that rise, as entries with nothing at each, and the set of them
abbrev pub marked : List Key → List (Key × Unit {0})
marked keys = map (λ key. (key, tt)) keys

abbrev pub set_of : List Key → KeySet
set_of keys = from_sorted (marked keys)

-- the set with these keys too
abbrev pub with_keys : List Key → KeySet → KeySet
with_keys [] set = set
with_keys (key ∷ keys) set = with_keys keys (insert set key tt)

-- the keys, each once, in key order
abbrev pub distinct : List Key → List Key
distinct keys = keys_in (with_keys keys empty)
