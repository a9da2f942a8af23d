-- The revision numbers that operations find and leave, run in order.
use Rattle.std.specs.Prelude.{Bool, false, ◌||◌, nat_le, ℤ, negsuc, unsigned_abs, unwrap_or, map, List, [], ◌∷◌}
use Rattle.std.specs.FinMap.{FinMap, get, insert, from_sorted}
use Rattle.std.specs.List.{zip}
use Rattle.txn_key.specs.KeySets.{distinct}
use Rattle.txn_key.specs.Keys.{key_cmp, same_key}
use Rattle.txn_key.specs.declared.key.Key.{Key}
use Rattle.txn_record.specs.Revnos.{number_after}
use Rattle.txn_record.specs.declared.op.Op.{Op}

-- ---- the keys of operations

-- the distinct keys, in key order
abbrev pub keys_of : List Op → List Key
keys_of ops = distinct (map (λ (op : Op). op.key) ops)

abbrev pub has_key : Key → List Op → Bool
has_key key [] = false
has_key key (op ∷ ops) = same_key key op.key || has_key key ops

-- ---- the numbers at keys

abbrev pub Numbers : Type 0
Numbers = FinMap key_cmp ℤ

-- what stands at a key, -1 where nothing does
abbrev pub number_at : Key → Numbers → ℤ
number_at key numbers = unwrap_or (get numbers key) (negsuc 0)

-- keys that rise, each with the number beside it
abbrev pub numbers_at : List Key → List ℤ → Numbers
numbers_at keys numbers = from_sorted (zip keys numbers)

-- one number for each distinct key of the operations, in key order
abbrev pub numbers_of : List Op → List ℤ → Numbers
numbers_of ops first = numbers_at (keys_of ops) first

abbrev pub numbers_after_op : Op → Numbers → Numbers
numbers_after_op op numbers =
    insert numbers op.key (number_after op.change (number_at op.key numbers))

-- the numbers that operations leave
abbrev pub numbers_after : List Op → Numbers → Numbers
numbers_after [] numbers = numbers
numbers_after (op ∷ ops) numbers = numbers_after ops (numbers_after_op op numbers)

-- the number that each operation finds: what those before it left at its key
abbrev pub found_by : List Op → Numbers → List ℤ
found_by [] numbers = []
found_by (op ∷ ops) numbers = number_at op.key numbers ∷ found_by ops (numbers_after_op op numbers)

-- 1,000 operations lead no such number past the limit
abbrev pub has_room : ℤ → Bool
has_room number = nat_le (unsigned_abs number) 4611686018427386903
