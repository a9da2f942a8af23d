-- How large the numbers of a chain grow.
use Rattle.std.proofs.Common.{ℕ, ◌+◌, ◌<◌, ◌≤◌, ◌^◌, Bool, true, false, if◌then◌else◌, List, set, ℤ, pos, negsuc, ◌+ℤ◌, ◌-ℤ◌, neg_ℤ, unsigned_abs, arith, SFits, w64}
use Rattle.std.specs.List.{All}
use Rattle.std.proofs.lemmas.Int.{ints}
use Rattle.std.proofs.lemmas.List.Elements.{All-set}
use Rattle.txn_record.specs.Revnos.{has_effect, next_number, number_after}
use Rattle.txn_record.specs.declared.op.Change.{Change}
use Rattle.txn_record.specs.declared.op.Change.TheVariants as change

turned_next : (n : ℤ) → unsigned_abs (neg_ℤ n +ℤ pos 1) ≤ unsigned_abs n + 1
turned_next n = omega (arith, ints)

next_one : (n : ℤ) → unsigned_abs (n +ℤ pos 1) ≤ unsigned_abs n + 1
next_one n = omega (arith, ints)

turned_before : (n : ℤ) → unsigned_abs (neg_ℤ n -ℤ pos 1) ≤ unsigned_abs n + 1
turned_before n = omega (arith, ints)

pub grows_by_one : (c : Change) (n : ℤ) → unsigned_abs (number_after c n) ≤ unsigned_abs n + 1
grows_by_one c n = by (has_effect c n)
  where
    next : (c : Change) → unsigned_abs (next_number c n) ≤ unsigned_abs n + 1
    next change.Nothing = omega arith
    next (change.Insert _) = turned_next n
    next (change.Update _) = next_one n
    next change.Remove = turned_before n

    by : (b : Bool) → unsigned_abs (if b then next_number c n else n) ≤ unsigned_abs n + 1
    by true = next c
    by false = omega arith

pub small_fits : (n : ℤ) → unsigned_abs n < 2 ^ 63 → SFits w64 n
small_fits (pos n) h = record { sfits = omega (arith, h) }
small_fits (negsuc n) h = record { sfits = omega (arith, h) }

abbrev pub room_at : ℕ → ℤ → Type 0
room_at i n = unsigned_abs n ≤ 4611686018427386903 + i

-- after one operation more
pub room_after : (i : ℕ) (numbers : List ℤ) (place : ℕ) (after : ℤ) → All (room_at i) numbers → room_at (i + 1) after → All (room_at (i + 1)) (set numbers place after)
room_after i numbers place after h at = All-set (room_at (i + 1)) numbers place after at (λ k d within. omega (arith, h k d within))
