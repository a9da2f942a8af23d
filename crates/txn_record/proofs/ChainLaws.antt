-- Chains follow their operations, begin at the keys' first numbers, and stay within the limit.
use Rattle.std.proofs.Common.{◌≡◌, ℕ, zero, suc, ◌+◌, ◌≤◌, Bool, true, false, cond, ◌&&◌, ◌||◌, T, List, [], ◌∷◌, length, map, Option, Some, None, option_map, unwrap_or, ℤ, negsuc, unsigned_abs, int_eq, nat_le, refl, sym, ap, ◌∙◌, subst, arith, if◌then◌else◌}
use Rattle.std.specs.FinMap.{get, insert, get-from_sorted, get-insert}
use Rattle.std.specs.FinMap.Entries.{find}
use Rattle.std.specs.List.{list_all, list_any, zip}
use Rattle.std.specs.Ordering.{is_eq}
use Rattle.std.specs.Cmp.{tied_itself, Equal-is}
use Rattle.std.proofs.lemmas.Bool.{and_parts}
use Rattle.std.proofs.lemmas.Bool.Decides.{Decides-int_eq, nat_tests}
use Rattle.txn_key.proofs.KeyOrder.{key_cmp_total, key_cmp-IsAntisymmetric}
use Rattle.txn_key.proofs.KeyPlaces.{rise_zip}
use Rattle.txn_key.proofs.KeySets.{distinct_rise}
use Rattle.txn_key.specs.Keys.{key_cmp, same_key}
use Rattle.txn_key.specs.declared.key.Key.{Key}
use Rattle.txn_record.proofs.ChainSteps.{among_keys}
use Rattle.txn_record.proofs.NumberSizes.{grows_by_one}
use Rattle.txn_record.specs.Chain.{Numbers, keys_of, has_key, numbers_of, number_at, numbers_after_op, found_by, has_room}
use Rattle.txn_record.specs.Revnos.{number_after, first_on, follows, is_within, stays_within}
use Rattle.txn_record.specs.declared.op.Op.{Op}

same_key_is : (a b : Key) → same_key a b ≡ true → a ≡ b
same_key_is a b e = key_cmp-IsAntisymmetric a b ((Equal-is (key_cmp a b)).0 e)

own_key : (key : Key) → same_key key key ≡ true
own_key key = ap is_eq (tied_itself key_cmp_total key)

number_with : (numbers : Numbers) (at key : Key) (number : ℤ) → number_at key (insert numbers at number) ≡ unwrap_or (cond (same_key key at) (Some number) (get numbers key)) (negsuc 0)
number_with numbers at key number = ap (λ (o : Option ℤ). unwrap_or o (negsuc 0)) (get-insert key_cmp_total numbers at number key)

own_number : (numbers : Numbers) (key : Key) (number : ℤ) → number_at key (insert numbers key number) ≡ number
own_number numbers key number = number_with numbers key key number ∙ ap (λ (b : Bool). unwrap_or (cond b (Some number) (get numbers key)) (negsuc 0)) (own_key key)

other_number : (numbers : Numbers) (at key : Key) (number : ℤ) → same_key key at ≡ false → number_at key (insert numbers at number) ≡ number_at key numbers
other_number numbers at key number e = number_with numbers at key number ∙ ap (λ (b : Bool). unwrap_or (cond b (Some number) (get numbers key)) (negsuc 0)) e

-- the number that the first operation on a key finds
first_found : (key : Key) (ops : List Op) (numbers : Numbers) → first_on key ops (found_by ops numbers) ≡ cond (has_key key ops) (Some (number_at key numbers)) None
first_found key [] numbers = refl
first_found key (op ∷ ops) numbers = by (same_key key op.key) refl (first_found key ops (numbers_after_op op numbers))
  where
    later : List ℤ
    later = found_by ops (numbers_after_op op numbers)

    after : ℤ
    after = number_after op.change (number_at op.key numbers)

    by : (b : Bool) → same_key key op.key ≡ b → first_on key ops later ≡ cond (has_key key ops) (Some (number_at key (numbers_after_op op numbers))) None
        → (if b then Some (number_at op.key numbers) else first_on key ops later) ≡ cond (b || has_key key ops) (Some (number_at key numbers)) None
    by true e rest = ap (λ (k : Key). Some (number_at k numbers)) (sym (same_key_is key op.key e))
    by false e rest = rest ∙ ap (λ (n : ℤ). cond (has_key key ops) (Some n) None) (other_number numbers op.key key after e)

pub begins_there : (key : Key) (ops : List Op) (numbers : Numbers) → has_key key ops ≡ true → first_on key ops (found_by ops numbers) ≡ Some (number_at key numbers)
begins_there key ops numbers h = first_found key ops numbers ∙ ap (λ (b : Bool). cond b (Some (number_at key numbers)) None) h

int_eq-itself : (n : ℤ) → int_eq n n ≡ true
int_eq-itself n = (Decides-int_eq n n).1 refl

pub follows_found : (ops : List Op) (numbers : Numbers) → follows ops (found_by ops numbers) ≡ true
follows_found [] numbers = refl
follows_found (op ∷ ops) numbers = (λ i. here i && follows_found ops (numbers_after_op op numbers) i)
  where
    after : ℤ
    after = number_after op.change (number_at op.key numbers)

    here : unwrap_or (option_map (int_eq after) (first_on op.key ops (found_by ops (numbers_after_op op numbers)))) true ≡ true
    here = ap (λ (o : Option ℤ). unwrap_or (option_map (int_eq after) o) true) (first_found op.key ops (numbers_after_op op numbers) ∙ ap (λ (n : ℤ). cond (has_key op.key ops) (Some n) None) (own_number numbers op.key after))
        ∙ by (has_key op.key ops)
      where
        by : (b : Bool) → unwrap_or (option_map (int_eq after) (cond b (Some after) None)) true ≡ true
        by true = int_eq-itself after
        by false = refl

-- ---- the numbers that a chain begins at

from_true : (b : Bool) → b ≡ true → T b
from_true b e = subst T (sym e) tt

found_in : (key : Key) (ops : List Op) (first : List ℤ) → number_at key (numbers_of ops first) ≡ unwrap_or (find key_cmp key (zip (keys_of ops) first)) (negsuc 0)
found_in key ops first = ap (λ (o : Option ℤ). unwrap_or o (negsuc 0)) (get-from_sorted key_cmp (zip (keys_of ops) first) key (from_true _ (rise_zip (keys_of ops) first (distinct_rise (map (λ (op : Op). op.key) ops)))))

find_own : (key : Key) (number : Key → ℤ) (ks : List Key) → list_any (same_key key) ks ≡ true → find key_cmp key (zip ks (map number ks)) ≡ Some (number key)
find_own key number [] h = cc h
find_own key number (k ∷ ks) h = by (same_key key k) refl (find_own key number ks)
  where
    by : (b : Bool) → same_key key k ≡ b → (list_any (same_key key) ks ≡ true → find key_cmp key (zip ks (map number ks)) ≡ Some (number key))
        → cond b (Some (number k)) (find key_cmp key (zip ks (map number ks))) ≡ Some (number key)
    by true e rest = ap (λ (x : Key). Some (number x)) (sym (same_key_is key k e))
    by false e rest = rest (sym (ap (λ (b : Bool). b || list_any (same_key key) ks) e) ∙ h)

pub begun_by : (key : Key) (ops : List Op) (number : Key → ℤ) → has_key key ops ≡ true → number_at key (numbers_of ops (map number (keys_of ops))) ≡ number key
begun_by key ops number h =
    found_in key ops (map number (keys_of ops)) ∙ ap (λ (o : Option ℤ). unwrap_or o (negsuc 0)) (find_own key number (keys_of ops) (among_keys key ops h))

-- ---- how far they go

fits_in : ℕ → ℤ → Type 0
fits_in n number = unsigned_abs number + n ≤ 4611686018427387904

within : (number : ℤ) → unsigned_abs number ≤ 4611686018427387904 → is_within number ≡ true
within number h = grind (arith, nat_tests)

stays : (ops : List Op) (numbers : Numbers) (n : ℕ) → length ops ≤ n → ((key : Key) → unsigned_abs (number_at key numbers) + n ≤ 4611686018427387904) → stays_within ops (found_by ops numbers) ≡ true
stays [] numbers n few room = refl
stays (op ∷ ops) numbers zero few room = absurd (omega (arith, few))
stays (op ∷ ops) numbers (suc n) few room = λ i. (within found (omega (arith, room op.key)) i && within after (omega (arith, grown, room op.key)) i) && stays ops (numbers_after_op op numbers) n (omega (arith, few)) next i
  where
    found : ℤ
    found = number_at op.key numbers

    after : ℤ
    after = number_after op.change found

    grown : unsigned_abs after ≤ unsigned_abs found + 1
    grown = grows_by_one op.change found

    next : (key : Key) → unsigned_abs (number_at key (numbers_after_op op numbers)) + n ≤ 4611686018427387904
    next key = subst (λ (x : ℤ). unsigned_abs x + n ≤ 4611686018427387904) (sym (number_with numbers op.key key after)) (by (same_key key op.key))
      where
        by : (b : Bool) → unsigned_abs (unwrap_or (cond b (Some after) (get numbers key)) (negsuc 0)) + n ≤ 4611686018427387904
        by true = omega (arith, grown, room op.key)
        by false = omega (arith, room key)

room_found : (key : Key) (ks : List Key) (first : List ℤ) → list_all has_room first ≡ true → unsigned_abs (unwrap_or (find key_cmp key (zip ks first)) (negsuc 0)) ≤ 4611686018427386903
room_found key [] first h = omega arith
room_found key (k ∷ ks) [] h = omega arith
room_found key (k ∷ ks) (n ∷ ns) h = by (same_key key k) (room_found key ks ns (and_parts (has_room n) (list_all has_room ns) h).1)
  where
    here : unsigned_abs n ≤ 4611686018427386903
    here = small (and_parts (has_room n) (list_all has_room ns) h).0
      where
        small : nat_le (unsigned_abs n) 4611686018427386903 ≡ true → unsigned_abs n ≤ 4611686018427386903
        small e = grind (arith, nat_tests)

    by : (b : Bool) → unsigned_abs (unwrap_or (find key_cmp key (zip ks ns)) (negsuc 0)) ≤ 4611686018427386903
        → unsigned_abs (unwrap_or (cond b (Some n) (find key_cmp key (zip ks ns))) (negsuc 0)) ≤ 4611686018427386903
    by true rest = here
    by false rest = rest

pub stays_found : (ops : List Op) (first : List ℤ) → length ops ≤ 1000 → list_all has_room first ≡ true → stays_within ops (found_by ops (numbers_of ops first)) ≡ true
stays_found ops first few room = stays ops (numbers_of ops first) 1000 few (λ key. next key)
  where
    next : (key : Key) → unsigned_abs (number_at key (numbers_of ops first)) + 1000 ≤ 4611686018427387904
    next key = subst (λ (x : ℤ). unsigned_abs x + 1000 ≤ 4611686018427387904) (sym (found_in key ops first)) (omega (arith, room_found key (keys_of ops) first room))
