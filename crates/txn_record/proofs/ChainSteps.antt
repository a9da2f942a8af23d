-- Numbers at the places of keys, and the map that they stand for.
use Rattle.std.proofs.Common.{◌≡◌, ℕ, zero, suc, ◌+◌, ◌<◌, Bool, true, false, ◌||◌, T, List, [], ◌∷◌, ◌++◌, length, get_or, map, set, drop, Option, unwrap_or, ℤ, negsuc, refl, sym, ap, ◌∙◌, subst, arith}
use Rattle.std.proofs.lemmas.List.{at_drop_more, append_assoc}
use Rattle.std.specs.FinMap.{insert, entries, values, same_entries_map, entries-insert, get-from_sorted}
use Rattle.std.specs.FinMap.Entries.{put}
use Rattle.std.specs.List.{All, list_any, zip}
use Rattle.std.specs.Ordering.{is_eq}
use Rattle.std.specs.Cmp.{tied_itself}
use Rattle.txn_key.proofs.KeyOrder.{key_cmp_total}
use Rattle.txn_key.proofs.KeyPlaces.{rise_zip, found_at, put_at}
use Rattle.txn_key.proofs.KeySets.{among_distinct}
use Rattle.txn_key.proofs.SortedEntries.{entries_of_sorted}
use Rattle.txn_key.specs.Keys.{key_cmp, same_key}
use Rattle.txn_key.specs.Places.{StandsAt, keys_rise}
use Rattle.txn_key.specs.declared.key.Key.{Key}
use Rattle.txn_record.specs.Chain.{Numbers, keys_of, has_key, numbers_at, number_at, numbers_after_op, numbers_after, found_by}
use Rattle.txn_record.specs.Revnos.{number_after}
use Rattle.txn_record.specs.declared.op.Op.{Op}

from_true : (b : Bool) → b ≡ true → T b
from_true b e = subst T (sym e) tt

either_right : (a b : Bool) → b ≡ true → (a || b) ≡ true
either_right true b p = refl
either_right false b p = p

get_or_any : {A : Type 0} (xs : List A) (i : ℕ) (d e : A) → i < length xs → get_or xs i d ≡ get_or xs i e
get_or_any [] i d e within = absurd (omega arith)
get_or_any (x ∷ xs) zero d e within = refl
get_or_any (x ∷ xs) (suc i) d e within = get_or_any xs i d e (omega arith)

-- ---- the keys of operations

has_key-list_any : (key : Key) (ops : List Op) → list_any (same_key key) (map (λ (op : Op). op.key) ops) ≡ has_key key ops
has_key-list_any key [] = refl
has_key-list_any key (op ∷ ops) = ap (λ (b : Bool). same_key key op.key || b) (has_key-list_any key ops)

pub among_keys : (key : Key) (ops : List Op) → has_key key ops ≡ true → list_any (same_key key) (keys_of ops) ≡ true
among_keys key ops h = among_distinct key (map (λ (op : Op). op.key) ops) ∙ has_key-list_any key ops ∙ h

pub has_own_key : (ops : List Op) (i : ℕ) (op : Op) → i < length ops → op ≡ get_or ops i op → has_key op.key ops ≡ true
has_own_key [] i op within is = absurd (omega arith)
has_own_key (o ∷ ops) zero op within is = ap (λ (x : Op). same_key op.key x.key || has_key op.key ops) (sym is) ∙ ap (λ (b : Bool). b || has_key op.key ops) (ap is_eq (tied_itself key_cmp_total op.key))
has_own_key (o ∷ ops) (suc i) op within is = either_right (same_key op.key o.key) _ (has_own_key ops i op (omega arith) is)

pub each_among_keys : (ops : List Op) → All (λ (op : Op). list_any (same_key op.key) (keys_of ops) ≡ true) ops
each_among_keys ops i d within = among_keys (get_or ops i d).key ops (has_own_key ops i (get_or ops i d) within (get_or_any ops i d (get_or ops i d) within))

-- ---- numbers at the keys' places

module _ (ks : List Key) (rise : keys_rise ks ≡ true) where
  zipped : (numbers : List ℤ) → entries (numbers_at ks numbers) ≡ zip ks numbers
  zipped numbers = entries_of_sorted key_cmp (zip ks numbers) (rise_zip ks numbers rise)

  pub number_there : (key : Key) (numbers : List ℤ) (place : ℕ) (d : ℤ) → length numbers ≡ length ks → StandsAt key place ks → number_at key (numbers_at ks numbers) ≡ get_or numbers place d
  number_there key numbers place d same stands =
      ap (λ (o : Option ℤ). unwrap_or o (negsuc 0)) (get-from_sorted key_cmp (zip ks numbers) key (from_true _ (rise_zip ks numbers rise)) ∙ found_at key ks numbers place d same stands)

  pub numbers_with : (key : Key) (numbers : List ℤ) (place : ℕ) (number : ℤ) → length numbers ≡ length ks → StandsAt key place ks → insert (numbers_at ks numbers) key number ≡ numbers_at ks (set numbers place number)
  numbers_with key numbers place number same stands =
      same_entries_map _ _ (entries-insert key_cmp_total (numbers_at ks numbers) key number ∙ ap (put key_cmp key number) (zipped numbers)
      ∙ put_at key ks numbers place number same stands ∙ sym (zipped (set numbers place number)))

  zip_values : (xs : List Key) (numbers : List ℤ) → length numbers ≡ length xs → map (λ (e : Key × ℤ). e.1) (zip xs numbers) ≡ numbers
  zip_values [] [] same = refl
  zip_values [] (n ∷ ns) same = absurd (omega (arith, same))
  zip_values (x ∷ xs) [] same = absurd (omega (arith, same))
  zip_values (x ∷ xs) (n ∷ ns) same = ap (λ (rest : List ℤ). n ∷ rest) (zip_values xs ns (omega (arith, same)))

  pub values_there : (numbers : List ℤ) → length numbers ≡ length ks → values (numbers_at ks numbers) ≡ numbers
  values_there numbers same = ap (map (λ (e : Key × ℤ). e.1)) (zipped numbers) ∙ zip_values ks numbers same

  -- one operation more, whose key stands at that place
  step : (op : Op) (numbers : List ℤ) (place : ℕ) (d : ℤ) → length numbers ≡ length ks → StandsAt op.key place ks
      → numbers_after_op op (numbers_at ks numbers) ≡ numbers_at ks (set numbers place (number_after op.change (get_or numbers place d)))
  step op numbers place d same stands =
      ap (λ (n : ℤ). insert (numbers_at ks numbers) op.key (number_after op.change n)) (number_there op.key numbers place d same stands)
      ∙ numbers_with op.key numbers place _ same stands

  pub next_numbers : (ops : List Op) (i : ℕ) (op : Op) (numbers : List ℤ) (place : ℕ) (d : ℤ) → i < length ops → op ≡ get_or ops i op → length numbers ≡ length ks → StandsAt op.key place ks
      → numbers_after (drop (i + 1) ops) (numbers_at ks (set numbers place (number_after op.change (get_or numbers place d)))) ≡ numbers_after (drop i ops) (numbers_at ks numbers)
  next_numbers ops i op numbers place d within here same stands =
      let run = λ (rest : List Op). numbers_after rest (numbers_at ks numbers) in
      ap (numbers_after (drop (i + 1) ops)) (sym (step op numbers place d same stands))
      ∙ sym (at_drop_more run ops i op within ∙ ap (λ (one : Op). run (one ∷ drop (i + 1) ops)) (sym here))

  pub next_found : (ops : List Op) (i : ℕ) (op : Op) (found numbers : List ℤ) (place : ℕ) (d : ℤ) → i < length ops → op ≡ get_or ops i op → length numbers ≡ length ks → StandsAt op.key place ks
      → (found ++ get_or numbers place d ∷ []) ++ found_by (drop (i + 1) ops) (numbers_at ks (set numbers place (number_after op.change (get_or numbers place d)))) ≡ found ++ found_by (drop i ops) (numbers_at ks numbers)
  next_found ops i op found numbers place d within here same stands =
      let run = λ (rest : List Op). found ++ found_by rest (numbers_at ks numbers) in
      append_assoc found (get_or numbers place d ∷ []) _
      ∙ ap (λ (m : Numbers). found ++ get_or numbers place d ∷ found_by (drop (i + 1) ops) m) (sym (step op numbers place d same stands))
      ∙ ap (λ (n : ℤ). found ++ n ∷ found_by (drop (i + 1) ops) (numbers_after_op op (numbers_at ks numbers))) (sym (number_there op.key numbers place d same stands))
      ∙ sym (at_drop_more run ops i op within ∙ ap (λ (one : Op). run (one ∷ drop (i + 1) ops)) (sym here))
