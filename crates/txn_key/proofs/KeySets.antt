-- Keys that rise as a set.
use Rattle.std.proofs.Common.{◌≡◌, ℕ, zero, suc, Bool, true, false, ◌&&◌, cond, ◌||◌, T, List, [], ◌∷◌, map, Option, Some, None, is_some, refl, sym, ap, ◌∙◌}
use Rattle.std.specs.FinMap.{same_map, get, contains_key, entries, insert, empty, is_sorted, put, keys, same_entries_map, entries-insert, entries_sorted, get-insert, get-empty, contains_key-keys}
use Rattle.std.specs.FinMap.Entries.{below_all, by_order}
use Rattle.std.specs.List.{insert as insert_at, list_any}
use Rattle.std.specs.List.Sorted.{IsPermutation}
use Rattle.std.specs.Ordering.{is_lt}
use Rattle.std.specs.declared.cmp.Ordering.{Ordering}
use Rattle.std.proofs.lemmas.List.Sorted.{list_any-IsPermutation}
use Rattle.txn_key.proofs.KeyOrder.{key_cmp_total, key_cmp-IsAntisymmetric}
use Rattle.txn_key.proofs.SortedEntries.{from_sorted-nil, entries_of_sorted}
use Rattle.txn_key.specs.KeySets.{KeySet, marked, set_of, with_keys, distinct}
use Rattle.txn_key.specs.Keys.{key_cmp, same_key}
use Rattle.txn_key.specs.Places.{GoesAt, StandsAt, below_each, keys_rise}
use Rattle.txn_key.specs.declared.key.Key.{Key}

marked_below : (k : Key) (ks : List Key) → below_all key_cmp k (marked ks) ≡ below_each k ks
marked_below k [] = refl
marked_below k (x ∷ ks) = ap (λ (b : Bool). is_lt (key_cmp k x) && b) (marked_below k ks)

marked_rise : (ks : List Key) → is_sorted key_cmp (marked ks) ≡ keys_rise ks
marked_rise [] = refl
marked_rise (x ∷ ks) = λ i. marked_below x ks i && marked_rise ks i

pub members : (ks : List Key) → keys_rise ks ≡ true → entries (set_of ks) ≡ marked ks
members ks h = entries_of_sorted key_cmp (marked ks) (marked_rise ks ∙ h)

put_marked_goes : (k : Key) (ks : List Key) (i : ℕ) → GoesAt k i ks → put key_cmp k tt (marked ks) ≡ marked (insert_at ks i k)
put_marked_goes k [] zero h = refl
put_marked_goes k [] (suc i) h = absurd h
put_marked_goes k (x ∷ ks) zero h = ap (λ (r : Ordering). by_order r ((k, tt) ∷ (x, tt) ∷ marked ks) ((x, tt) ∷ marked ks) ((x, tt) ∷ put key_cmp k tt (marked ks))) h.0
put_marked_goes k (x ∷ ks) (suc i) h =
    ap (λ (r : Ordering). by_order r ((k, tt) ∷ (x, tt) ∷ marked ks) ((x, tt) ∷ marked ks) ((x, tt) ∷ put key_cmp k tt (marked ks))) h.0
    ∙ ap (λ (es : List (Key × Unit {0})). (x, tt) ∷ es) (put_marked_goes k ks i h.1)

put_marked_stands : (k : Key) (ks : List Key) (i : ℕ) → StandsAt k i ks → put key_cmp k tt (marked ks) ≡ marked ks
put_marked_stands k [] i h = absurd h
put_marked_stands k (x ∷ ks) zero h = ap (λ (r : Ordering). by_order r ((k, tt) ∷ (x, tt) ∷ marked ks) ((x, tt) ∷ marked ks) ((x, tt) ∷ put key_cmp k tt (marked ks))) h.0
put_marked_stands k (x ∷ ks) (suc i) h =
    ap (λ (r : Ordering). by_order r ((k, tt) ∷ (x, tt) ∷ marked ks) ((x, tt) ∷ marked ks) ((x, tt) ∷ put key_cmp k tt (marked ks))) h.0
    ∙ ap (λ (es : List (Key × Unit {0})). (x, tt) ∷ es) (put_marked_stands k ks i h.1)

is_true : (b : Bool) → T b → b ≡ true
is_true true h = refl
is_true false h = absurd h

inserted : (k : Key) (ks : List Key) → keys_rise ks ≡ true → entries (insert (set_of ks) k tt) ≡ put key_cmp k tt (marked ks)
inserted k ks h = entries-insert key_cmp_total (set_of ks) k tt ∙ ap (put key_cmp k tt) (members ks h)

-- the keys with one more, where it goes
pub rise_after : (k : Key) (ks : List Key) (i : ℕ) → keys_rise ks ≡ true → GoesAt k i ks → keys_rise (insert_at ks i k) ≡ true
rise_after k ks i h goes =
    sym (marked_rise (insert_at ks i k)) ∙ ap (is_sorted key_cmp) (sym (put_marked_goes k ks i goes) ∙ sym (inserted k ks h))
    ∙ is_true _ (entries_sorted (insert (set_of ks) k tt))

pub set_after : (k : Key) (ks : List Key) (i : ℕ) → keys_rise ks ≡ true → GoesAt k i ks → set_of (insert_at ks i k) ≡ insert (set_of ks) k tt
set_after k ks i h goes =
    same_entries_map _ _ (members (insert_at ks i k) (rise_after k ks i h goes) ∙ sym (put_marked_goes k ks i goes) ∙ sym (inserted k ks h))

-- a key that is there makes no difference
pub set_with : (k : Key) (ks : List Key) (i : ℕ) → keys_rise ks ≡ true → StandsAt k i ks → set_of ks ≡ insert (set_of ks) k tt
set_with k ks i h stands = same_entries_map _ _ (members ks h ∙ sym (put_marked_stands k ks i stands) ∙ sym (inserted k ks h))

keys_marked : (ks : List Key) → map (λ (e : Key × Unit {0}). e.0) (marked ks) ≡ ks
keys_marked [] = refl
keys_marked (x ∷ ks) = ap (λ (rest : List Key). x ∷ rest) (keys_marked ks)

pub keys_of_set : (ks : List Key) → keys_rise ks ≡ true → keys (set_of ks) ≡ ks
keys_of_set ks h = ap (map (λ (e : Key × Unit {0}). e.0)) (members ks h) ∙ keys_marked ks

pub set_of_none : set_of [] ≡ empty
set_of_none = from_sorted-nil key_cmp

-- ---- keys gathered one by one

contains-with_keys : (key : Key) (ks : List Key) (set : KeySet) → contains_key (with_keys ks set) key ≡ (list_any (same_key key) ks || contains_key set key)
contains-with_keys key [] set = refl
contains-with_keys key (k ∷ ks) set =
    contains-with_keys key ks (insert set k tt) ∙ ap (λ (o : Option (Unit {0})). list_any (same_key key) ks || is_some o) (get-insert key_cmp_total set k tt key)
    ∙ by (same_key key k) (list_any (same_key key) ks) (get set key)
  where
    by : (same later : Bool) (o : Option (Unit {0})) → (later || is_some (cond same (Some tt) o)) ≡ (same || later || is_some o)
    by true true o = refl
    by true false o = refl
    by false later o = refl

contains-distinct : (key : Key) (ks : List Key) → contains_key (with_keys ks empty) key ≡ list_any (same_key key) ks
contains-distinct key ks = contains-with_keys key ks empty ∙ nothing_more (list_any (same_key key) ks)
  where
    nothing_more : (b : Bool) → (b || contains_key (empty {X = Unit {0}} {R = key_cmp}) key) ≡ b
    nothing_more true = refl
    nothing_more false = ap is_some (get-empty key_cmp key)

pub among_distinct : (key : Key) (ks : List Key) → list_any (same_key key) (distinct ks) ≡ list_any (same_key key) ks
among_distinct key ks = sym (contains_key-keys (with_keys ks empty) key) ∙ contains-distinct key ks

alike : (a b : Option (Unit {0})) → is_some a ≡ is_some b → a ≡ b
alike None None e = refl
alike None (Some u) e = cc e
alike (Some t) None e = cc e
alike (Some t) (Some u) e = refl

-- the order in which keys are gathered makes no difference
pub same_keys : (ks others : List Key) → IsPermutation ks others → with_keys others empty ≡ with_keys ks empty
same_keys ks others moved = same_map key_cmp_total key_cmp-IsAntisymmetric _ _ each
  where
    each : (key : Key) → get (with_keys others empty) key ≡ get (with_keys ks empty) key
    each key = alike _ _ (contains-distinct key others ∙ sym (list_any-IsPermutation (same_key key) ks others moved) ∙ sym (contains-distinct key ks))

-- ---- the keys of a set rise

below_keys : (key : Key) (es : List (Key × Unit {0})) → below_all key_cmp key es ≡ below_each key (map (λ (e : Key × Unit {0}). e.0) es)
below_keys key [] = refl
below_keys key (e ∷ es) = ap (λ (b : Bool). is_lt (key_cmp key e.0) && b) (below_keys key es)

entries_rise : (es : List (Key × Unit {0})) → is_sorted key_cmp es ≡ keys_rise (map (λ (e : Key × Unit {0}). e.0) es)
entries_rise [] = refl
entries_rise (e ∷ es) = λ i. below_keys e.0 es i && entries_rise es i

pub distinct_rise : (ks : List Key) → keys_rise (distinct ks) ≡ true
distinct_rise ks = sym (entries_rise (entries (with_keys ks empty))) ∙ is_true _ (entries_sorted (with_keys ks empty))
