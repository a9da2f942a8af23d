-- Where keys stand among keys that rise, and what is read and put there.
use Rattle.std.proofs.Common.{◌≡◌, ℕ, zero, suc, ◌+◌, ◌<◌, ◌≤◌, Bool, true, false, cond, ◌&&◌, ◌||◌, List, [], ◌∷◌, length, get_or, set, Result, Ok, Err, Some, IfOk, IfErr, refl, sym, ap, ◌∙◌, subst, arith}
use Rattle.std.specs.List.{AllWithin, HoldsAt, list_any, zip}
use Rattle.std.specs.List.Sorted.{IsSortedBy, IsSearchInRange, IsBinarySearchResult}
use Rattle.std.specs.Ordering.{ordering_reverse, is_lt, is_eq}
use Rattle.std.specs.Cmp.{alike_right, tied_back}
use Rattle.std.specs.FinMap.Entries.{by_order, put, find, below_all, is_sorted}
use Rattle.std.specs.declared.cmp.Ordering.{Ordering}
use Rattle.std.specs.declared.cmp.Ordering.TheVariants.{Less, Equal, Greater}
use Rattle.std.proofs.lemmas.Bool.{and_parts}
use Rattle.std.proofs.lemmas.List.Sorted.{searchable_from_sorted}
use Rattle.txn_key.proofs.KeyOrder.{key_cmp_total}
use Rattle.txn_key.specs.Keys.{key_cmp, same_key}
use Rattle.txn_key.specs.Places.{GoesAt, StandsAt, below_each, keys_rise}
use Rattle.txn_key.specs.declared.key.Key.{Key}

below : (r : Ordering) → is_lt r ≡ true → r ≡ Less
below Less h = refl
below Equal h = cc h
below Greater h = cc h

turned : (x y : Key) (r : Ordering) → key_cmp x y ≡ r → key_cmp y x ≡ ordering_reverse r
turned x y r e = key_cmp_total.antisymm y x ∙ ap ordering_reverse e

front : (a b : Bool) → (a && b) ≡ true → a ≡ true
front a b h = (and_parts a b h).0

back : (a b : Bool) → (a && b) ≡ true → b ≡ true
back a b h = (and_parts a b h).1

both : (a b : Bool) → a ≡ true → b ≡ true → (a && b) ≡ true
both a b p q = λ i. p i && q i

-- ---- the search

below_at : (x : Key) (ks : List Key) (i : ℕ) (d : Key) → below_each x ks ≡ true → i < length ks → key_cmp x (get_or ks i d) ≡ Less
below_at x [] i d h within = absurd (omega arith)
below_at x (k ∷ ks) zero d h within = below _ (front _ _ h)
below_at x (k ∷ ks) (suc i) d h within = below_at x ks i d (back _ _ h) (omega arith)

rises : (ks : List Key) → keys_rise ks ≡ true → IsSortedBy (λ a b. is_lt (key_cmp a b)) ks
rises [] h i d low high = absurd (omega arith)
rises (k ∷ ks) h zero d low high = ap is_lt (turned k _ Less (below_at k ks 0 d (front _ _ h) (omega arith)))
rises (k ∷ ks) h (suc i) d low high =
    let next : suc (i + 1) ≡ suc i + 1 = omega arith in
    subst (λ (j : ℕ). is_lt (key_cmp (get_or (k ∷ ks) j d) (get_or ks i d)) ≡ false) next (rises ks (back _ _ h) i d (omega arith) (omega arith))

-- a key that ties with the key before rising keys goes at their front
goes_first : (k x : Key) (ks : List Key) → key_cmp k x ≡ Equal → below_each x ks ≡ true → GoesAt k zero ks
goes_first k x [] tie h = tt
goes_first k x (y ∷ ks) tie h = (key_cmp_total.congr k x y tie ∙ below _ (front _ _ h), goes_first k x ks tie (back _ _ h))

goes : (k : Key) (ks : List Key) (i : ℕ) → i ≤ length ks → AllWithin (λ x. key_cmp x k ≡ Less) ks 0 i → AllWithin (λ x. key_cmp x k ≡ Greater) ks i (length ks) → GoesAt k i ks
goes k [] zero within low high = tt
goes k [] (suc i) within low high = absurd (omega arith)
goes k (x ∷ ks) zero within low high = (turned x k Greater (high zero x (omega arith) (omega arith)), goes k ks zero (omega arith) (λ j d p q. absurd (omega arith)) (λ j d p q. high (suc j) d (omega arith) (omega arith)))
goes k (x ∷ ks) (suc i) within low high = (turned x k Less (low zero x (omega arith) (omega arith)), goes k ks i (omega arith) (λ j d p q. low (suc j) d (omega arith) (omega arith)) (λ j d p q. high (suc j) d (omega arith) (omega arith)))

stands : (k : Key) (ks : List Key) (i : ℕ) → keys_rise ks ≡ true → i < length ks → HoldsAt (λ x. key_cmp x k ≡ Equal) ks i → StandsAt k i ks
stands k [] i h within here = absurd (omega arith)
stands k (x ∷ ks) zero h within here =
    let tie = tied_back key_cmp_total x k (here x) in
    (tie, goes_first k x ks tie (front _ _ h))
stands k (x ∷ ks) (suc i) h within here =
    (turned x k Less (sym (alike_right key_cmp_total _ k x (here x)) ∙ below_at x ks i x (front _ _ h) (omega arith)), stands k ks i (back _ _ h) (omega arith) (λ d. here d))

-- what a binary search among keys that rise finds
pub found_in_order : (k : Key) (ks : List Key) (r : Result ℕ ℕ) → keys_rise ks ≡ true → IsSearchInRange r (length ks) → IsBinarySearchResult (λ x. key_cmp x k) ks r → IfOk r (λ i. StandsAt k i ks) × IfErr r (λ i. GoesAt k i ks)
found_in_order k ks (Ok i) h within here = (stands k ks i h within here, tt)
found_in_order k ks (Err i) h within parted =
    let two = parted (searchable_from_sorted key_cmp_total (λ x. x) ks k (rises ks h)) in
    (tt, goes k ks i within two.0 two.1)

-- a key that is there does not go anywhere
pub not_there : (k : Key) (ks : List Key) (i : ℕ) → GoesAt k i ks → list_any (same_key k) ks ≡ false
not_there k [] i h = refl
not_there k (x ∷ ks) zero h = ap (λ (r : Ordering). is_eq r || list_any (same_key k) ks) h.0 ∙ not_there k ks zero h.1
not_there k (x ∷ ks) (suc i) h = ap (λ (r : Ordering). is_eq r || list_any (same_key k) ks) h.0 ∙ not_there k ks i h.1

-- ---- entries at rising keys

module _ {X : Type 0} where
  below_zip : (k : Key) (ks : List Key) (vs : List X) → below_each k ks ≡ true → below_all key_cmp k (zip ks vs) ≡ true
  below_zip k [] vs h = refl
  below_zip k (x ∷ ks) [] h = refl
  below_zip k (x ∷ ks) (v ∷ vs) h = both _ _ (front (is_lt (key_cmp k x)) (below_each k ks) h) (below_zip k ks vs (back (is_lt (key_cmp k x)) (below_each k ks) h))

  pub rise_zip : (ks : List Key) (vs : List X) → keys_rise ks ≡ true → is_sorted key_cmp (zip ks vs) ≡ true
  rise_zip [] vs h = refl
  rise_zip (x ∷ ks) [] h = refl
  rise_zip (x ∷ ks) (v ∷ vs) h = both _ _ (below_zip x ks vs (front (below_each x ks) (keys_rise ks) h)) (rise_zip ks vs (back (below_each x ks) (keys_rise ks) h))

  pub found_at : (k : Key) (ks : List Key) (vs : List X) (i : ℕ) (d : X) → length vs ≡ length ks → StandsAt k i ks → find key_cmp k (zip ks vs) ≡ Some (get_or vs i d)
  found_at k [] vs i d same h = absurd h
  found_at k (x ∷ ks) [] i d same h = absurd (omega (arith, same))
  found_at k (x ∷ ks) (v ∷ vs) zero d same h = ap (λ (r : Ordering). cond (is_eq r) (Some v) (find key_cmp k (zip ks vs))) h.0
  found_at k (x ∷ ks) (v ∷ vs) (suc i) d same h = ap (λ (r : Ordering). cond (is_eq r) (Some v) (find key_cmp k (zip ks vs))) h.0 ∙ found_at k ks vs i d (omega (arith, same)) h.1

  pub put_at : (k : Key) (ks : List Key) (vs : List X) (i : ℕ) (v : X) → length vs ≡ length ks → StandsAt k i ks → put key_cmp k v (zip ks vs) ≡ zip ks (set vs i v)
  put_at k [] vs i v same h = absurd h
  put_at k (x ∷ ks) [] i v same h = absurd (omega (arith, same))
  put_at k (x ∷ ks) (w ∷ vs) zero v same h = ap (λ (r : Ordering). by_order r ((k, v) ∷ (x, w) ∷ zip ks vs) ((x, v) ∷ zip ks vs) ((x, w) ∷ put key_cmp k v (zip ks vs))) h.0
  put_at k (x ∷ ks) (w ∷ vs) (suc i) v same h =
      ap (λ (r : Ordering). by_order r ((k, v) ∷ (x, w) ∷ zip ks vs) ((x, v) ∷ zip ks vs) ((x, w) ∷ put key_cmp k v (zip ks vs))) h.0
      ∙ ap (λ (es : List (Key × X)). (x, w) ∷ es) (put_at k ks vs i v (omega (arith, same)) h.1)
