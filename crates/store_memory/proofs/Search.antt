use Rattle.std.proofs.Common.{◌≡◌, ℕ, zero, suc, ◌+◌, ◌<◌, ◌≤◌, Bool, true, false, cond, not, ◌&&◌, T, List, [], ◌∷◌, length, get_or, set, find, Result, Ok, Err, Some, None, option_map, IfOk, IfErr, slice_get, refl, sym, ap, ◌∙◌, subst, arith}
use Rattle.std.specs.List.{insert, remove, AllWithin, HoldsAt}
use Rattle.std.specs.List.Sorted.{IsSortedBy, IsSearchInRange, IsBinarySearchResult}
use Rattle.std.specs.Ordering.{ordering_reverse, is_lt, is_eq, eq_by_cmp}
use Rattle.std.specs.Cmp.{IsTotalOrder, alike_right, tied_back}
use Rattle.std.specs.FinMap.Entries.{by_order, put, below_all, is_sorted, where_key}
use Rattle.std.specs.FinMap.Entries.{find as value_of}
use Rattle.std.specs.declared.cmp.Ordering.{Ordering}
use Rattle.std.specs.declared.cmp.Ordering.TheVariants.{Less, Equal, Greater}
use Rattle.std.proofs.lemmas.List.Sorted.{searchable_from_sorted}
use Rattle.store_memory.specs.Positions.{GoesAt, StandsAt}

below : (r : Ordering) → T (is_lt r) → r ≡ Less
below Less h = refl
below Equal h = absurd h
below Greater h = absurd h

front : (a b : Bool) → T (a && b) → T a
front true b h = tt
front false b h = absurd h

back : (a b : Bool) → T (a && b) → T b
back true b h = h
back false b h = absurd h

module _ {K : Type 0} {R : K → K → Ordering} (o : IsTotalOrder R) where
  turned : (x y : K) (r : Ordering) → R x y ≡ r → R y x ≡ ordering_reverse r
  turned x y r e = o.antisymm y x ∙ ap ordering_reverse e

module _ {K X : Type 0} {R : K → K → Ordering} (o : IsTotalOrder R) where
  below_at : (x : K) (es : List (K × X)) (i : ℕ) (d : K × X) → T (below_all R x es) → i < length es → R x (get_or es i d).0 ≡ Less
  below_at x [] i d h within = absurd (omega arith)
  below_at x (e ∷ es) zero d h within = below _ (front _ _ h)
  below_at x (e ∷ es) (suc i) d h within = below_at x es i d (back _ _ h) (omega arith)

  rises : (es : List (K × X)) → T (is_sorted R es) → IsSortedBy (λ a b. is_lt (R a.0 b.0)) es
  rises [] h i d low high = absurd (omega arith)
  rises (e ∷ es) h zero d low high = ap is_lt (turned o e.0 _ Less (below_at e.0 es 0 d (front _ _ h) (omega arith)))
  rises (e ∷ es) h (suc i) d low high =
      let next : suc (i + 1) ≡ suc i + 1 = omega arith in
      subst (λ (j : ℕ). is_lt (R (get_or (e ∷ es) j d).0 (get_or es i d).0) ≡ false) next (rises es (back _ _ h) i d (omega arith) (omega arith))

  -- a key that ties with the key before a rising list goes at the front of that list
  goes_first : (k x : K) (es : List (K × X)) → R k x ≡ Equal → T (below_all R x es) → GoesAt R k zero es
  goes_first k x [] tie h = tt
  goes_first k x (e ∷ es) tie h = (o.congr k x e.0 tie ∙ below _ (front _ _ h), goes_first k x es tie (back _ _ h))

  goes : (k : K) (es : List (K × X)) (i : ℕ) → i ≤ length es → AllWithin (λ e. R e.0 k ≡ Less) es 0 i → AllWithin (λ e. R e.0 k ≡ Greater) es i (length es) → GoesAt R k i es
  goes k [] zero within low high = tt
  goes k [] (suc i) within low high = absurd (omega arith)
  goes k (e ∷ es) zero within low high = (turned o e.0 k Greater (high zero e (omega arith) (omega arith)), goes k es zero (omega arith) (λ j d p q. absurd (omega arith)) (λ j d p q. high (suc j) d (omega arith) (omega arith)))
  goes k (e ∷ es) (suc i) within low high = (turned o e.0 k Less (low zero e (omega arith) (omega arith)), goes k es i (omega arith) (λ j d p q. low (suc j) d (omega arith) (omega arith)) (λ j d p q. high (suc j) d (omega arith) (omega arith)))

  stands : (k : K) (es : List (K × X)) (i : ℕ) → T (is_sorted R es) → i < length es → HoldsAt (λ e. R e.0 k ≡ Equal) es i → StandsAt R k i es
  stands k [] i h within here = absurd (omega arith)
  stands k (e ∷ es) zero h within here =
      let tie = tied_back o e.0 k (here e) in
      (tie, goes_first k e.0 es tie (front _ _ h))
  stands k (e ∷ es) (suc i) h within here =
      (turned o e.0 k Less (sym (alike_right o _ k e.0 (here e)) ∙ below_at e.0 es i e (front _ _ h) (omega arith)), stands k es i (back _ _ h) (omega arith) (λ d. here d))

  -- what a binary search among entries in order finds
  pub finds : (k : K) (es : List (K × X)) (r : Result ℕ ℕ) → T (is_sorted R es) → IsSearchInRange r (length es) → IsBinarySearchResult (λ e. R e.0 k) es r → IfOk r (λ i. StandsAt R k i es) × IfErr r (λ i. GoesAt R k i es)
  finds k es (Ok i) h within here = (stands k es i h within here, tt)
  finds k es (Err i) h within parted =
      let two = parted (searchable_from_sorted o (λ e. e.0) es k (rises es h)) in
      (tt, goes k es i within two.0 two.1)

held : (b : Bool) → b ≡ true → T b
held b e = subst T (sym e) tt

pub found_in_order : {K X : Type 0} {R : K → K → Ordering} (o : IsTotalOrder R) (k : K) (es : List (K × X)) (r : Result ℕ ℕ) → is_sorted R es ≡ true → IsSearchInRange r (length es) → IsBinarySearchResult (λ e. R e.0 k) es r → IfOk r (λ i. StandsAt R k i es) × IfErr r (λ i. GoesAt R k i es)
found_in_order o k es r h = finds o k es r (held _ h)

-- what is read and written at the position of a key
module _ {K X : Type 0} (R : K → K → Ordering) (k : K) where
  pub value_goes : (es : List (K × X)) (i : ℕ) → GoesAt R k i es → value_of R k es ≡ None
  value_goes [] zero h = refl
  value_goes [] (suc i) h = absurd h
  value_goes (e ∷ es) zero h = ap (λ r. cond (is_eq r) (Some e.1) (value_of R k es)) h.0 ∙ value_goes es zero h.1
  value_goes (e ∷ es) (suc i) h = ap (λ r. cond (is_eq r) (Some e.1) (value_of R k es)) h.0 ∙ value_goes es i h.1

  pub value_stands : (es : List (K × X)) (i : ℕ) → StandsAt R k i es → value_of R k es ≡ option_map (λ e. e.1) (slice_get es i)
  value_stands [] i h = absurd h
  value_stands (e ∷ es) zero h = ap (λ r. cond (is_eq r) (Some e.1) (value_of R k es)) h.0
  value_stands (e ∷ es) (suc i) h = ap (λ r. cond (is_eq r) (Some e.1) (value_of R k es)) h.0 ∙ value_stands es i h.1

  pub put_goes : (v : X) (es : List (K × X)) (i : ℕ) → GoesAt R k i es → put R k v es ≡ insert es i (k, v)
  put_goes v [] zero h = refl
  put_goes v [] (suc i) h = absurd h
  put_goes v (e ∷ es) zero h = ap (λ r. by_order r ((k, v) ∷ e ∷ es) ((e.0, v) ∷ es) (e ∷ put R k v es)) h.0
  put_goes v (e ∷ es) (suc i) h = ap (λ r. by_order r ((k, v) ∷ e ∷ es) ((e.0, v) ∷ es) (e ∷ put R k v es)) h.0 ∙ ap (λ l. e ∷ l) (put_goes v es i h.1)

  pub put_stands : (v : X) (es : List (K × X)) (i : ℕ) (d : K × X) → StandsAt R k i es → put R k v es ≡ set es i ((get_or es i d).0, v)
  put_stands v [] i d h = absurd h
  put_stands v (e ∷ es) zero d h = ap (λ r. by_order r ((k, v) ∷ e ∷ es) ((e.0, v) ∷ es) (e ∷ put R k v es)) h.0
  put_stands v (e ∷ es) (suc i) d h = ap (λ r. by_order r ((k, v) ∷ e ∷ es) ((e.0, v) ∷ es) (e ∷ put R k v es)) h.0 ∙ ap (λ l. e ∷ l) (put_stands v es i d h.1)

  abbrev others : List (K × X) → List (K × X)
  others es = where_key R (λ x. not (eq_by_cmp R k x)) es

  pub others_goes : (es : List (K × X)) (i : ℕ) → GoesAt R k i es → others es ≡ es
  others_goes [] zero h = refl
  others_goes [] (suc i) h = absurd h
  others_goes (e ∷ es) zero h = ap (λ r. cond (not (is_eq r)) (e ∷ others es) (others es)) h.0 ∙ ap (λ l. e ∷ l) (others_goes es zero h.1)
  others_goes (e ∷ es) (suc i) h = ap (λ r. cond (not (is_eq r)) (e ∷ others es) (others es)) h.0 ∙ ap (λ l. e ∷ l) (others_goes es i h.1)

  pub others_stands : (es : List (K × X)) (i : ℕ) → StandsAt R k i es → others es ≡ remove es i
  others_stands [] i h = absurd h
  others_stands (e ∷ es) zero h = ap (λ r. cond (not (is_eq r)) (e ∷ others es) (others es)) h.0 ∙ others_goes es zero h.1
  others_stands (e ∷ es) (suc i) h = ap (λ r. cond (not (is_eq r)) (e ∷ others es) (others es)) h.0 ∙ ap (λ l. e ∷ l) (others_stands es i h.1)

  pub past_goes : (es : List (K × X)) (i : ℕ) → GoesAt R k i es → find (λ e. is_lt (R k e.0)) es ≡ slice_get es i
  past_goes [] zero h = refl
  past_goes [] (suc i) h = absurd h
  past_goes (e ∷ es) zero h = ap (λ r. cond (is_lt r) (Some e) (find (λ e. is_lt (R k e.0)) es)) h.0
  past_goes (e ∷ es) (suc i) h = ap (λ r. cond (is_lt r) (Some e) (find (λ e. is_lt (R k e.0)) es)) h.0 ∙ past_goes es i h.1

  pub past_stands : (es : List (K × X)) (i : ℕ) → StandsAt R k i es → find (λ e. is_lt (R k e.0)) es ≡ slice_get es (suc i)
  past_stands [] i h = absurd h
  past_stands (e ∷ es) zero h = ap (λ r. cond (is_lt r) (Some e) (find (λ e. is_lt (R k e.0)) es)) h.0 ∙ past_goes es zero h.1
  past_stands (e ∷ es) (suc i) h = ap (λ r. cond (is_lt r) (Some e) (find (λ e. is_lt (R k e.0)) es)) h.0 ∙ past_stands es i h.1
