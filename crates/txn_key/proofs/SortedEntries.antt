-- Lists of entries whose keys rise, and the maps made of them.
use Rattle.std.proofs.Common.{◌≡◌, Bool, true, false, ◌&&◌, ◌||◌, T, List, [], ◌∷◌, ◌++◌, map, sym, ap, ◌∙◌, refl, subst, length}
use Rattle.std.specs.Cmp.{IsTotalOrder}
use Rattle.std.specs.FinMap.{FinMap, entries, empty, insert, contains_key, from_sorted, is_sorted, put, same_entries_map, entries-from_sorted, entries-insert, empty_of_len, len-entries, contains_key-keys}
use Rattle.std.specs.FinMap.Entries.{below_all, by_order}
use Rattle.std.specs.List.{list_any}
use Rattle.std.specs.Ordering.{is_lt, is_eq, eq_by_cmp, ordering_reverse}
use Rattle.std.specs.declared.cmp.Ordering.{Ordering}
use Rattle.std.specs.declared.cmp.Ordering.TheVariants.{Less, Greater}
use Rattle.std.proofs.lemmas.Bool.{and_parts}
use Rattle.std.proofs.lemmas.Cmp.{tied_itself}

both_true : (a b : Bool) → a ≡ true → b ≡ true → (a && b) ≡ true
both_true a b p q = λ i. p i && q i

either_left : (a b : Bool) → a ≡ true → (a || b) ≡ true
either_left a b p = ap (λ (c : Bool). c || b) p

either_right : (a b : Bool) → b ≡ true → (a || b) ≡ true
either_right true b p = refl
either_right false b p = p

from_true : (b : Bool) → b ≡ true → T b
from_true b e = subst T (sym e) tt

turned : {K : Type 0} {R : K → K → Ordering} → IsTotalOrder R → (x k : K) → R x k ≡ Less → R k x ≡ Greater
turned o x k h = o.antisymm k x ∙ ap ordering_reverse h

module _ {K X : Type 0} {R : K → K → Ordering} (o : IsTotalOrder R) where
  -- every key there stands before k
  pub AllBefore : List (K × X) → K → Type 0
  AllBefore [] k = Unit {0}
  AllBefore (e ∷ es) k = (R e.0 k ≡ Less) × AllBefore es k

  below_all-push : (x : K) (es : List (K × X)) (k : K) (v : X) → below_all R x es ≡ true → R x k ≡ Less → below_all R x (es ++ (k, v) ∷ []) ≡ true
  below_all-push x [] k v b h = both_true _ _ (ap is_lt h) refl
  below_all-push x (e ∷ es) k v b h =
      let parts = and_parts (is_lt (R x e.0)) (below_all R x es) b in
      both_true _ _ parts.0 (below_all-push x es k v parts.1 h)

  pub is_sorted-push : (es : List (K × X)) (k : K) (v : X) → is_sorted R es ≡ true → AllBefore es k → is_sorted R (es ++ (k, v) ∷ []) ≡ true
  unfolding AllBefore
  is_sorted-push [] k v s a = refl
  is_sorted-push (e ∷ es) k v s a =
      let parts = and_parts (below_all R e.0 es) (is_sorted R es) s in
      both_true _ _ (below_all-push e.0 es k v parts.0 a.0) (is_sorted-push es k v parts.1 a.1)

  put-push : (es : List (K × X)) (k : K) (v : X) → AllBefore es k → put R k v es ≡ es ++ (k, v) ∷ []
  unfolding AllBefore
  put-push [] k v a = refl
  put-push (e ∷ es) k v a =
      ap (λ (r : Ordering). by_order r ((k, v) ∷ e ∷ es) ((e.0, v) ∷ es) (e ∷ put R k v es)) (turned o e.0 k a.0) ∙ ap (λ (rest : List (K × X)). e ∷ rest) (put-push es k v a.1)

  pub from_sorted-push : (es : List (K × X)) (k : K) (v : X) → is_sorted R es ≡ true → AllBefore es k
      → from_sorted {R = R} (es ++ (k, v) ∷ []) ≡ insert (from_sorted es) k v
  from_sorted-push es k v s a =
      let before = entries-from_sorted R es (from_true _ s) in
      let after = entries-from_sorted R (es ++ (k, v) ∷ []) (from_true _ (is_sorted-push es k v s a)) in
      same_entries_map _ _ (after ∙ sym (entries-insert o (from_sorted es) k v ∙ ap (put R k v) before ∙ put-push es k v a))

  all_before : (es : List (K × X)) (k : K) → ((q : K) → list_any (eq_by_cmp R q) (map (λ (e : K × X). e.0) es) ≡ true → R q k ≡ Less) → AllBefore es k
  unfolding AllBefore
  all_before [] k h = tt
  all_before (e ∷ es) k h = (h e.0 (either_left _ _ (ap is_eq (tied_itself o e.0))), all_before es k (λ q p. h q (either_right _ _ p)))

  pub AllBefore-from_keys : (m : FinMap R X) (k : K) → ((q : K) → contains_key m q ≡ true → R q k ≡ Less) → AllBefore (entries m) k
  AllBefore-from_keys m k h = all_before (entries m) k (λ q p. h q (contains_key-keys m q ∙ p))

module _ {K X : Type 0} (R : K → K → Ordering) where
  pub from_sorted-nil : from_sorted {X = X} {R = R} [] ≡ empty
  from_sorted-nil = empty_of_len _ (len-entries _ ∙ ap length (entries-from_sorted R [] tt))

  pub entries_of_sorted : (es : List (K × X)) → is_sorted R es ≡ true → entries (from_sorted {R = R} es) ≡ es
  entries_of_sorted es s = entries-from_sorted R es (from_true _ s)
