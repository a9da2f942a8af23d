-- Where an entry is put, all others stay in their order.
use Rattle.std.proofs.Common.{◌≡◌, ◌≢◌, Bool, true, false, ◌&&◌, cond, T, Option, Some, None, List, [], ◌∷◌, ◌++◌, sym, ap, ◌∙◌, refl, subst}
use Rattle.std.specs.Cmp.{IsTotalOrder}
use Rattle.std.specs.FinMap.{FinMap, IsAntisymmetric, entries, entries_sorted, get, get-entries, insert, entries-insert, find, put, is_sorted}
use Rattle.std.specs.FinMap.Entries.{below_all, by_order}
use Rattle.std.specs.List.{AllByRecursion}
use Rattle.std.specs.Ordering.{is_lt, is_eq, ordering_reverse}
use Rattle.std.specs.declared.cmp.Ordering.{Ordering}
use Rattle.std.specs.declared.cmp.Ordering.TheVariants.{Less, Equal, Greater}
use Rattle.std.proofs.lemmas.Cmp.{tied_itself}

-- the entry under a key, if there is one
abbrev pub entry_of : {K X : Type 0} → K → Option X → List (K × X)
entry_of k None = []
entry_of k (Some v) = (k, v) ∷ []

pub record IsSplit {K X : Type 0} (k : K) (v : X) (old : Option X) (was is : List (K × X)) : Type 0 where
  pub pre : List (K × X)
  pub post : List (K × X)
  pub before : was ≡ pre ++ (entry_of k old ++ post)
  pub after : is ≡ pre ++ (k, v) ∷ post
  pub apart_before : AllByRecursion (λ (e : K × X). e.0 ≢ k) pre
  pub apart_after : AllByRecursion (λ (e : K × X). e.0 ≢ k) post

pub both : (a b : Bool) → T (a && b) → T a × T b
both true b p = (tt, p)
both false b p = absurd p

less : (o : Ordering) → T (is_lt o) → o ≡ Less
less Less p = refl
less Equal p = absurd p
less Greater p = absurd p

not_less : (r : Ordering) → r ≡ Equal → r ≡ Less → ⊥
not_less r p q = cc

-- two keys of which one is below the other
unlike : {K : Type 0} {R : K → K → Ordering} → IsTotalOrder R → (x y : K) → R x y ≡ Less → y ≢ x
unlike {K} {R} o x y p q = not_less (R x x) (tied_itself o x) (subst (λ (z : K). R x z ≡ Less) q p)

module _ {K X : Type 0} {R : K → K → Ordering} (o : IsTotalOrder R) (same : IsAntisymmetric R) where
  -- no entry under a key that is below all keys
  pub find_below : (q : K) (es : List (K × X)) → T (below_all R q es) → find R q es ≡ None
  find_below q [] h = refl
  find_below q (e ∷ es) h =
      let parts = both _ _ h in
      ap (λ (r : Ordering). cond (is_eq r) (Some e.1) (find R q es)) (less _ parts.0) ∙ find_below q es parts.1

  below_chain : (x y : K) (es : List (K × X)) → R x y ≡ Less → T (below_all R y es) → T (below_all R x es)
  below_chain x y [] p h = tt
  below_chain x y (e ∷ es) p h =
      let parts = both _ _ h in
      subst T (sym (ap (λ (r : Ordering). is_lt r && below_all R x es) (o.trans x y e.0 p (less _ parts.0)))) (below_chain x y es p parts.1)

  unlike_below : (k : K) (es : List (K × X)) → T (below_all R k es) → AllByRecursion (λ (e : K × X). e.0 ≢ k) es
  unlike_below k [] h = tt
  unlike_below k (e ∷ es) h = (unlike o k e.0 (less _ (both _ _ h).0), unlike_below k es (both _ _ h).1)

  put_split : (k : K) (v : X) (es : List (K × X)) → T (is_sorted R es) → IsSplit k v (find R k es) es (put R k v es)
  put_split k v [] h = record { pre = []; post = []; before = refl; after = refl; apart_before = tt; apart_after = tt }
  put_split k v (e ∷ es) h = at (R k e.0) refl (put_split k v es (both _ _ h).1)
    where
      at : (r : Ordering) → R k e.0 ≡ r → IsSplit k v (find R k es) es (put R k v es)
          → IsSplit k v (cond (is_eq (R k e.0)) (Some e.1) (find R k es)) (e ∷ es) (by_order (R k e.0) ((k, v) ∷ e ∷ es) ((e.0, v) ∷ es) (e ∷ put R k v es))
      at Less p rest =
          let far = below_chain k e.0 es p (both _ _ h).0 in
          rw (p, find_below k es far) (record { pre = []; post = e ∷ es; before = refl; after = refl; apart_before = tt; apart_after = (unlike o k e.0 p, unlike_below k es far) })
      at Equal p rest = rw p record {
        pre = [];
        post = es;
        before = ap (λ (q : K). (q, e.1) ∷ es) (sym (same k e.0 p));
        after = ap (λ (q : K). (q, v) ∷ es) (sym (same k e.0 p));
        apart_before = tt;
        apart_after = subst (λ (q : K). AllByRecursion (λ (f : K × X). f.0 ≢ q) es) (sym (same k e.0 p)) (unlike_below e.0 es (both _ _ h).0);
      }
      at Greater p rest = rw p record {
        pre = e ∷ rest.pre;
        post = rest.post;
        before = ap (λ (l : List (K × X)). e ∷ l) rest.before;
        after = ap (λ (l : List (K × X)). e ∷ l) rest.after;
        apart_before = ((λ q. unlike o e.0 k (o.antisymm e.0 k ∙ ap ordering_reverse p) (sym q)), rest.apart_before);
        apart_after = rest.apart_after;
      }

  pub insert_split : (m : FinMap R X) (k : K) (v : X) → IsSplit k v (get m k) (entries m) (entries (insert m k v))
  insert_split m k v = rw (get-entries, entries-insert o m k v) (put_split k v (entries m) (entries_sorted m))

  -- each entry of a sorted list is the one that is found under its key
  found_later : (e : K × X) (es fs : List (K × X)) → T (below_all R e.0 fs) → AllByRecursion (λ (f : K × X). find R f.0 es ≡ Some f.1) fs
      → AllByRecursion (λ (f : K × X). find R f.0 (e ∷ es) ≡ Some f.1) fs
  found_later e es [] b all = tt
  found_later e es (f ∷ fs) b all =
      let parts = both _ _ b in
      let above : R f.0 e.0 ≡ Greater = o.antisymm f.0 e.0 ∙ ap ordering_reverse (less _ parts.0) in
      ((rw above all.0), found_later e es fs parts.1 all.1)

  all_found : (es : List (K × X)) → T (is_sorted R es) → AllByRecursion (λ (f : K × X). find R f.0 es ≡ Some f.1) es
  all_found [] h = tt
  all_found (e ∷ es) h =
      let parts = both _ _ h in
      (ap (λ (r : Ordering). cond (is_eq r) (Some e.1) (find R e.0 es)) (tied_itself o e.0), found_later e es es parts.0 (all_found es parts.1))

  pub all_there : (m : FinMap R X) → AllByRecursion (λ (f : K × X). get m f.0 ≡ Some f.1) (entries m)
  all_there m = simp get-entries (all_found (entries m) (entries_sorted m))
