-- Among sorted changes two conflict only where two neighbours do.
use Rattle.std.proofs.Common.{◌≡◌, ℕ, Bool, true, false, ◌&&◌, ◌||◌, not, List, [], ◌∷◌, refl, sym, ap, ap₂, ◌∙◌}
use Rattle.std.specs.declared.cmp.Ordering.{Ordering}
use Rattle.std.specs.declared.cmp.Ordering.TheVariants.{Less, Equal, Greater}
use Rattle.std.specs.Cmp.Lexicographic.{slice_cmp}
use Rattle.std.specs.List.{list_any, list_all}
use Rattle.std.specs.Ordering.{nat_cmp, is_gt, is_eq, ordering_then, ordering_reverse}
use Rattle.std.specs.Str.{bytes_eq}
use Rattle.std.proofs.lemmas.Bool.{true≢false, and_parts}
use Rattle.std.proofs.lemmas.Cmp.{nat_list_cmp_total}
use Rattle.std.proofs.lemmas.Map.Text.{is_eq-slice_cmp}
use Rattle.doc_update.specs.Changes.{Change}
use Rattle.doc_update.specs.Conflicts.{paths_conflict, conflict, are_apart, neighbours_apart}
use Rattle.doc_value.proofs.NameOrder.{bytes_eq-itself, equal-name}

abbrev pub path_cmp : List (List ℕ) → List (List ℕ) → Ordering
path_cmp = slice_cmp (slice_cmp nat_cmp)

abbrev text_cmp : List ℕ → List ℕ → Ordering
text_cmp = slice_cmp nat_cmp

-- the first isn't after the second
abbrev pub upto : List (List ℕ) → List (List ℕ) → Bool
upto path other = not (is_gt (path_cmp path other))

abbrev first_upto : Ordering → Ordering → Bool
first_upto head rest = not (is_gt (ordering_then head rest))

-- of two paths with first parts in order both ways the rests are in order
heads_equal : (a b : List ℕ) → text_cmp a b ≡ Equal → a ≡ b
heads_equal a b e = equal-name a b (sym (is_eq-slice_cmp a b) ∙ ap is_eq e)

-- what stands between a path and one that it leads to is led to as well
pub between : (x y z : List (List ℕ)) → upto x y ≡ true → upto y z ≡ true → paths_conflict x z ≡ true → paths_conflict x y ≡ true
between [] y z h k c = refl
between (a ∷ xs) [] z h k c = refl
between (a ∷ xs) (b ∷ ys) [] h k c = absurd (true≢false (sym k))
between (a ∷ xs) (b ∷ ys) (d ∷ zs) h k c =
    let parts = and_parts (bytes_eq a d) (paths_conflict xs zs) c in
    by (text_cmp a b) refl (equal-name a d (parts.0)) (λ p q. between xs ys zs p q (parts.1))
  where
    no : {G : Type 0} (o : Ordering) → o ≡ Greater → not (is_gt o) ≡ true → G
    no o e f = absurd (true≢false (sym f ∙ ap (λ p. not (is_gt p)) e))

    by : (o : Ordering) → text_cmp a b ≡ o → a ≡ d → (upto xs ys ≡ true → upto ys zs ≡ true → paths_conflict xs ys ≡ true) → paths_conflict (a ∷ xs) (b ∷ ys) ≡ true
    by Greater e same more = no (ordering_then (text_cmp a b) (path_cmp xs ys)) (ap (λ o. ordering_then o (path_cmp xs ys)) e) h
    by Less e same more =
        let back : text_cmp b d ≡ Greater = ap (text_cmp b) (sym same) ∙ nat_list_cmp_total.antisymm b a ∙ ap ordering_reverse e in
        no (ordering_then (text_cmp b d) (path_cmp ys zs)) (ap (λ o. ordering_then o (path_cmp ys zs)) back) k
    by Equal e same more =
        let is : a ≡ b = heads_equal a b e in
        let next : text_cmp b d ≡ Equal = ap (text_cmp b) (sym same) ∙ nat_list_cmp_total.antisymm b a ∙ ap ordering_reverse e in
        let one : upto xs ys ≡ true = sym (ap (λ o. first_upto o (path_cmp xs ys)) e) ∙ h in
        let two : upto ys zs ≡ true = sym (ap (λ o. first_upto o (path_cmp ys zs)) next) ∙ k in
        ap₂ (λ p q. p && q) (ap (bytes_eq a) (sym is) ∙ bytes_eq-itself a) (more one two)

-- ---- sorted lists

abbrev upto_all : List (List ℕ) → List Change → Bool
upto_all path changes = list_all (λ change. upto path change.path) changes

-- each change is up to all after it
abbrev pub all_rise : List Change → Bool
all_rise [] = true
all_rise (change ∷ changes) = upto_all change.path changes && all_rise changes

-- a change that doesn't conflict with the next conflicts with none after it
clear_after : (x y : Change) (rest : List Change) → upto x.path y.path ≡ true → conflict x y ≡ false → upto_all y.path rest ≡ true → list_any (conflict x) rest ≡ false
clear_after x y [] h c k = refl
clear_after x y (z ∷ rest) h c k =
    let parts = and_parts (upto y.path z.path) (upto_all y.path rest) k in
    by (conflict x z) refl (parts.0) (clear_after x y rest h c (parts.1))
  where
    by : (b : Bool) → conflict x z ≡ b → upto y.path z.path ≡ true → list_any (conflict x) rest ≡ false → (conflict x z || list_any (conflict x) rest) ≡ false
    by true e u more = absurd (true≢false (sym (between x.path y.path z.path h u e) ∙ c))
    by false e u more = ap₂ (λ p q. p || q) e more

pub apart-neighbours : (changes : List Change) → all_rise changes ≡ true → neighbours_apart changes ≡ are_apart changes
apart-neighbours [] h = refl
apart-neighbours (x ∷ []) h = refl
apart-neighbours (x ∷ y ∷ rest) h =
    let outer = and_parts (upto_all x.path (y ∷ rest)) (all_rise (y ∷ rest)) h in
    let first = and_parts (upto x.path y.path) (upto_all x.path rest) (outer.0) in
    let later = and_parts (upto_all y.path rest) (all_rise rest) (outer.1) in
    by (conflict x y) refl (clear_after x y rest (first.0)) (later.0) (apart-neighbours (y ∷ rest) (outer.1))
  where
    by : (b : Bool) → conflict x y ≡ b → (conflict x y ≡ false → upto_all y.path rest ≡ true → list_any (conflict x) rest ≡ false) → upto_all y.path rest ≡ true
        → neighbours_apart (y ∷ rest) ≡ are_apart (y ∷ rest) → (not (conflict x y) && neighbours_apart (y ∷ rest)) ≡ (not (conflict x y || list_any (conflict x) rest) && are_apart (y ∷ rest))
    by true e clear u same = ap (λ b. not b && neighbours_apart (y ∷ rest)) e ∙ sym (ap (λ b. not (b || list_any (conflict x) rest) && are_apart (y ∷ rest)) e)
    by false e clear u same = ap₂ (λ p q. not p && q) (sym (ap₂ (λ p q. p || q) refl (clear e u) ∙ only (conflict x y))) same
      where
        only : (b : Bool) → (b || false) ≡ b
        only true = refl
        only false = refl
