-- The first conflict of an update, by how many changes at its front are apart.
use Rattle.std.proofs.Common.{◌≡◌, ℕ, zero, suc, ◌<◌, ◌≤◌, Bool, true, false, ◌&&◌, ◌||◌, not, List, [], ◌∷◌, ◌++◌, length, get_or, take, map, Some, None, if◌then◌else◌, refl, sym, ap, ap₂, ◌∙◌, append_assoc, arith}
use Rattle.std.specs.List.{list_any, list_all}
use Rattle.std.specs.List.Sorted.{IsPermutation, IsSortedByKey}
use Rattle.std.specs.Ordering.{is_lt, is_gt, ordering_reverse}
use Rattle.std.proofs.lemmas.Bool.{true≢false, and_parts, and_from, or_parts, not-true}
use Rattle.std.proofs.lemmas.Cmp.{nat_list_cmp_total, lists_total}
use Rattle.std.proofs.lemmas.List.{take_all, take-map}
use Rattle.std.proofs.lemmas.List.Folds.{list_any-append}
use Rattle.std.proofs.lemmas.List.Sorted.{IsPermutation-map, IsPermutation-sym, ranks_by, sorted_far}
use Rattle.std.specs.declared.cmp.Ordering.{Ordering}
use Rattle.std.specs.declared.cmp.Ordering.TheVariants.{Less, Equal, Greater}
use Rattle.doc_update.specs.Changes.{Change}
use Rattle.doc_update.specs.Conflicts.{conflict, are_apart, first_conflict, first_conflict_after, neighbours_apart}
use Rattle.doc_update.specs.Listed.{change_listed}
use Rattle.doc_update.specs.declared.change.Change.{Change as Listed}
use Rattle.doc_update.proofs.Neighbours.{path_cmp, upto, all_rise, apart-neighbours}
use Rattle.doc_update.proofs.Reordering.{paths_conflict-turned, reordered}
use Rattle.std.proofs.Math.Bool.{or-false}

-- ---- a sorted slice

in_order : (x y : List (List ℕ)) → is_lt (path_cmp y x) ≡ false → upto x y ≡ true
in_order x y h = ap not (ap is_gt ((lists_total nat_list_cmp_total).antisymm x y) ∙ turned (path_cmp y x) ∙ h)
  where
    turned : (o : Ordering) → is_gt (ordering_reverse o) ≡ is_lt o
    turned Less = refl
    turned Equal = refl
    turned Greater = refl

abbrev FarSorted : List Listed → Type 0
FarSorted xs = (i j : ℕ) (d : Listed) → i ≤ j → j < length xs → is_lt (path_cmp (get_or xs j d).parts (get_or xs i d).parts) ≡ false

all_upto : (path : List (List ℕ)) (xs : List Listed) → ((j : ℕ) (d : Listed) → j < length xs → upto path (get_or xs j d).parts ≡ true) → list_all (λ change. upto path change.path) (map change_listed xs) ≡ true
all_upto path [] h = refl
all_upto path (x ∷ xs) h = and_from (upto path x.parts) (list_all (λ change. upto path change.path) (map change_listed xs)) (h zero x (omega arith)) (all_upto path xs (λ j d l. h (suc j) d (omega arith)))

far_rise : (xs : List Listed) → FarSorted xs → all_rise (map change_listed xs) ≡ true
far_rise [] h = refl
far_rise (x ∷ xs) h =
    and_from (list_all (λ change. upto x.parts change.path) (map change_listed xs)) (all_rise (map change_listed xs))
    (all_upto x.parts xs (λ j d l. in_order x.parts (get_or xs j d).parts (h zero (suc j) d (omega arith) (omega arith))))
    (far_rise xs (λ i j d le l. h (suc i) (suc j) d (omega arith) (omega arith)))

sorted_rise : (xs : List Listed) → IsSortedByKey (λ (c : Listed). c.parts) path_cmp xs → all_rise (map change_listed xs) ≡ true
sorted_rise xs up = far_rise xs (λ i j d le l. sorted_far (λ (x y : Listed). is_lt (path_cmp x.parts y.parts)) (ranks_by (lists_total nat_list_cmp_total) (λ (c : Listed). c.parts)) xs up i j d le l)

same_truth : (a b : Bool) → (a ≡ true → b ≡ true) → (b ≡ true → a ≡ true) → a ≡ b
same_truth true b h k = sym (h refl)
same_truth false true h k = k refl
same_truth false false h k = refl

pub sorted_neighbours : (changes sorted : List Listed) → IsPermutation changes sorted → IsSortedByKey (λ (c : Listed). c.parts) path_cmp sorted → neighbours_apart (map change_listed sorted) ≡ are_apart (map change_listed changes)
sorted_neighbours changes sorted moved up =
    let there = reordered (map change_listed changes) (map change_listed sorted) (IsPermutation-map change_listed changes sorted moved) in
    let back = reordered (map change_listed sorted) (map change_listed changes) (IsPermutation-map change_listed sorted changes (IsPermutation-sym changes sorted moved)) in
    apart-neighbours (map change_listed sorted) (sorted_rise sorted up)
    ∙ same_truth (are_apart (map change_listed sorted)) (are_apart (map change_listed changes)) (back.apart) (there.apart)

-- ---- the first conflict

-- one change more at the end
apart-more : (before : List Change) (change : Change) → are_apart (before ++ change ∷ []) ≡ (not (list_any (conflict change) before) && are_apart before)
apart-more [] change = refl
apart-more (x ∷ xs) change =
    ap₂ (λ a b. not a && b) (list_any-append (conflict x) xs (change ∷ []) ∙ ap (λ b. list_any (conflict x) xs || b) (or-false (conflict x change) ∙ paths_conflict-turned x.path change.path)) (apart-more xs change)
    ∙ mixed (list_any (conflict x) xs) (conflict change x) (list_any (conflict change) xs) (are_apart xs)
  where
    mixed : (a b c d : Bool) → (not (a || b) && (not c && d)) ≡ (not (b || c) && (not a && d))
    mixed true true c d = refl
    mixed true false true d = refl
    mixed true false false d = refl
    mixed false true c d = refl
    mixed false false true d = refl
    mixed false false false d = refl

apart_front : (xs ys : List Change) → are_apart (xs ++ ys) ≡ true → are_apart xs ≡ true
apart_front [] ys h = refl
apart_front (x ∷ xs) ys h =
    let parts = and_parts (not (list_any (conflict x) (xs ++ ys))) (are_apart (xs ++ ys)) h in
    let clear = or_parts (list_any (conflict x) xs) (list_any (conflict x) ys) (sym (list_any-append (conflict x) xs ys) ∙ not-true (list_any (conflict x) (xs ++ ys)) (parts.0)) in
    and_from (not (list_any (conflict x) xs)) (are_apart xs) (ap not (clear.0)) (apart_front xs ys (parts.1))

grouped : (before : List Change) (change : Change) (rest : List Change) → (before ++ change ∷ []) ++ rest ≡ before ++ change ∷ rest
grouped before change rest = simp append_assoc

-- those before it are apart, and with it they are not
pub first_at : (n : ℕ) (before changes : List Change) (change : Change) → n < length changes → change ≡ get_or changes n change
    → are_apart (before ++ take n changes) ≡ true → are_apart (before ++ take (suc n) changes) ≡ false → first_conflict_after before changes ≡ Some change.name
first_at n before [] change within is clear bad = absurd (omega arith)
first_at zero before (x ∷ xs) change within is clear bad =
    let same : change ≡ x = is in
    let early : are_apart before ≡ true = sym (ap are_apart (nothing before)) ∙ clear in
    by (list_any (conflict x) before) refl (sym (ap (λ b. not (list_any (conflict x) before) && b) early) ∙ sym (apart-more before x) ∙ bad) same
  where
    nothing : (xs : List Change) → xs ++ [] ≡ xs
    nothing [] = refl
    nothing (y ∷ ys) = ap (λ (zs : List Change). y ∷ zs) (nothing ys)

    by : (b : Bool) → list_any (conflict x) before ≡ b → (not (list_any (conflict x) before) && true) ≡ false → change ≡ x → (if list_any (conflict x) before then Some x.name else first_conflict_after (before ++ x ∷ []) xs) ≡ Some change.name
    by true e h same = simp e (ap (λ (c : Change). Some c.name) (sym same))
    by false e h same = absurd (true≢false (sym (ap (λ b. not b && true) e) ∙ h))
first_at (suc n) before (x ∷ xs) change within is clear bad =
    let whole = grouped before x (take n xs) in
    let first : are_apart (before ++ x ∷ []) ≡ true = apart_front (before ++ x ∷ []) (take n xs) (ap are_apart whole ∙ clear) in
    let quiet = not-true (list_any (conflict x) before) ((and_parts (not (list_any (conflict x) before)) (are_apart before) (sym (apart-more before x) ∙ first)).0) in
    simp quiet (first_at n (before ++ x ∷ []) xs change (omega arith) is (ap are_apart whole ∙ clear) (ap are_apart (grouped before x (take (suc n) xs)) ∙ bad))

-- changes that are apart have no conflict
pub none_first : (before changes : List Change) → are_apart (before ++ changes) ≡ true → first_conflict_after before changes ≡ None
none_first before [] h = refl
none_first before (x ∷ xs) h =
    let whole = grouped before x xs in
    let first : are_apart (before ++ x ∷ []) ≡ true = apart_front (before ++ x ∷ []) xs (ap are_apart whole ∙ h) in
    let quiet = not-true (list_any (conflict x) before) ((and_parts (not (list_any (conflict x) before)) (are_apart before) (sym (apart-more before x) ∙ first)).0) in
    simp quiet (none_first (before ++ x ∷ []) xs (ap are_apart whole ∙ h))

-- ---- in a slice

get-listed : (xs : List Listed) (n : ℕ) (x : Listed) → get_or (map change_listed xs) n (change_listed x) ≡ change_listed (get_or xs n x)
get-listed [] n x = refl
get-listed (y ∷ ys) zero x = refl
get-listed (y ∷ ys) (suc n) x = get-listed ys n x

pub first_listed : (n : ℕ) (listed : List Listed) (changes : List Change) (change : Listed) → map change_listed listed ≡ changes → n < length changes → change ≡ get_or listed n change
    → are_apart (take n changes) ≡ true → are_apart (take (suc n) changes) ≡ false → first_conflict changes ≡ Some change.field.now.name
first_listed n listed changes change is within here clear bad =
    first_at n [] changes (change_listed change) within (ap change_listed here ∙ sym (get-listed listed n change) ∙ ap (λ cs. get_or cs n (change_listed change)) is) clear bad

pub no_conflict : (n : ℕ) (listed : List Listed) (changes : List Change) → map change_listed listed ≡ changes → length listed ≤ n → are_apart (take n changes) ≡ true → first_conflict changes ≡ None
no_conflict n listed changes is whole clear =
    none_first [] changes (sym (ap are_apart (sym (ap (take n) is) ∙ take-map change_listed n listed ∙ ap (map change_listed) (take_all n listed whole) ∙ is)) ∙ clear)
