-- Changes that don't conflict may be made in any order.
use Rattle.std.proofs.Common.{◌≡◌, ℕ, zero, suc, ◌<◌, Bool, true, false, ◌&&◌, ◌||◌, not, List, [], ◌∷◌, length, get_or, Option, Some, None, option_and_then, refl, sym, ap, ap₂, ◌∙◌, arith}
use Rattle.std.proofs.Math.ListN.{set}
use Rattle.std.specs.List.{list_any, swap}
use Rattle.std.specs.List.Sorted.{IsPermutation}
use Rattle.std.proofs.lemmas.Bool.{and_parts, and_from, or_parts, not-true}
use Rattle.std.proofs.lemmas.List.Sorted.{IsPermutation-keeps}
use Rattle.doc_value.specs.declared.value.Value.{Value}
use Rattle.doc_update.specs.Changes.{Change}
use Rattle.doc_update.specs.Conflicts.{paths_conflict, conflict, are_apart}
use Rattle.doc_update.specs.Effects.{effect}
use Rattle.doc_update.specs.Updates.{after_change, after_changes}
use Rattle.doc_update.proofs.Commuting.{commute}
use Rattle.doc_value.proofs.NameOrder.{bytes_eq-turned}

pub paths_conflict-turned : (path other : List (List ℕ)) → paths_conflict path other ≡ paths_conflict other path
paths_conflict-turned [] [] = refl
paths_conflict-turned [] (name ∷ names) = refl
paths_conflict-turned (part ∷ parts) [] = refl
paths_conflict-turned (part ∷ parts) (name ∷ names) = ap₂ (λ b c. b && c) (bytes_eq-turned part name) (paths_conflict-turned parts names)

none_true : (a b : Bool) → a ≡ false → b ≡ false → not (a || b) ≡ true
none_true a b p q = ap₂ (λ x y. not (x || y)) p q

or_turned : (a b c : Bool) → (a || (b || c)) ≡ (b || (a || c))
or_turned true true c = refl
or_turned true false c = refl
or_turned false true c = refl
or_turned false false c = refl

pub then_then : (h k : Option Value → Option (Option Value)) (o : Option (Option Value)) → option_and_then (λ (g : Option Value). option_and_then k (h g)) o ≡ option_and_then k (option_and_then h o)
then_then h k None = refl
then_then h k (Some g) = refl

-- the one list of changes is the other in another order, in which they don't conflict either and have the same effect
pub record IsReordered (changes others : List Change) : Type 0 where
  pub tests : (test : Change → Bool) → list_any test others ≡ list_any test changes
  pub apart : are_apart changes ≡ true → are_apart others ≡ true
  pub alike : are_apart changes ≡ true → (found : Option Value) → after_changes others found ≡ after_changes changes found

as_is : (changes : List Change) → IsReordered changes changes
as_is changes = record { tests = λ test. refl; apart = λ h. h; alike = λ h found. refl }

joined : (a b c : List Change) → IsReordered a b → IsReordered b c → IsReordered a c
joined a b c first then = record {
  tests = λ test. then.tests test ∙ first.tests test;
  apart = λ h. then.apart (first.apart h);
  alike = λ h found. then.alike (first.apart h) found ∙ first.alike h found;
}

after_first : (change : Change) (a b : List Change) → IsReordered a b → IsReordered (change ∷ a) (change ∷ b)
after_first change a b rest = record {
  tests = λ test. ap (λ t. test change || t) (rest.tests test);
  apart = λ h. let parts = and_parts (not (list_any (conflict change) a)) (are_apart a) h in and_from (not (list_any (conflict change) b)) (are_apart b) (ap not (rest.tests (conflict change)) ∙ parts.0) (rest.apart (parts.1));
  alike = λ h found. let parts = and_parts (not (list_any (conflict change) a)) (are_apart a) h in then_each (rest.alike (parts.1)) (after_change change found);
}
  where
    then_each : ((found : Option Value) → after_changes b found ≡ after_changes a found) → (o : Option (Option Value)) → option_and_then (after_changes b) o ≡ option_and_then (after_changes a) o
    then_each same None = refl
    then_each same (Some g) = same g

adjacent : (x y : Change) (rest : List Change) → IsReordered (x ∷ y ∷ rest) (y ∷ x ∷ rest)
adjacent x y rest = record {
  tests = λ test. or_turned (test y) (test x) (list_any test rest);
  apart = λ h.
      let outer = and_parts (not (conflict x y || list_any (conflict x) rest)) (are_apart (y ∷ rest)) h in
      let inner = and_parts (not (list_any (conflict y) rest)) (are_apart rest) (outer.1) in
      let clear = or_parts (conflict x y) (list_any (conflict x) rest) (not-true _ (outer.0)) in
      and_from (not (conflict y x || list_any (conflict y) rest)) (are_apart (x ∷ rest)) (none_true (conflict y x) (list_any (conflict y) rest) (paths_conflict-turned y.path x.path ∙ clear.0) (not-true _ (inner.0)))
      (and_from (not (list_any (conflict x) rest)) (are_apart rest) (ap not (clear.1)) (inner.1));
  alike = λ h found.
      let outer = and_parts (not (conflict x y || list_any (conflict x) rest)) (are_apart (y ∷ rest)) h in
      let clear = or_parts (conflict x y) (list_any (conflict x) rest) (not-true _ (outer.0)) in
      then_then (after_change x) (after_changes rest) (after_change y found)
      ∙ ap (option_and_then (after_changes rest)) (sym (commute x.path y.path (effect x.operator x.operand) (effect y.operator y.operand) found (clear.0)))
      ∙ sym (then_then (after_change y) (after_changes rest) (after_change x found));
}

-- the first in the place of a later one, which comes first
fronted : (x : Change) (rest : List Change) (j : ℕ) (d : Change) → j < length rest → IsReordered (x ∷ rest) (get_or rest j d ∷ set rest j x)
fronted x [] j d h = absurd (omega arith)
fronted x (y ∷ rest) zero d h = adjacent x y rest
fronted x (y ∷ rest) (suc j) d h =
    joined (x ∷ y ∷ rest) (y ∷ x ∷ rest) (get_or rest j d ∷ y ∷ set rest j x) (adjacent x y rest)
    (joined (y ∷ x ∷ rest) (y ∷ get_or rest j d ∷ set rest j x) (get_or rest j d ∷ y ∷ set rest j x) (after_first y (x ∷ rest) (get_or rest j d ∷ set rest j x) (fronted x rest j d (omega arith))) (adjacent y (get_or rest j d) (set rest j x)))

abbrev exchanged : Change → List Change → ℕ → ℕ → List Change
exchanged d xs i j = set (set xs i (get_or xs j d)) j (get_or xs i d)

exchange : (d : Change) (xs : List Change) (i j : ℕ) → i < length xs → j < length xs → IsReordered xs (exchanged d xs i j)
exchange d [] i j h k = absurd (omega arith)
exchange d (x ∷ xs) zero zero h k = as_is (x ∷ xs)
exchange d (x ∷ xs) zero (suc j) h k = fronted x xs j d (omega arith)
exchange d (x ∷ xs) (suc i) zero h k = fronted x xs i d (omega arith)
exchange d (x ∷ xs) (suc i) (suc j) h k = after_first x xs (exchanged d xs i j) (exchange d xs i j (omega arith) (omega arith))

swaps : (xs : List Change) (i j : ℕ) → i < length xs → j < length xs → IsReordered xs (swap xs i j)
swaps [] i j h k = as_is []
swaps (d ∷ xs) i j h k = exchange d (d ∷ xs) i j h k

pub reordered : (changes others : List Change) → IsPermutation changes others → IsReordered changes others
reordered changes others = IsPermutation-keeps changes (λ l. IsReordered changes l) (as_is changes) (λ l i j h k so_far. joined changes l (swap l i j) so_far (swaps l i j h k)) others
