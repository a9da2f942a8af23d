-- The byte order of names, as tests.
use Rattle.std.proofs.Common.{◌≡◌, ℕ, Bool, true, false, List, refl, sym, ap, ◌∙◌}
use Rattle.std.specs.declared.cmp.Ordering.{Ordering}
use Rattle.std.specs.declared.cmp.Ordering.TheVariants.{Less, Equal, Greater}
use Rattle.std.specs.Cmp.Lexicographic.{slice_cmp}
use Rattle.std.specs.Ordering.{nat_cmp, is_lt, is_gt, is_eq, ordering_reverse}
use Rattle.std.specs.Str.{bytes_eq}
use Rattle.std.proofs.lemmas.Bool.{true≢false}
use Rattle.std.proofs.lemmas.Cmp.{nat_list_cmp_total, tied_itself}
use Rattle.std.proofs.lemmas.Map.Text.{is_eq-slice_cmp}
use Rattle.std.proofs.lemmas.Slice.Eq.{bytes_eq-Decides}

abbrev pub compared : List ℕ → List ℕ → Ordering
compared name other = slice_cmp nat_cmp name other

abbrev pub before : List ℕ → List ℕ → Bool
before name other = is_lt (compared name other)

abbrev pub past : List ℕ → List ℕ → Bool
past name other = is_gt (compared name other)

is_lt-Less : (o : Ordering) → is_lt o ≡ true → o ≡ Less
is_lt-Less Less h = refl
is_lt-Less Equal h = absurd (true≢false (sym h))
is_lt-Less Greater h = absurd (true≢false (sym h))

is_gt-Greater : (o : Ordering) → is_gt o ≡ true → o ≡ Greater
is_gt-Greater Less h = absurd (true≢false (sym h))
is_gt-Greater Equal h = absurd (true≢false (sym h))
is_gt-Greater Greater h = refl

reversed-Greater : (o : Ordering) → ordering_reverse o ≡ Greater → o ≡ Less
reversed-Greater Less h = refl
reversed-Greater Equal h = cc
reversed-Greater Greater h = cc

pub past-before : (a b : List ℕ) → past a b ≡ before b a
past-before a b = ap is_gt (nat_list_cmp_total.antisymm a b) ∙ turned (compared b a)
  where
    turned : (o : Ordering) → is_gt (ordering_reverse o) ≡ is_lt o
    turned Less = refl
    turned Equal = refl
    turned Greater = refl

pub before-trans : (a b c : List ℕ) → before a b ≡ true → before b c ≡ true → before a c ≡ true
before-trans a b c h k = ap is_lt (nat_list_cmp_total.trans a b c (is_lt-Less _ h) (is_lt-Less _ k))

pub before-itself : (a : List ℕ) → before a a ≡ false
before-itself a = ap is_lt (tied_itself nat_list_cmp_total a)

pub past-itself : (a : List ℕ) → past a a ≡ false
past-itself a = ap is_gt (tied_itself nat_list_cmp_total a)

pub before-not-past : (a b : List ℕ) → before a b ≡ true → past a b ≡ false
before-not-past a b h = ap is_gt (is_lt-Less _ h)

pub past-not-before : (a b : List ℕ) → past a b ≡ true → before a b ≡ false
past-not-before a b h = ap is_lt (is_gt-Greater _ h)

-- two names that differ stand in one order or the other
pub by_order : (a b : List ℕ) {G : Type 0} → bytes_eq a b ≡ false → (before a b ≡ true → G) → (past a b ≡ true → G) → G
by_order a b {G} apart less more = go (compared a b) refl
  where
    go : (o : Ordering) → compared a b ≡ o → G
    go Less e = less (ap is_lt e)
    go Equal e = absurd (true≢false (sym (ap is_eq e) ∙ is_eq-slice_cmp a b ∙ apart))
    go Greater e = more (ap is_gt e)

pub bytes_eq-itself : (a : List ℕ) → bytes_eq a a ≡ true
bytes_eq-itself a = (bytes_eq-Decides a a).1 refl

pub before-differs : (a b : List ℕ) → before a b ≡ true → bytes_eq a b ≡ false
before-differs a b h = sym (is_eq-slice_cmp a b) ∙ ap is_eq (is_lt-Less _ h)

pub past-differs : (a b : List ℕ) → past a b ≡ true → bytes_eq a b ≡ false
past-differs a b h = sym (is_eq-slice_cmp a b) ∙ ap is_eq (is_gt-Greater _ h)

pub bytes_eq-turned : (a b : List ℕ) → bytes_eq a b ≡ bytes_eq b a
bytes_eq-turned a b = sym (is_eq-slice_cmp a b) ∙ ap is_eq (nat_list_cmp_total.antisymm a b) ∙ turned (compared b a) ∙ is_eq-slice_cmp b a
  where
    turned : (o : Ordering) → is_eq (ordering_reverse o) ≡ is_eq o
    turned Less = refl
    turned Equal = refl
    turned Greater = refl

pub equal-name : (a b : List ℕ) → bytes_eq a b ≡ true → a ≡ b
equal-name a b h = (bytes_eq-Decides a b).0 h

pub equal-order : (a b : List ℕ) → compared a b ≡ Equal → a ≡ b
equal-order a b h = equal-name a b (sym (is_eq-slice_cmp a b) ∙ ap is_eq h)
