-- The numbers of a chain only rise, and no two of them have one absolute value.
use Rattle.std.proofs.Common.{◌≡◌, ℕ, ◌+◌, ◌<◌, lt_irrefl, lt_of_lt_of_le, le_trans, le_of_eq, Bool, true, false, ◌&&◌, ◌||◌, Option, Some, None, List, [], ◌∷◌, ◌⊎◌, inl, inr, sym, ap, ◌∙◌, refl, subst, unsigned_abs, ℤ, pos, int_eq, arith, true≢false}
use Rattle.std.proofs.lemmas.Bool.{and_parts}
use Rattle.std.proofs.lemmas.Bool.Decides.{Decides-int_eq}
use Rattle.std.proofs.lemmas.Option.{same_Some}
use Rattle.txn_key.specs.Keys.{same_key}
use Rattle.txn_key.specs.declared.key.Key.{Key}
use Rattle.txn_record.specs.Revnos.{follows, first_on, is_on_chain, number_after}
use Rattle.txn_record.specs.declared.op.Change.{Change}
use Rattle.txn_record.specs.declared.op.Op.{Op}
use Rattle.store_laws.proofs.chains.Inherits.{First, head_has, tail_here, tail_away, chain_has}
use Rattle.store_laws.proofs.chains.NumberAfter.{after_above, after_rises}
use Rattle.store_laws.proofs.meanings.Runs.{same_key-equal}

-- the number itself, or a later one
abbrev pub IsFrom : ℤ → ℤ → Type 0
IsFrom first m = (m ≡ first) ⊎ (unsigned_abs first < unsigned_abs m)

pub from_on : (first : ℤ) (ch : Change) (m : ℤ) → IsFrom first m → IsFrom first (number_after ch m)
from_on first ch m (inr less) = inr (lt_of_lt_of_le less (after_above ch m))
from_on first ch m (inl e) = by (after_rises ch m)
  where
    by : (number_after ch m ≡ m) ⊎ (unsigned_abs (number_after ch m) ≡ unsigned_abs m + 1) → IsFrom first (number_after ch m)
    by (inl stays) = inl (stays ∙ e)
    by (inr rises) = inr (subst (λ (n : ℕ). unsigned_abs first < n) (sym (rises ∙ ap (λ (n : ℤ). unsigned_abs n + 1) e)) (omega arith))

module _ (key : Key) where
  -- it is the number at which the key stands, or on the chain of what comes then
  abbrev Comes : ℤ → List Op → List ℤ → ℤ → Type 0
  Comes from ops revnos m = (m ≡ from) ⊎ (is_on_chain key m ops revnos ≡ true)

  abbrev Begins : ℤ → List Op → List ℤ → Type 0
  Begins from ops revnos = First key (λ m. m ≡ from) ops revnos

  comes_from : (from : ℤ) (ops : List Op) (revnos : List ℤ) → follows ops revnos ≡ true → Begins from ops revnos → (m : ℤ) → Comes from ops revnos m → IsFrom from m
  comes_from from ops revnos chain begins m (inl e) = inl e
  comes_from from ops revnos chain begins m (inr on) = chain_has key (IsFrom from) (from_on from) m ops revnos chain (λ number found. inl (begins number found)) on

  -- past the head
  comes_away : (from : ℤ) (o : Op) (ops : List Op) (x : ℤ) (revnos : List ℤ) (m : ℤ) → same_key key o.key ≡ false → Comes from (o ∷ ops) (x ∷ revnos) m → Comes from ops revnos m
  comes_away from o ops x revnos m away (inl e) = inl e
  comes_away from o ops x revnos m away (inr on) = inr (sym (ap (λ (b : Bool). (b && (int_eq m x || int_eq m (number_after o.change x))) || is_on_chain key m ops revnos) away) ∙ on)

  comes_here : (from : ℤ) (o : Op) (ops : List Op) (x : ℤ) (revnos : List ℤ) (m : ℤ) → same_key key o.key ≡ true → x ≡ from → Comes from (o ∷ ops) (x ∷ revnos) m → (m ≡ from) ⊎ Comes (number_after o.change x) ops revnos m
  comes_here from o ops x revnos m here at (inl e) = inl e
  comes_here from o ops x revnos m here at (inr on) = by (int_eq m x) (int_eq m (number_after o.change x)) refl refl (sym (ap (λ (b : Bool). (b && (int_eq m x || int_eq m (number_after o.change x))) || is_on_chain key m ops revnos) here) ∙ on)
    where
      by : (a b : Bool) → int_eq m x ≡ a → int_eq m (number_after o.change x) ≡ b → ((a || b) || is_on_chain key m ops revnos) ≡ true → (m ≡ from) ⊎ Comes (number_after o.change x) ops revnos m
      by true b p q on = inl ((Decides-int_eq m x).0 p ∙ at)
      by false true p q on = inr (inl ((Decides-int_eq m (number_after o.change x)).0 q))
      by false false p q on = inr (inr on)

  -- what comes after the head is later, or the number that the head leaves
  back : (from : ℤ) (ch : Change) (m : ℤ) → IsFrom (number_after ch from) m → unsigned_abs m ≡ unsigned_abs from → m ≡ from
  back from ch m (inl e) equal = by (after_rises ch from)
    where
      by : (number_after ch from ≡ from) ⊎ (unsigned_abs (number_after ch from) ≡ unsigned_abs from + 1) → m ≡ from
      by (inl stays) = e ∙ stays
      by (inr rises) = absurd (lt_irrefl (unsigned_abs from) (omega (arith, sym rises ∙ sym (ap unsigned_abs e) ∙ equal)))
  back from ch m (inr less) equal = absurd (lt_irrefl _ (lt_of_lt_of_le less (le_trans (le_of_eq equal) (after_above ch from))))

  module _ (a b : ℤ) (equal : unsigned_abs a ≡ unsigned_abs b) where
    same_from : (from : ℤ) (ops : List Op) (revnos : List ℤ) → follows ops revnos ≡ true → Begins from ops revnos → Comes from ops revnos a → Comes from ops revnos b → a ≡ b
    same_from from [] revnos chain begins (inl p) (inl q) = p ∙ sym q
    same_from from [] revnos chain begins (inr on) _ = absurd (true≢false (sym on))
    same_from from [] revnos chain begins (inl p) (inr on) = absurd (true≢false (sym on))
    same_from from (o ∷ ops) [] chain begins _ _ = absurd (true≢false (sym chain))
    same_from from (o ∷ ops) (x ∷ revnos) chain begins to_a to_b = by (same_key key o.key) refl (λ n. same_from n ops revnos rest_chain)
      where
        rest_chain : follows ops revnos ≡ true
        rest_chain = (and_parts _ (follows ops revnos) chain).1

        by : (t : Bool) → same_key key o.key ≡ t → ((n : ℤ) → Begins n ops revnos → Comes n ops revnos a → Comes n ops revnos b → a ≡ b) → a ≡ b
        by false e on = on from (tail_away key (λ m. m ≡ from) o ops x revnos e begins) (comes_away from o ops x revnos a e to_a) (comes_away from o ops x revnos b e to_b)
        by true e on = each (comes_here from o ops x revnos a e at to_a) (comes_here from o ops x revnos b e at to_b)
          where
            same : key ≡ o.key
            same = same_key-equal key o.key e

            at : x ≡ from
            at = head_has key (λ m. m ≡ from) o ops x revnos same begins

            next : Begins (number_after o.change x) ops revnos
            next = tail_here key (λ m. m ≡ number_after o.change x) o ops x revnos chain same refl

            later : (m : ℤ) → Comes (number_after o.change x) ops revnos m → unsigned_abs m ≡ unsigned_abs from → m ≡ from
            later m comes q = back from o.change m (subst (λ (n : ℤ). IsFrom (number_after o.change n) m) at (comes_from (number_after o.change x) ops revnos rest_chain next m comes)) q

            each : (a ≡ from) ⊎ Comes (number_after o.change x) ops revnos a → (b ≡ from) ⊎ Comes (number_after o.change x) ops revnos b → a ≡ b
            each (inl p) (inl q) = p ∙ sym q
            each (inl p) (inr q) = p ∙ sym (later b q (sym equal ∙ ap unsigned_abs p))
            each (inr p) (inl q) = later a p (equal ∙ ap unsigned_abs q) ∙ sym q
            each (inr p) (inr q) = on (number_after o.change x) next p q

  -- the number that the first operation on the key finds, or any where there is none
  first_number : (ops : List Op) (revnos : List ℤ) → (from : ℤ) × Begins from ops revnos
  first_number ops revnos = by (first_on key ops revnos) refl
    where
      by : (o : Option ℤ) → first_on key ops revnos ≡ o → (from : ℤ) × Begins from ops revnos
      by (Some from) e = (from, λ number found. sym (same_Some from number (sym e ∙ found)))
      by None e = (pos 0, λ number found. absurd (none number (sym e ∙ found)))
        where
          none : (number : ℤ) → None ≡ Some number → ⊥
          none number q = cc q

  pub same_on_chain : (a b : ℤ) (ops : List Op) (revnos : List ℤ) → follows ops revnos ≡ true → is_on_chain key a ops revnos ≡ true → is_on_chain key b ops revnos ≡ true → unsigned_abs a ≡ unsigned_abs b → a ≡ b
  same_on_chain a b ops revnos chain on_a on_b equal =
      let (from, begins) = first_number ops revnos in
      same_from a b equal from ops revnos chain begins (inr on_a) (inr on_b)
