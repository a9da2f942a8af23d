-- A chain has one operation with an effect at a number of a key.
use Rattle.std.proofs.Common.{◌≡◌, ◌<◌, lt_irrefl, lt_of_lt_of_le, true, List, [], ◌∷◌, inl, inr, sym, ap, ◌∙◌, refl, subst, unsigned_abs, ℤ, arith}
use Rattle.std.proofs.lemmas.Bool.{and_parts}
use Rattle.txn_record.specs.Revnos.{follows, has_effect, number_after}
use Rattle.txn_record.specs.declared.op.Op.{Op}
use Rattle.store_laws.specs.Chains.{IsAt}
use Rattle.store_laws.proofs.chains.Inherits.{tail_here, at_has}
use Rattle.store_laws.proofs.chains.NumberAfter.{after_above, after_effect}

-- none on the key at the number of an earlier one that has an effect
none_later : (a b : Op) (r : ℤ) (o : Op) (ops : List Op) (x : ℤ) (revnos : List ℤ) → follows (o ∷ ops) (x ∷ revnos) ≡ true → a.key ≡ b.key → has_effect a.change r ≡ true
    → (o ≡ a) × (x ≡ r) → IsAt b r ops revnos → ⊥
none_later a b r o ops x revnos chain keys acts here later =
    let left : unsigned_abs r < unsigned_abs (number_after o.change x) = (
    subst (λ (p : Op). unsigned_abs r < unsigned_abs (number_after p.change x)) (sym here.0)
    (subst (λ (n : ℤ). unsigned_abs r < unsigned_abs (number_after a.change n)) (sym here.1) (omega (arith, after_effect a.change r acts)))) in
    lt_irrefl (unsigned_abs r)
    (at_has b.key (λ m. unsigned_abs r < unsigned_abs m) (λ ch m less. lt_of_lt_of_le less (after_above ch m)) b r ops revnos (and_parts _ (follows ops revnos) chain).1
    (tail_here b.key (λ m. unsigned_abs r < unsigned_abs m) o ops x revnos chain (sym keys ∙ sym (ap (λ (p : Op). p.key) here.0)) left) refl later)

pub one_effect : (a b : Op) (r : ℤ) (ops : List Op) (revnos : List ℤ) → follows ops revnos ≡ true → a.key ≡ b.key → has_effect a.change r ≡ true → has_effect b.change r ≡ true
    → IsAt a r ops revnos → IsAt b r ops revnos → a ≡ b
one_effect a b r [] revnos chain keys acts also p q = absurd p
one_effect a b r (o ∷ ops) [] chain keys acts also p q = absurd p
one_effect a b r (o ∷ ops) (x ∷ revnos) chain keys acts also (inl p) (inl q) = sym p.0 ∙ q.0
one_effect a b r (o ∷ ops) (x ∷ revnos) chain keys acts also (inl p) (inr q) = absurd (none_later a b r o ops x revnos chain keys acts p q)
one_effect a b r (o ∷ ops) (x ∷ revnos) chain keys acts also (inr p) (inl q) = absurd (none_later b a r o ops x revnos chain (sym keys) also q p)
one_effect a b r (o ∷ ops) (x ∷ revnos) chain keys acts also (inr p) (inr q) = one_effect a b r ops revnos (and_parts _ (follows ops revnos) chain).1 keys acts also p q
