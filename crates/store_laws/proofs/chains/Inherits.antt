-- What each number of a chain on one key has, where the first has it and each change hands it on.
use Rattle.std.proofs.Common.{◌≡◌, Bool, true, false, ◌&&◌, ◌||◌, Some, List, [], ◌∷◌, inl, inr, sym, ap, ◌∙◌, refl, subst, ℤ, int_eq, if◌then◌else◌, true≢false}
use Rattle.std.proofs.lemmas.Bool.{and_parts}
use Rattle.std.proofs.lemmas.Bool.Decides.{Decides-int_eq}
use Rattle.txn_key.specs.Keys.{same_key}
use Rattle.txn_key.specs.declared.key.Key.{Key}
use Rattle.txn_record.specs.Revnos.{follows, first_on, is_on_chain, is_within, stays_within, number_after}
use Rattle.txn_record.specs.declared.op.Change.{Change}
use Rattle.txn_record.specs.declared.op.Op.{Op}
use Rattle.store_laws.specs.View.{IsOn}
use Rattle.store_laws.proofs.chains.Chains.{in_turn, head_number}
use Rattle.store_laws.proofs.meanings.Runs.{same_key-equal, same_key-itself}
use Rattle.store_laws.specs.Chains.{IsAt}

module _ (key : Key) (P : ℤ → Type 0) where
  -- the first number on the key has it
  abbrev pub First : List Op → List ℤ → Type 0
  First ops revnos = (number : ℤ) → first_on key ops revnos ≡ Some number → P number

  -- the head's number, where the head is on the key
  pub head_has : (op : Op) (ops : List Op) (revno : ℤ) (revnos : List ℤ) → key ≡ op.key → First (op ∷ ops) (revno ∷ revnos) → P revno
  head_has op ops revno revnos same first = first revno (ap (λ (k : Key). first_on k (op ∷ ops) (revno ∷ revnos)) same ∙ head_number op ops revno revnos)

  -- the first number after a head on the key, where the number that the head leaves has it
  pub tail_here : (op : Op) (ops : List Op) (revno : ℤ) (revnos : List ℤ) → follows (op ∷ ops) (revno ∷ revnos) ≡ true → key ≡ op.key → P (number_after op.change revno) → First ops revnos
  tail_here op ops revno revnos chain same has number found =
      subst P (in_turn (first_on op.key ops revnos) (number_after op.change revno) number (and_parts _ (follows ops revnos) chain).0 (ap (λ (k : Key). first_on k ops revnos) (sym same) ∙ found)) has

  pub tail_away : (op : Op) (ops : List Op) (revno : ℤ) (revnos : List ℤ) → same_key key op.key ≡ false → First (op ∷ ops) (revno ∷ revnos) → First ops revnos
  tail_away op ops revno revnos away first number found = first number (ap (λ (b : Bool). if b then Some revno else first_on key ops revnos) away ∙ found)

  module _ (hands_on : (ch : Change) (number : ℤ) → P number → P (number_after ch number)) where
    pub tail_has : (op : Op) (ops : List Op) (revno : ℤ) (revnos : List ℤ) → follows (op ∷ ops) (revno ∷ revnos) ≡ true → First (op ∷ ops) (revno ∷ revnos) → First ops revnos
    tail_has op ops revno revnos chain first = by (same_key key op.key) refl
      where
        by : (b : Bool) → same_key key op.key ≡ b → First ops revnos
        by true e =
            let same = same_key-equal key op.key e in
            tail_here op ops revno revnos chain same (hands_on op.change revno (head_has op ops revno revnos same first))
        by false e = tail_away op ops revno revnos e first

    -- the number of each operation on the key
    pub at_has : (op : Op) (revno : ℤ) (ops : List Op) (revnos : List ℤ) → follows ops revnos ≡ true → First ops revnos → op.key ≡ key → IsAt op revno ops revnos → P revno
    at_has op revno [] revnos chain first same at = absurd at
    at_has op revno (o ∷ ops) [] chain first same at = absurd at
    at_has op revno (o ∷ ops) (r ∷ revnos) chain first same (inl here) = subst P here.1 (head_has o ops r revnos (sym same ∙ sym (ap (λ (x : Op). x.key) here.0)) first)
    at_has op revno (o ∷ ops) (r ∷ revnos) chain first same (inr later) = at_has op revno ops revnos (and_parts _ (follows ops revnos) chain).1 (tail_has o ops r revnos chain first) same later

    -- each number on the chain
    pub chain_has : (number : ℤ) (ops : List Op) (revnos : List ℤ) → follows ops revnos ≡ true → First ops revnos → is_on_chain key number ops revnos ≡ true → P number
    chain_has number [] revnos chain first on = absurd (true≢false (sym on))
    chain_has number (o ∷ ops) [] chain first on = absurd (true≢false (sym on))
    chain_has number (o ∷ ops) (r ∷ revnos) chain first on =
        by (same_key key o.key) (int_eq number r) (int_eq number (number_after o.change r)) refl refl refl on (chain_has number ops revnos (and_parts _ (follows ops revnos) chain).1 (tail_has o ops r revnos chain first))
      where
        by : (a b c : Bool) → same_key key o.key ≡ a → int_eq number r ≡ b → int_eq number (number_after o.change r) ≡ c → ((a && (b || c)) || is_on_chain key number ops revnos) ≡ true → (is_on_chain key number ops revnos ≡ true → P number) → P number
        by true true c p q s on rest = subst P (sym ((Decides-int_eq number r).0 q)) (head_has o ops r revnos (same_key-equal key o.key p) first)
        by true false true p q s on rest = subst P (sym ((Decides-int_eq number (number_after o.change r)).0 s)) (hands_on o.change r (head_has o ops r revnos (same_key-equal key o.key p) first))
        by true false false p q s on rest = rest on
        by false b c p q s on rest = rest on

-- What an operation at a number says of the whole.

pub at_on : (op : Op) (revno : ℤ) (ops : List Op) (revnos : List ℤ) → IsAt op revno ops revnos → IsOn op.key ops
at_on op revno [] revnos at = absurd at
at_on op revno (o ∷ ops) [] at = absurd at
at_on op revno (o ∷ ops) (r ∷ revnos) (inl here) = inl (ap (λ (x : Op). x.key) here.0)
at_on op revno (o ∷ ops) (r ∷ revnos) (inr later) = inr (at_on op revno ops revnos later)

-- the number that it leaves is on the chain
pub at_leaves : (op : Op) (revno : ℤ) (ops : List Op) (revnos : List ℤ) → IsAt op revno ops revnos → is_on_chain op.key (number_after op.change revno) ops revnos ≡ true
at_leaves op revno [] revnos at = absurd at
at_leaves op revno (o ∷ ops) [] at = absurd at
at_leaves op revno (o ∷ ops) (r ∷ revnos) (inl here) =
    (λ i. (same_key op.key (here.0 i).key && (int_eq (number_after op.change revno) (here.1 i) || int_eq (number_after op.change revno) (number_after (here.0 i).change (here.1 i)))) || is_on_chain op.key (number_after op.change revno) ops revnos)
    ∙ (λ i. (same_key-itself op.key i && (int_eq (number_after op.change revno) revno || (Decides-int_eq (number_after op.change revno) (number_after op.change revno)).1 refl i)) || is_on_chain op.key (number_after op.change revno) ops revnos)
    ∙ either (int_eq (number_after op.change revno) revno) (is_on_chain op.key (number_after op.change revno) ops revnos)
  where
    either : (a b : Bool) → ((true && (a || true)) || b) ≡ true
    either true b = refl
    either false b = refl
at_leaves op revno (o ∷ ops) (r ∷ revnos) (inr later) = or_else (same_key op.key o.key && (int_eq (number_after op.change revno) r || int_eq (number_after op.change revno) (number_after o.change r))) _ (at_leaves op revno ops revnos later)
  where
    or_else : (a b : Bool) → b ≡ true → (a || b) ≡ true
    or_else true b e = refl
    or_else false b e = e

-- its number is on the chain
pub at_found : (op : Op) (revno : ℤ) (ops : List Op) (revnos : List ℤ) → IsAt op revno ops revnos → is_on_chain op.key revno ops revnos ≡ true
at_found op revno [] revnos at = absurd at
at_found op revno (o ∷ ops) [] at = absurd at
at_found op revno (o ∷ ops) (r ∷ revnos) (inl here) =
    (λ i. (same_key op.key (here.0 i).key && (int_eq revno (here.1 i) || int_eq revno (number_after o.change r))) || is_on_chain op.key revno ops revnos)
    ∙ (λ i. (same_key-itself op.key i && ((Decides-int_eq revno revno).1 refl i || int_eq revno (number_after o.change r))) || is_on_chain op.key revno ops revnos)
at_found op revno (o ∷ ops) (r ∷ revnos) (inr later) = or_else (same_key op.key o.key && (int_eq revno r || int_eq revno (number_after o.change r))) _ (at_found op revno ops revnos later)
  where
    or_else : (a b : Bool) → b ≡ true → (a || b) ≡ true
    or_else true b e = refl
    or_else false b e = e

-- both its number and the one that it leaves are within the limits
pub at_within : (op : Op) (revno : ℤ) (ops : List Op) (revnos : List ℤ) → stays_within ops revnos ≡ true → IsAt op revno ops revnos → (is_within revno ≡ true) × (is_within (number_after op.change revno) ≡ true)
at_within op revno [] revnos within at = absurd at
at_within op revno (o ∷ ops) [] within at = absurd at
at_within op revno (o ∷ ops) (r ∷ revnos) within (inl here) =
    let ends = and_parts (is_within r) (is_within (number_after o.change r)) (and_parts (is_within r && is_within (number_after o.change r)) (stays_within ops revnos) within).0 in
    (ap is_within (sym here.1) ∙ ends.0, (λ i. is_within (number_after (sym here.0 i).change (sym here.1 i))) ∙ ends.1)
at_within op revno (o ∷ ops) (r ∷ revnos) within (inr later) =
    at_within op revno ops revnos (and_parts (is_within r && is_within (number_after o.change r)) (stays_within ops revnos) within).1 later
