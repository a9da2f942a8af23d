-- The chain that begins where the owners stand: all of it is still to be done, and each owner stands on it.
use Rattle.std.proofs.Common.{◌≡◌, ℕ, ◌≤◌, le_trans, le_of_eq, Bool, true, false, ◌&&◌, ◌||◌, Option, Some, None, List, [], ◌∷◌, inl, inr, sym, ap, ◌∙◌, refl, subst, unsigned_abs, ℤ, int_eq, nat_le, unwrap_or, option_map, if◌then◌else◌, arith}
use Rattle.std.proofs.lemmas.Bool.{and_parts}
use Rattle.std.proofs.lemmas.Bool.Decides.{Decides-int_eq, nat_tests}
use Rattle.std.proofs.lemmas.Option.{same_Some}
use Rattle.txn_key.specs.Keys.{same_key}
use Rattle.txn_key.specs.declared.key.Key.{Key}
use Rattle.txn_record.specs.Revnos.{follows, first_on, is_on_chain, number_after}
use Rattle.txn_record.specs.declared.op.Op.{Op}
use Rattle.store_laws.specs.Meaning.{not_done}
use Rattle.store_laws.specs.View.{View, IsOn, held_number, epoch_at}
use Rattle.store_laws.proofs.chains.NumberAfter.{after_above}
use Rattle.store_laws.proofs.meanings.Runs.{same_key-equal, same_key-itself}
use Rattle.store_laws.specs.Chains.{IsChainFrom}

-- the first number on each key is no less than its floor
abbrev pub FirstAbove : (Key → ℕ) → List Op → List ℤ → Type 0
FirstAbove floor ops revnos = (key : Key) (number : ℤ) → first_on key ops revnos ≡ Some number → floor key ≤ unsigned_abs number

pub head_number : (op : Op) (ops : List Op) (revno : ℤ) (revnos : List ℤ) → first_on op.key (op ∷ ops) (revno ∷ revnos) ≡ Some revno
head_number op ops revno revnos = ap (λ (b : Bool). if b then Some revno else first_on op.key ops revnos) (same_key-itself op.key)

-- the second of two numbers in turn is what the first leaves
pub in_turn : (found : Option ℤ) (next number : ℤ) → unwrap_or (option_map (int_eq next) found) true ≡ true → found ≡ Some number → next ≡ number
in_turn None next number e q = cc
in_turn (Some other) next number e q = (Decides-int_eq next other).0 e ∙ same_Some other number q

pub tail_above : (floor : Key → ℕ) (op : Op) (ops : List Op) (revno : ℤ) (revnos : List ℤ) → follows (op ∷ ops) (revno ∷ revnos) ≡ true → FirstAbove floor (op ∷ ops) (revno ∷ revnos) → FirstAbove floor ops revnos
tail_above floor op ops revno revnos chain above key number found = by (same_key key op.key) refl
  where
    by : (b : Bool) → same_key key op.key ≡ b → floor key ≤ unsigned_abs number
    by true e =
        let same = same_key-equal key op.key e in
        let next : number_after op.change revno ≡ number =
        in_turn (first_on op.key ops revnos) (number_after op.change revno) number (and_parts _ (follows ops revnos) chain).0 (subst (λ (k : Key). first_on k ops revnos ≡ Some number) same found) in
        subst (λ (k : Key). floor k ≤ unsigned_abs number) (sym same)
        (le_trans (above op.key revno (head_number op ops revno revnos)) (subst (λ (n : ℤ). unsigned_abs revno ≤ unsigned_abs n) next (after_above op.change revno)))
    by false e = above key number (ap (λ (b : Bool). if b then Some revno else first_on key ops revnos) e ∙ found)

above_is_pending : (a b : ℕ) → a ≤ b → nat_le a b ≡ true
above_is_pending a b le = grind (arith, nat_tests)

pub fresh_above : (view : View) (ops : List Op) (revnos : List ℤ) → follows ops revnos ≡ true → FirstAbove (epoch_at view) ops revnos → not_done view ops revnos ≡ ops
fresh_above view [] revnos chain above = refl
fresh_above view (op ∷ ops) [] chain above = cc
fresh_above view (op ∷ ops) (revno ∷ revnos) chain above =
    let first = above_is_pending (epoch_at view op.key) (unsigned_abs revno) (above op.key revno (head_number op ops revno revnos)) in
    let rest = fresh_above view ops revnos (and_parts _ (follows ops revnos) chain).1 (tail_above (epoch_at view) op ops revno revnos chain above) in
    λ i. if first i then op ∷ rest i else rest i

first_is_on : (key : Key) (ops : List Op) (revnos : List ℤ) (number : ℤ) → first_on key ops revnos ≡ Some number → IsOn key ops
first_is_on key [] revnos number e = cc
first_is_on key (op ∷ ops) [] number e = cc
first_is_on key (op ∷ ops) (revno ∷ revnos) number e = by (same_key key op.key) refl e (first_is_on key ops revnos number)
  where
    by : (b : Bool) → same_key key op.key ≡ b → (if b then Some revno else first_on key ops revnos) ≡ Some number → (first_on key ops revnos ≡ Some number → IsOn key ops) → IsOn key (op ∷ ops)
    by true q e rest = inl (sym (same_key-equal key op.key q))
    by false q e rest = inr (rest e)

-- the first number on a key is on the chain
first_on_chain : (key : Key) (ops : List Op) (revnos : List ℤ) (number : ℤ) → first_on key ops revnos ≡ Some number → is_on_chain key number ops revnos ≡ true
first_on_chain key [] revnos number e = cc
first_on_chain key (op ∷ ops) [] number e = cc
first_on_chain key (op ∷ ops) (revno ∷ revnos) number e = by (same_key key op.key) e (first_on_chain key ops revnos number)
  where
    either : (b : Bool) (a : Bool) → a ≡ true → ((a || b) || is_on_chain key number ops revnos) ≡ true
    either b a e = ap (λ (a : Bool). (a || b) || is_on_chain key number ops revnos) e

    by : (b : Bool) → (if b then Some revno else first_on key ops revnos) ≡ Some number → (first_on key ops revnos ≡ Some number → is_on_chain key number ops revnos ≡ true)
        → ((b && (int_eq number revno || int_eq number (number_after op.change revno))) || is_on_chain key number ops revnos) ≡ true
    by true e rest = either (int_eq number (number_after op.change revno)) (int_eq number revno) ((Decides-int_eq number revno).1 (sym (same_Some revno number e)))
    by false e rest = rest e

pub begun_above : (view : View) (ops : List Op) (revnos : List ℤ) → IsChainFrom view ops revnos → FirstAbove (epoch_at view) ops revnos
begun_above view ops revnos chain key number found =
    let same = same_Some (held_number (view.held_at key)) number (sym (chain.begins key (first_is_on key ops revnos number found)) ∙ found) in
    le_of_eq (ap unsigned_abs same)

pub fresh_begun : (view : View) (ops : List Op) (revnos : List ℤ) → IsChainFrom view ops revnos → not_done view ops revnos ≡ ops
fresh_begun view ops revnos chain = fresh_above view ops revnos chain.in_turn (begun_above view ops revnos chain)

pub stands_begun : (view : View) (ops : List Op) (revnos : List ℤ) → IsChainFrom view ops revnos → (key : Key) → IsOn key ops → is_on_chain key (held_number (view.held_at key)) ops revnos ≡ true
stands_begun view ops revnos chain key on = first_on_chain key ops revnos (held_number (view.held_at key)) (chain.begins key on)
