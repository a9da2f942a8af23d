-- The tests of two records are equality.
use Rattle.std.proofs.Common.{bytes_eq, ◌≡◌, ℕ, ℤ, ◌==◌, Bool, true, false, ◌&&◌, List, [], ◌∷◌, length, Option, Some, None, refl, sym, ap, ap₂, ◌∙◌, subst, unwrap_or, arith}
use Rattle.std.specs.Bool.{Decides}
use Rattle.std.specs.Cmp.{tied_itself}
use Rattle.std.specs.List.{list_all, zip}
use Rattle.std.specs.Ordering.{int_eq, is_eq}
use Rattle.std.specs.declared.cmp.Ordering.{Ordering}
use Rattle.std.specs.declared.cmp.Ordering.TheVariants.{Less, Equal, Greater}
use Rattle.std.proofs.lemmas.Bool.{and_from, and_parts}
use Rattle.std.proofs.lemmas.Bool.Decides.{Decides-int_eq, nat_tests}
use Rattle.std.proofs.lemmas.Slice.Eq.{bytes_eq-Decides}
use Rattle.doc_value.specs.declared.value.Value.{Value}
use Rattle.doc_value.specs.Same.{same}
use Rattle.doc_value.proofs.SameValues.{same-Decides}
use Rattle.txn_key.specs.Keys.{key_cmp, same_key}
use Rattle.txn_key.specs.declared.id.TxnId.{TxnId}
use Rattle.txn_key.specs.declared.key.Key.{Key}
use Rattle.txn_key.proofs.KeyOrder.{key_cmp_total, key_cmp-IsAntisymmetric}
use Rattle.txn_record.specs.States.{state_number}
use Rattle.txn_record.specs.Same.{same_option, same_list, same_assert, same_change, same_op, same_revnos, same_record}
use Rattle.txn_record.specs.declared.op.Assert.{Assert}
use Rattle.txn_record.specs.declared.op.Assert.TheVariants as assert
use Rattle.txn_record.specs.declared.op.Change.{Change}
use Rattle.txn_record.specs.declared.op.Change.TheVariants as change
use Rattle.txn_record.specs.declared.op.Op.{Op}
use Rattle.txn_record.specs.declared.record.Record.{Record}
use Rattle.txn_record.specs.declared.state.State.{State}
use Rattle.txn_record.specs.declared.state.State.TheVariants as state

numbers_equal : (a b : ℕ) → (a == b) ≡ true → a ≡ b
numbers_equal a b h = grind (arith, nat_tests)

number_self : (a : ℕ) → (a == a) ≡ true
number_self a = grind (arith, nat_tests)

pub number-Decides : (a b : ℕ) → Decides (a == b) (a ≡ b)
number-Decides a b = (numbers_equal a b, λ e. subst (λ (n : ℕ). (a == n) ≡ true) e (number_self a))

module _ {A : Type 0} (test : A → A → Bool) (decides : (a b : A) → Decides (test a b) (a ≡ b)) where
  some_same : (a b : A) → Some a ≡ Some b → a ≡ b
  some_same a b e = ap (λ o. unwrap_or o a) e

  pub option-Decides : (a b : Option A) → Decides (same_option test a b) (a ≡ b)
  option-Decides None None = (λ _. refl, λ _. refl)
  option-Decides None (Some b) = (λ h. cc, λ e. cc)
  option-Decides (Some a) None = (λ h. cc, λ e. cc)
  option-Decides (Some a) (Some b) = (λ h. ap Some ((decides a b).0 h), λ e. (decides a b).1 (some_same a b e))

  all_equal : (xs ys : List A) → length xs ≡ length ys → list_all (λ pair. test pair.0 pair.1) (zip xs ys) ≡ true → xs ≡ ys
  all_equal [] [] n h = refl
  all_equal [] (y ∷ ys) n h = absurd (omega (arith, n))
  all_equal (x ∷ xs) [] n h = absurd (omega (arith, n))
  all_equal (x ∷ xs) (y ∷ ys) n h =
      let p = and_parts (test x y) (list_all (λ pair. test pair.0 pair.1) (zip xs ys)) h in
      ap₂ (λ z zs. z ∷ zs) ((decides x y).0 p.0) (all_equal xs ys (omega (arith, n)) p.1)

  all_self : (xs : List A) → list_all (λ pair. test pair.0 pair.1) (zip xs xs) ≡ true
  all_self [] = refl
  all_self (x ∷ xs) = and_from (test x x) (list_all (λ pair. test pair.0 pair.1) (zip xs xs)) ((decides x x).1 refl) (all_self xs)

  list_self : (xs : List A) → same_list test xs xs ≡ true
  list_self xs = and_from (length xs == length xs) (list_all (λ pair. test pair.0 pair.1) (zip xs xs)) (number_self (length xs)) (all_self xs)

  pub list-Decides : (xs ys : List A) → Decides (same_list test xs ys) (xs ≡ ys)
  list-Decides xs ys = (
    λ h. let p = and_parts (length xs == length ys) (list_all (λ pair. test pair.0 pair.1) (zip xs ys)) h in all_equal xs ys (numbers_equal (length xs) (length ys) p.0) p.1,
    λ e. subst (λ (zs : List A). same_list test xs zs ≡ true) e (list_self xs),
  )

tied : (r : Ordering) → is_eq r ≡ true → r ≡ Equal
tied Less h = cc
tied Equal h = refl
tied Greater h = cc

key-Decides : (a b : Key) → Decides (same_key a b) (a ≡ b)
key-Decides a b = (
  λ h. key_cmp-IsAntisymmetric a b (tied (key_cmp a b) h),
  λ e. subst (λ (k : Key). is_eq (key_cmp a k) ≡ true) e (ap is_eq (tied_itself key_cmp_total a)),
)

assert_equal : (a b : Assert) → same_assert a b ≡ true → a ≡ b
assert_equal assert.Nothing assert.Nothing h = refl
assert_equal assert.Exists assert.Exists h = refl
assert_equal assert.Missing assert.Missing h = refl
assert_equal (assert.Query query) (assert.Query other) h = ap assert.Query ((same-Decides query other).0 h)
assert_equal _ _ h = cc

assert_self : (a : Assert) → same_assert a a ≡ true
assert_self assert.Nothing = refl
assert_self assert.Exists = refl
assert_self assert.Missing = refl
assert_self (assert.Query query) = (same-Decides query query).1 refl

change_equal : (a b : Change) → same_change a b ≡ true → a ≡ b
change_equal change.Nothing change.Nothing h = refl
change_equal (change.Insert body) (change.Insert other) h = ap change.Insert ((same-Decides body other).0 h)
change_equal (change.Update update) (change.Update other) h = ap change.Update ((same-Decides update other).0 h)
change_equal change.Remove change.Remove h = refl
change_equal _ _ h = cc

change_self : (a : Change) → same_change a a ≡ true
change_self change.Nothing = refl
change_self (change.Insert body) = (same-Decides body body).1 refl
change_self (change.Update update) = (same-Decides update update).1 refl
change_self change.Remove = refl

op_equal : (a b : Op) → same_op a b ≡ true → a ≡ b
op_equal a b h =
    let p = and_parts (same_key a.key b.key && same_assert a.assert b.assert) (same_change a.change b.change) h in
    let q = and_parts (same_key a.key b.key) (same_assert a.assert b.assert) p.0 in
    let key = (key-Decides a.key b.key).0 q.0 in
    let asserted = assert_equal a.assert b.assert q.1 in
    let changed = change_equal a.change b.change p.1 in
    λ i. record { key = key i; assert = asserted i; change = changed i }

op_self : (a : Op) → same_op a a ≡ true
op_self a = and_from _ _ (and_from _ _ ((key-Decides a.key a.key).1 refl) (assert_self a.assert)) (change_self a.change)

op-Decides : (a b : Op) → Decides (same_op a b) (a ≡ b)
op-Decides a b = (op_equal a b, λ e. subst (λ (o : Op). same_op a o ≡ true) e (op_self a))

pub id-Decides : (a b : TxnId) → Decides (bytes_eq a.0 b.0) (a ≡ b)
id-Decides a b = (
  λ h. let same = (bytes_eq-Decides a.0 b.0).0 h in λ i. record { 0 = same i },
  λ e. (bytes_eq-Decides a.0 b.0).1 (ap (λ (id : TxnId). id.0) e),
)

state_equal : (a b : State) → (state_number a == state_number b) ≡ true → a ≡ b
state_equal state.Preparing state.Preparing h = refl
state_equal state.Prepared state.Prepared h = refl
state_equal state.Aborting state.Aborting h = refl
state_equal state.Applying state.Applying h = refl
state_equal state.Aborted state.Aborted h = refl
state_equal state.Applied state.Applied h = refl
state_equal _ _ h = cc

info-Decides : (a b : Option Value) → Decides (same_option same a b) (a ≡ b)
info-Decides = option-Decides same same-Decides

ops-Decides : (a b : List Op) → Decides (same_list same_op a b) (a ≡ b)
ops-Decides = list-Decides same_op op-Decides

nonce-Decides : (a b : Option ℕ) → Decides (same_option (λ n m. n == m) a b) (a ≡ b)
nonce-Decides = option-Decides (λ n m. n == m) number-Decides

revnos-Decides : (a b : Option (List ℤ)) → Decides (same_revnos a b) (a ≡ b)
revnos-Decides = option-Decides (same_list int_eq) (list-Decides int_eq Decides-int_eq)

record_equal : (a b : Record) → same_record a b ≡ true → a ≡ b
record_equal a b h =
    let p = and_parts _ _ h in
    let q = and_parts _ _ p.0 in
    let r = and_parts _ _ q.0 in
    let s = and_parts _ _ r.0 in
    let t = and_parts _ _ s.0 in
    let id = (id-Decides a.id b.id).0 t.0 in
    let standing = state_equal a.state b.state t.1 in
    let info = (info-Decides a.info b.info).0 s.1 in
    let ops = (ops-Decides a.ops b.ops).0 r.1 in
    let nonce = (nonce-Decides a.nonce b.nonce).0 q.1 in
    let revnos = (revnos-Decides a.revnos b.revnos).0 p.1 in
    λ i. record { id = id i; state = standing i; info = info i; ops = ops i; nonce = nonce i; revnos = revnos i }

record_self : (a : Record) → same_record a a ≡ true
record_self a =
    and_from _ _ (and_from _ _ (and_from _ _ (and_from _ _ (and_from _ _
    ((id-Decides a.id a.id).1 refl) (number_self (state_number a.state)))
    ((info-Decides a.info a.info).1 refl)) ((ops-Decides a.ops a.ops).1 refl))
    ((nonce-Decides a.nonce a.nonce).1 refl)) ((revnos-Decides a.revnos a.revnos).1 refl)

pub record-Decides : (a b : Record) → Decides (same_record a b) (a ≡ b)
record-Decides a b = (record_equal a b, λ e. subst (λ (r : Record). same_record a r ≡ true) e (record_self a))
