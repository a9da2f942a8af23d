-- Whether two records are the same, as tests that compute. That they are equality is a law.
use Rattle.std.specs.Prelude.{ℕ, ℤ, Bool, true, false, ◌==◌, ◌&&◌, Option, Some, None, List, length}
use Rattle.std.specs.List.{list_all, zip}
use Rattle.std.specs.Ordering.{int_eq}
use Rattle.std.specs.Str.{bytes_eq}
use Rattle.doc_value.specs.Same.{same}
use Rattle.txn_key.specs.Keys.{same_key}
use Rattle.txn_record.specs.States.{state_number}
use Rattle.txn_record.specs.declared.op.Assert.{Assert}
use Rattle.txn_record.specs.declared.op.Assert.TheVariants as assert
use Rattle.txn_record.specs.declared.op.Change.{Change}
use Rattle.txn_record.specs.declared.op.Change.TheVariants as change
use Rattle.txn_record.specs.declared.op.Op.{Op}
use Rattle.txn_record.specs.declared.record.Record.{Record}

-- both are missing, or both are there and pass the test
abbrev pub same_option : {A : Type 0} → (A → A → Bool) → Option A → Option A → Bool
same_option test None None = true
same_option test (Some a) (Some b) = test a b
same_option _ _ _ = false

-- each passes the test with the one at its place in the other list
abbrev pub agree : {A : Type 0} → (A → A → Bool) → List A → List A → Bool
agree test xs ys = list_all (λ pair. test pair.0 pair.1) (zip xs ys)

abbrev pub same_list : {A : Type 0} → (A → A → Bool) → List A → List A → Bool
same_list test xs ys = (length xs == length ys) && agree test xs ys

abbrev pub same_assert : Assert → Assert → Bool
same_assert assert.Nothing assert.Nothing = true
same_assert assert.Exists assert.Exists = true
same_assert assert.Missing assert.Missing = true
same_assert (assert.Query query) (assert.Query other) = same query other
same_assert _ _ = false

abbrev pub same_change : Change → Change → Bool
same_change change.Nothing change.Nothing = true
same_change (change.Insert body) (change.Insert other) = same body other
same_change (change.Update update) (change.Update other) = same update other
same_change change.Remove change.Remove = true
same_change _ _ = false

abbrev pub same_op : Op → Op → Bool
same_op a b =
    same_key a.key b.key && same_assert a.assert b.assert && same_change a.change b.change

abbrev pub same_revnos : Option (List ℤ) → Option (List ℤ) → Bool
same_revnos a b = same_option (same_list int_eq) a b

abbrev pub same_record : Record → Record → Bool
same_record a b =
    bytes_eq a.id.0 b.id.0
    && (state_number a.state == state_number b.state)
    && same_option same a.info b.info
    && same_list same_op a.ops b.ops
    && same_option (λ n m. n == m) a.nonce b.nonce
    && same_revnos a.revnos b.revnos
