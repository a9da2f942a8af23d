-- What is read of a record that was looked up, or that is missing.
use Rattle.std.proofs.Common.{◌≡◌, ℕ, Bool, true, false, ◌↔◌, IsTrue, eqb, Option, Some, None, List, refl, sym, ap, ◌∙◌, if◌then◌else◌}
use Rattle.std.specs.Option.{option_and_then, option_eq}
use Rattle.std.proofs.lemmas.Bool.{eq-eqb, eqb-true}
use Rattle.std.specs.List.{Contains}
use Rattle.listed_cells.specs.Orders.{IsRoster}
use Rattle.store_laws.specs.View.{look, record_at, valid_nonce, was_prepared, settled, nonce_if_prepared, state_passes}
use Rattle.store_trait.specs.Contents.{Content}
use Rattle.txn_key.specs.declared.id.TxnId.{TxnId}
use Rattle.txn_record.specs.States.{was_prepared_state, is_settled_state}
use Rattle.txn_record.specs.declared.record.Record.{Record}

eq_some : (o : Option ℕ) (n : ℕ) → IsTrue (option_eq eqb o (Some n)) ↔ (o ≡ Some n)
eq_some None n = (λ h. cc h, λ h. cc h)
eq_some (Some m) n = (λ h. ap Some (eqb-true m n h), λ e. eq-eqb m n (option_inj m n e))
  where
    option_inj : (m n : ℕ) → Some m ≡ Some n → m ≡ n
    option_inj m n e = cc

module _ (c : Content) (id : TxnId) where
  pub prepared_by : (found : Option Record) → found ≡ record_at c id → was_prepared (look c) id ≡ state_passes was_prepared_state found
  unfolding was_prepared look
  prepared_by found e = ap (state_passes was_prepared_state) (sym e)

  pub settled_by : (found : Option Record) → found ≡ record_at c id → settled (look c) id ≡ state_passes is_settled_state found
  unfolding settled look
  settled_by found e = ap (state_passes is_settled_state) (sym e)

  pub nonce_by : (found : Option Record) → found ≡ record_at c id → valid_nonce (look c) id ≡ option_and_then nonce_if_prepared found
  unfolding valid_nonce look
  nonce_by found e = ap (option_and_then nonce_if_prepared) (sym e)

  -- a record that was prepared has a valid nonce where it has one
  pub nonce_of_prepared : (rec : Record) → Some rec ≡ record_at c id → was_prepared_state rec.state ≡ true → valid_nonce (look c) id ≡ rec.nonce
  nonce_of_prepared rec e p = nonce_by (Some rec) e ∙ ap (λ (b : Bool). if b then rec.nonce else None) p

  pub nonce_of_preparing : (rec : Record) → Some rec ≡ record_at c id → was_prepared_state rec.state ≡ false → valid_nonce (look c) id ≡ None
  nonce_of_preparing rec e p = nonce_by (Some rec) e ∙ ap (λ (b : Bool). if b then rec.nonce else None) p

  -- the test of a record that was prepared, and of one that wasn't
  pub valid_by : (rec : Record) (n : ℕ) → Some rec ≡ record_at c id → was_prepared_state rec.state ≡ true → IsTrue (option_eq eqb rec.nonce (Some n)) ↔ (valid_nonce (look c) id ≡ Some n)
  valid_by rec n e p =
      let same = nonce_of_prepared rec e p in
      (λ h. same ∙ (eq_some rec.nonce n).0 h, λ v. (eq_some rec.nonce n).1 (sym same ∙ v))

  pub never_valid : (n : ℕ) → valid_nonce (look c) id ≡ None → IsTrue false ↔ (valid_nonce (look c) id ≡ Some n)
  never_valid n none = (λ h. cc h, λ v. differ n (sym none ∙ v))
    where
      differ : (n : ℕ) → None ≡ Some n → IsTrue false
      differ n e = cc

  -- a record with a valid nonce is there, and listed among all ids
  pub there_by_all : (ids : List TxnId) (n : ℕ) → ((id : TxnId) (rec : Record) → record_at c id ≡ Some rec → Contains ids id) → valid_nonce (look c) id ≡ Some n → Contains ids id
  there_by_all ids n all valid = by_found (record_at c id) refl
    where
      some_or_none : (n : ℕ) → None ≡ Some n → ⊥
      some_or_none n e = cc

      by_found : (found : Option Record) → found ≡ record_at c id → Contains ids id
      by_found (Some rec) e = all id rec (sym e)
      by_found None e = absurd (some_or_none n (sym (nonce_by None e) ∙ valid))

  pub there_from_valid : (ids : List TxnId) (n : ℕ) → IsRoster c ids → valid_nonce (look c) id ≡ Some n → Contains ids id
  there_from_valid ids n roster valid = there_by_all ids n roster.all valid
