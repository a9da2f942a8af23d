-- The moves of a record's life: prepared, decided, done.
use Rattle.std.proofs.Common.{◌≡◌, ℕ, ℤ, true, false, Some, None, List, refl, ◌∙◌, ap, subst}
use Rattle.std.proofs.lemmas.Option.{same_Some}
use Rattle.txn_key.specs.declared.id.TxnId.{TxnId}
use Rattle.txn_key.specs.declared.key.Key.{Key}
use Rattle.txn_record.specs.States.{was_prepared_state, is_settled_state, was_decided_state}
use Rattle.txn_record.specs.declared.record.Record.{Record}
use Rattle.txn_record.specs.declared.state.State.{State}
use Rattle.txn_record.specs.declared.state.State.TheVariants as state
use Rattle.store_trait.specs.Names.{same_state}
use Rattle.store_trait.specs.Edits.{moved}
use Rattle.store_laws.specs.View.{View, is_queued_state, IsOn}
use Rattle.store_laws.specs.Readiness.{token, In, IsReady}
use Rattle.store_laws.proofs.views.Shapes.{ChangesRecord}
use Rattle.store_laws.proofs.views.Views.{chosen_at}
use Rattle.store_laws.proofs.views.Orderly.{IsOrderly}
use Rattle.store_laws.proofs.views.Changes.{IsOrderlyStep}
use Rattle.store_laws.proofs.views.Moves.{move_step}

-- states are told apart by their numbers
pub same_states : (a b : State) → same_state a b ≡ true → a ≡ b
same_states state.Preparing state.Preparing e = refl
same_states state.Prepared state.Prepared e = refl
same_states state.Aborting state.Aborting e = refl
same_states state.Applying state.Applying e = refl
same_states state.Aborted state.Aborted e = refl
same_states state.Applied state.Applied e = refl
same_states _ _ e = cc

-- A preparing record becomes prepared, once its token with that nonce stands in the owner queue of
-- each of its keys.
pub prepare_step : {old new : View} (id : TxnId) (was : Record) (nonce : ℕ) → IsOrderly old → ChangesRecord old new id (moved state.Prepared (Some nonce) None was) → old.record_at id ≡ Some was → was.state ≡ state.Preparing
    → ((key : Key) → IsOn key was.ops → In (token id nonce) (old.queue_at key)) → IsOrderlyStep old new
prepare_step {old = old} id was nonce o change before from queued = move_step id was (moved state.Prepared (Some nonce) None was) o change before (record {
  ops = refl;
  decides = refl;
  chooses = λ c. absurd (cc (ap was_decided_state from, c));
  settles = λ s. absurd (cc (ap is_settled_state from, s));
  nonces = λ d. absurd (cc (ap was_prepared_state from, d));
}) (record {
  drawn = refl;
  queued = λ n key waits some on. subst_token n (same_Some nonce n some) key on;
  prepared = λ c. absurd (cc c);
  sealed = λ c. absurd (cc c);
  ready = λ a. absurd (cc a);
})
  where
    subst_token : (n : ℕ) → nonce ≡ n → (key : Key) → IsOn key was.ops → In (token id n) (old.queue_at key)
    subst_token n e key on = subst (λ (n : ℕ). In (token id n) (old.queue_at key)) e (queued key on)

-- A ready prepared record starts to apply.
pub apply_step : {old new : View} (id : TxnId) (was : Record) (revnos : List ℤ) → IsOrderly old → ChangesRecord old new id (moved state.Applying None (Some revnos) was) → old.record_at id ≡ Some was → was.state ≡ state.Prepared
    → IsReady old id → IsOrderlyStep old new
apply_step {old = old} id was revnos o change before from ready = move_step id was (moved state.Applying None (Some revnos) was) o change before (record {
  ops = refl;
  decides = refl;
  chooses = λ c. refl;
  settles = λ s. absurd (cc (ap is_settled_state from, s));
  nonces = λ d. refl;
}) (record {
  drawn = o.drawn id was before (ap was_prepared_state from);
  queued = λ n key waits some on. o.queued id was n key before (ap is_queued_state from) some on;
  prepared = λ c. ap was_prepared_state from;
  sealed = λ c. ready.sealed;
  ready = λ a. ready;
})

-- A ready prepared record is refused.
pub abort_step : {old new : View} (id : TxnId) (was : Record) → IsOrderly old → ChangesRecord old new id (moved state.Aborting None None was) → old.record_at id ≡ Some was → was.state ≡ state.Prepared
    → IsReady old id → IsOrderlyStep old new
abort_step {old = old} id was o change before from ready = move_step id was (moved state.Aborting None None was) o change before (record {
  ops = refl;
  decides = refl;
  chooses = λ c. refl;
  settles = λ s. refl;
  nonces = λ d. refl;
}) (record {
  drawn = o.drawn id was before (ap was_prepared_state from);
  queued = λ n key waits some on. absurd (cc waits);
  prepared = λ c. ap was_prepared_state from;
  sealed = λ c. ready.sealed;
  ready = λ a. absurd (cc a);
})

-- a decided record comes to a state in which it is settled
settle_step : {old new : View} (to : State) (id : TxnId) (was : Record) → is_settled_state to ≡ true → was_prepared_state to ≡ true → was_decided_state to ≡ true → is_queued_state to ≡ false → same_state state.Applying to ≡ false
    → IsOrderly old → ChangesRecord old new id (moved to None None was) → old.record_at id ≡ Some was → was_decided_state was.state ≡ true → was_prepared_state was.state ≡ true → IsOrderlyStep old new
settle_step {old = old} to id was settled prepared decided waits applies o change before was_chosen was_prepared_then = move_step id was (moved to None None was) o change before (record {
  ops = refl;
  decides = prepared;
  chooses = λ c. decided;
  settles = λ s. settled;
  nonces = λ d. refl;
}) (record {
  drawn = o.drawn id was before was_prepared_then;
  queued = λ n key w some on. absurd (cc (waits, w));
  prepared = λ c. was_prepared_then;
  sealed = λ c. o.sealed id (chosen_at old id was before ∙ was_chosen);
  ready = λ a. absurd (cc (applies, a));
})

-- An applying record is applied.
pub close_step : {old new : View} (id : TxnId) (was : Record) → IsOrderly old → ChangesRecord old new id (moved state.Applied None None was) → old.record_at id ≡ Some was → was.state ≡ state.Applying → IsOrderlyStep old new
close_step id was o change before from = settle_step state.Applied id was refl refl refl refl refl o change before (ap was_decided_state from) (ap was_prepared_state from)

-- An aborting record is aborted.
pub end_step : {old new : View} (id : TxnId) (was : Record) → IsOrderly old → ChangesRecord old new id (moved state.Aborted None None was) → old.record_at id ≡ Some was → was.state ≡ state.Aborting → IsOrderlyStep old new
end_step id was o change before from = settle_step state.Aborted id was refl refl refl refl refl o change before (ap was_decided_state from) (ap was_prepared_state from)
