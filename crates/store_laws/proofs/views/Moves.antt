-- A record is put: inserted, or moved on.
use Rattle.std.proofs.Common.{◌≡◌, ℕ, Bool, true, Some, None, is_some, sym, ◌∙◌, ap, subst, if◌then◌else◌, arith}
use Rattle.std.specs.Ordering.{is_eq}
use Rattle.std.proofs.lemmas.Cmp.{tied_itself}
use Rattle.std.proofs.lemmas.Option.{same_Some}
use Rattle.txn_key.proofs.KeyOrder.{id_cmp_total}
use Rattle.txn_key.specs.declared.id.TxnId.{TxnId}
use Rattle.txn_key.specs.declared.key.Key.{Key}
use Rattle.txn_record.specs.States.{was_prepared_state, is_settled_state, was_decided_state}
use Rattle.txn_record.specs.declared.record.Record.{Record}
use Rattle.txn_record.specs.declared.state.State.TheVariants as state
use Rattle.store_trait.specs.Names.{same_state}
use Rattle.store_laws.specs.View.{View, was_prepared, is_queued_state, IsOn}
use Rattle.store_laws.specs.Readiness.{token, In, IsReady, Sealed}
use Rattle.store_laws.specs.Later.{IsLater}
use Rattle.store_laws.proofs.views.Shapes.{PutsRecord, ChangesRecord, SameQueues}
use Rattle.store_laws.proofs.views.States.{applying_is_chosen, applying_waits, waiting_is_unsettled}
use Rattle.store_laws.proofs.views.Views.{present_decided, decided_if_chosen, chosen_if_settled, decided_at, settled_at, chosen_at, applying_at, valid_nonce_of}
use Rattle.store_laws.proofs.views.Equals.{by_id}
use Rattle.store_laws.proofs.views.Orderly.{IsOrderly}
use Rattle.store_laws.proofs.views.Carries.{carry_sealed, carry_ready}
use Rattle.store_laws.proofs.views.Changes.{IsOrderlyStep, RecordGoes, same_goes, later_by_records, IsOrderlyAt, orderly_by_records, still_at, stays_in}

-- Put at one id.

pub put_here : {old new : View} (id : TxnId) (rec : Record) → PutsRecord old new id rec → new.record_at id ≡ Some rec
put_here {old = old} id rec puts = puts.records id ∙ ap (λ (b : Bool). if b then Some rec else old.record_at id) (ap is_eq (tied_itself id_cmp_total id))

-- what holds of the record put and of each that stays holds of all
pub each_record : {old new : View} {id : TxnId} {rec : Record} → PutsRecord old new id rec → (P : TxnId → Type 0) → P id → ((other : TxnId) → new.record_at other ≡ old.record_at other → P other) → (other : TxnId) → P other
each_record {old = old} {new = new} {id = id} {rec = rec} puts P here others other =
    by_id other id (λ b. new.record_at other ≡ (if b then Some rec else old.record_at other) → P other) (λ e is. subst P (sym e) here) (λ e is. others other is) (puts.records other)

-- Inserted.

absent_goes : (old new : View) (id : TxnId) → old.record_at id ≡ None → RecordGoes old new id
absent_goes old new id absent = record {
  decides = λ d. absurd (gone d);
  chooses = λ c. absurd (gone (decided_if_chosen old id c));
  settles = λ s. absurd (gone (decided_if_chosen old id (chosen_if_settled old id s)));
  keys = λ key has. absurd (cc (absent, has.there));
  nonces = λ d. absurd (gone d);
}
  where
    gone : was_prepared old id ≡ true → ⊥
    gone d = let (rec, there, state) = present_decided old id d in cc (absent, there)

preparing_at : (view : View) (id : TxnId) (rec : Record) → view.record_at id ≡ Some rec → rec.state ≡ state.Preparing → IsOrderlyAt view id
preparing_at view id rec there prepares = record {
  drawn = λ r here d. absurd (cc (ap was_prepared_state (state_of r here), d));
  queued = λ r nonce key here waits some on. absurd (cc (ap is_queued_state (state_of r here), waits));
  ready = λ applies. absurd (cc (applying_at view id rec there, prepares, applies));
  sealed = λ chose. absurd (cc (chosen_at view id rec there, ap was_decided_state prepares, chose));
}
  where
    state_of : (r : Record) → view.record_at id ≡ Some r → r.state ≡ state.Preparing
    state_of r here = ap (λ (r : Record). r.state) (same_Some r rec (sym here ∙ there)) ∙ prepares

-- a preparing record where there was none of its id
pub insert_step : {old new : View} (id : TxnId) (rec : Record) → IsOrderly old → ChangesRecord old new id rec → old.record_at id ≡ None → rec.state ≡ state.Preparing → IsOrderlyStep old new
insert_step {old = old} {new = new} id rec o change absent prepares = record { later = later; orderly = orderly }
  where
    later : IsLater old new
    later = later_by_records (each_record change.puts (RecordGoes old new) (absent_goes old new id absent) (same_goes old new)) change.queues (omega (arith, change.counter)) (λ t key before ready after has. change.held.held key)

    orderly : IsOrderly new
    orderly = orderly_by_records o later change.queues (each_record change.puts (IsOrderlyAt new) (preparing_at new id rec (put_here id rec change.puts) prepares) (still_at o later (stays_in change.queues)))

-- Moved on.

-- what a move keeps of a record
pub record Advances (was rec : Record) : Type 0 where
  pub ops : rec.ops ≡ was.ops
  pub decides : was_prepared_state rec.state ≡ true
  pub chooses : was_decided_state was.state ≡ true → was_decided_state rec.state ≡ true
  pub settles : is_settled_state was.state ≡ true → is_settled_state rec.state ≡ true
  pub nonces : was_prepared_state was.state ≡ true → rec.nonce ≡ was.nonce

-- when a record may move so
pub record MayMove (old : View) (id : TxnId) (was rec : Record) : Type 0 where
  pub drawn : is_some rec.nonce ≡ true
  pub queued : (nonce : ℕ) (key : Key) → is_queued_state rec.state ≡ true → rec.nonce ≡ Some nonce → IsOn key rec.ops → In (token id nonce) (old.queue_at key)
  pub prepared : was_decided_state rec.state ≡ true → was_prepared_state was.state ≡ true
  pub sealed : was_decided_state rec.state ≡ true → Sealed old id
  pub ready : same_state state.Applying rec.state ≡ true → IsReady old id

advance_goes : {old new : View} (id : TxnId) (was rec : Record) → old.record_at id ≡ Some was → new.record_at id ≡ Some rec → Advances was rec → RecordGoes old new id
advance_goes {old = old} {new = new} id was rec before after move = record {
  decides = λ d. decided_at new id rec after ∙ move.decides;
  chooses = λ c. chosen_at new id rec after ∙ move.chooses (sym (chosen_at old id was before) ∙ c);
  settles = λ s. settled_at new id rec after ∙ move.settles (sym (settled_at old id was before) ∙ s);
  keys = λ key has. record { rec = rec; there = after; on = subst (IsOn key) (ap (λ (r : Record). r.ops) (same_Some has.rec was (sym has.there ∙ before)) ∙ sym move.ops) has.on };
  nonces = λ d.
      let d_was = sym (decided_at old id was before) ∙ d in
      valid_nonce_of new id rec after move.decides ∙ move.nonces d_was ∙ sym (valid_nonce_of old id was before d_was);
}

moved_at : {old new : View} (id : TxnId) (was rec : Record) → IsLater old new → SameQueues old new → old.record_at id ≡ Some was → new.record_at id ≡ Some rec → MayMove old id was rec → IsOrderlyAt new id
moved_at {old = old} {new = new} id was rec later queues before after may = record {
  drawn = λ r here d. subst (λ (r : Record). is_some r.nonce ≡ true) (same r here) may.drawn;
  queued = λ r nonce key here waits some on. stays_in queues key (token id nonce) (
      subst (λ (r : Record). is_queued_state r.state ≡ true → r.nonce ≡ Some nonce → IsOn key r.ops → In (token id nonce) (old.queue_at key)) (same r here) (may.queued nonce key) waits some on);
  ready = λ applies.
      let state = sym (applying_at new id rec after) ∙ applies in
      carry_ready later id (was_decided (applying_is_chosen rec.state state)) (settled_at new id rec after ∙ waiting_is_unsettled rec.state (applying_waits rec.state state)) (may.ready state);
  sealed = λ chose.
      let state = sym (chosen_at new id rec after) ∙ chose in
      carry_sealed later.back id (was_decided state) (may.sealed state);
}
  where
    same : (r : Record) → new.record_at id ≡ Some r → rec ≡ r
    same r here = same_Some rec r (sym after ∙ here)

    was_decided : was_decided_state rec.state ≡ true → was_prepared old id ≡ true
    was_decided chose = decided_at old id was before ∙ may.prepared chose

pub move_step : {old new : View} (id : TxnId) (was rec : Record) → IsOrderly old → ChangesRecord old new id rec → old.record_at id ≡ Some was → Advances was rec → MayMove old id was rec → IsOrderlyStep old new
move_step {old = old} {new = new} id was rec o change before move may = record { later = later; orderly = orderly }
  where
    after : new.record_at id ≡ Some rec
    after = put_here id rec change.puts

    later : IsLater old new
    later = later_by_records (each_record change.puts (RecordGoes old new) (advance_goes id was rec before after move) (same_goes old new)) change.queues (omega (arith, change.counter)) (λ t key b ready a has. change.held.held key)

    orderly : IsOrderly new
    orderly = orderly_by_records o later change.queues (each_record change.puts (IsOrderlyAt new) (moved_at id was rec later change.queues before after may) (still_at o later (stays_in change.queues)))
