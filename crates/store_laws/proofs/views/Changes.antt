-- When a change of a look goes forward and stays orderly, by records and by queues.
use Rattle.std.proofs.Common.{◌≡◌, ℕ, ◌≤◌, true, IsTrue, Some, is_some, inl, sym, ◌∙◌, ap, subst}
use Rattle.std.specs.Option.{option_and_then}
use Rattle.txn_key.specs.declared.id.TxnId.{TxnId}
use Rattle.txn_key.specs.declared.id.Token.{Token}
use Rattle.txn_key.specs.declared.key.Key.{Key}
use Rattle.txn_record.specs.States.{was_prepared_state, is_settled_state, was_decided_state}
use Rattle.txn_record.specs.declared.record.Record.{Record}
use Rattle.txn_record.specs.declared.state.State.TheVariants as state
use Rattle.store_trait.specs.Names.{same_state}
use Rattle.store_laws.specs.View.{View, was_prepared, settled, was_decided, applying, is_queued_state, valid_nonce, nonce_if_prepared, state_passes, HasKey, IsOn}
use Rattle.store_laws.specs.Readiness.{token, In, Before, StandsAt, IsReady, Sealed}
use Rattle.store_laws.specs.Later.{IsUndecided, IsLater}
use Rattle.store_laws.proofs.views.Shapes.{SameRecords, SameQueues, SameHeld}
use Rattle.store_laws.proofs.views.Views.{decided_if_valid}
use Rattle.store_laws.proofs.views.Orderly.{IsOrderly}
use Rattle.store_laws.proofs.views.Later.{ready_still, sealed_still}

-- what an edit comes to on the look of a content
pub record IsOrderlyStep (old new : View) : Type 0 where
  pub later : IsLater old new
  pub orderly : IsOrderly new

-- what a record, where it is present, goes on to
pub record RecordGoes (old new : View) (id : TxnId) : Type 0 where
  pub decides : was_prepared old id ≡ true → was_prepared new id ≡ true
  pub chooses : was_decided old id ≡ true → was_decided new id ≡ true
  pub settles : settled old id ≡ true → settled new id ≡ true
  pub keys : (key : Key) → HasKey old id key → HasKey new id key
  pub nonces : was_prepared old id ≡ true → valid_nonce new id ≡ valid_nonce old id

-- a record that stays as it is

pub same_decided : (old new : View) (id : TxnId) → new.record_at id ≡ old.record_at id → was_prepared new id ≡ was_prepared old id
unfolding was_prepared
same_decided old new id e = ap (state_passes was_prepared_state) e

pub same_chosen : (old new : View) (id : TxnId) → new.record_at id ≡ old.record_at id → was_decided new id ≡ was_decided old id
unfolding was_decided
same_chosen old new id e = ap (state_passes was_decided_state) e

pub same_settled : (old new : View) (id : TxnId) → new.record_at id ≡ old.record_at id → settled new id ≡ settled old id
unfolding settled
same_settled old new id e = ap (state_passes is_settled_state) e

pub same_applying : (old new : View) (id : TxnId) → new.record_at id ≡ old.record_at id → applying new id ≡ applying old id
unfolding applying
same_applying old new id e = ap (state_passes (same_state state.Applying)) e

pub same_nonce : (old new : View) (id : TxnId) → new.record_at id ≡ old.record_at id → valid_nonce new id ≡ valid_nonce old id
unfolding valid_nonce
same_nonce old new id e = ap (option_and_then nonce_if_prepared) e

pub same_goes : (old new : View) (id : TxnId) → new.record_at id ≡ old.record_at id → RecordGoes old new id
same_goes old new id e = record {
  decides = λ h. same_decided old new id e ∙ h;
  chooses = λ h. same_chosen old new id e ∙ h;
  settles = λ h. same_settled old new id e ∙ h;
  keys = λ key has. record { rec = has.rec; there = e ∙ has.there; on = has.on };
  nonces = λ h. same_nonce old new id e;
}

-- where the queues stay and records go on

pub stands_with : {old new : View} (key : Key) (x : Token) (id : TxnId) → valid_nonce new id ≡ valid_nonce old id → new.queue_at key ≡ old.queue_at key → StandsAt old key x id → StandsAt new key x id
stands_with key x id nonces queues stands = record { nonce = stands.nonce; valid = nonces ∙ stands.valid; before = subst (Before x (token id stands.nonce)) (sym queues) stands.before }

pub later_by_records : {old new : View} → ((id : TxnId) → RecordGoes old new id) → SameQueues old new → old.counter ≤ new.counter
    → ((id : TxnId) (key : Key) → IsUndecided old id → IsReady old id → IsUndecided new id → HasKey old id key → new.held_at key ≡ old.held_at key) → IsLater old new
later_by_records {old = old} goes same counter held = record {
  back = record {
    decides = λ id. (goes id).decides;
    chooses = λ id. (goes id).chooses;
    settles = λ id. (goes id).settles;
    keys = λ id. (goes id).keys;
    nonces = λ id. (goes id).nonces;
    stands = λ key x id d stands. stands_with key x id (sym ((goes id).nonces d)) (sym (same.queues key)) stands;
  };
  counter = counter;
  stays = λ key x id stands. inl (stands_with key x id ((goes id).nonces (decided_if_valid old id stands.nonce stands.valid)) (same.queues key) stands);
  held = held;
}

-- the rules of an orderly look, at one record
pub record IsOrderlyAt (view : View) (id : TxnId) : Type 0 where
  pub drawn : (rec : Record) → view.record_at id ≡ Some rec → was_prepared_state rec.state ≡ true → is_some rec.nonce ≡ true
  pub queued : (rec : Record) (nonce : ℕ) (key : Key) → view.record_at id ≡ Some rec → IsTrue (is_queued_state rec.state) → rec.nonce ≡ Some nonce → IsOn key rec.ops → In (token id nonce) (view.queue_at key)
  pub ready : applying view id ≡ true → IsReady view id
  pub sealed : was_decided view id ≡ true → Sealed view id

pub orderly_by_records : {old new : View} → IsOrderly old → IsLater old new → SameQueues old new → ((id : TxnId) → IsOrderlyAt new id) → IsOrderly new
orderly_by_records o later same each = record {
  named = λ key x inside. later.back.keys x.id key (o.named key x (subst (In x) (same.queues key) inside));
  drawn = λ id. (each id).drawn;
  queued = λ id. (each id).queued;
  ready = λ id. (each id).ready;
  sealed = λ id. (each id).sealed;
}

-- a record that stays as it is, where no token leaves a queue
pub still_at : {old new : View} → IsOrderly old → IsLater old new → ((key : Key) (x : Token) → In x (old.queue_at key) → In x (new.queue_at key)) → (id : TxnId) → new.record_at id ≡ old.record_at id → IsOrderlyAt new id
still_at {old = old} {new = new} o later stays id e = record {
  drawn = λ rec there d. o.drawn id rec (sym e ∙ there) d;
  queued = λ rec nonce key there waits some on. stays key (token id nonce) (o.queued id rec nonce key (sym e ∙ there) waits some on);
  ready = λ applies. ready_still o later id (sym (same_applying old new id e) ∙ applies) applies;
  sealed = λ chose. sealed_still o later id (sym (same_chosen old new id e) ∙ chose);
}

pub stays_in : {old new : View} → SameQueues old new → (key : Key) (x : Token) → In x (old.queue_at key) → In x (new.queue_at key)
stays_in same key x inside = subst (In x) (sym (same.queues key)) inside

-- nothing but the counter changes
pub same_later : {old new : View} → SameRecords old new → SameQueues old new → SameHeld old new → old.counter ≤ new.counter → IsLater old new
same_later {old = old} {new = new} records queues held counter = later_by_records (λ id. same_goes old new id (records.records id)) queues counter (λ id key before ready after has. held.held key)

pub same_orderly : {old new : View} → IsOrderly old → IsLater old new → SameRecords old new → SameQueues old new → IsOrderly new
same_orderly o later records queues = orderly_by_records o later queues (λ id. still_at o later (stays_in queues) id (records.records id))
