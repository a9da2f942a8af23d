-- What a look at a content says of one record.
use Rattle.std.proofs.Common.{◌≡◌, ℕ, Bool, true, false, Option, Some, None, ap, ◌∙◌, refl, cond}
use Rattle.std.specs.Option.{option_and_then}
use Rattle.txn_key.specs.declared.id.TxnId.{TxnId}
use Rattle.txn_record.specs.States.{was_prepared_state, is_settled_state, was_decided_state}
use Rattle.txn_record.specs.declared.record.Record.{Record}
use Rattle.txn_record.specs.declared.state.State.{State}
use Rattle.txn_record.specs.declared.state.State.TheVariants as state
use Rattle.store_trait.specs.Names.{same_state}
use Rattle.store_laws.specs.View.{View, state_passes, was_prepared, settled, was_decided, applying, is_queued, is_queued_state, nonce_if_prepared, valid_nonce}
use Rattle.store_laws.proofs.views.States.{chosen_is_decided, settled_is_chosen, applying_is_chosen, waiting_is_unsettled, undecided_waits, applying_waits}

-- a record that passes a test is present
passing : (test : State → Bool) (found : Option Record) → state_passes test found ≡ true → (rec : Record) × (found ≡ Some rec) × (test rec.state ≡ true)
passing test None e = cc
passing test (Some rec) e = (rec, refl, e)

pub present_decided : (view : View) (id : TxnId) → was_prepared view id ≡ true → (rec : Record) × (view.record_at id ≡ Some rec) × (was_prepared_state rec.state ≡ true)
unfolding was_prepared
present_decided view id e = passing was_prepared_state (view.record_at id) e

-- tests of a record as tests of its state

pub decided_at : (view : View) (id : TxnId) (rec : Record) → view.record_at id ≡ Some rec → was_prepared view id ≡ was_prepared_state rec.state
unfolding was_prepared
decided_at view id rec there = ap (state_passes was_prepared_state) there

pub settled_at : (view : View) (id : TxnId) (rec : Record) → view.record_at id ≡ Some rec → settled view id ≡ is_settled_state rec.state
unfolding settled
settled_at view id rec there = ap (state_passes is_settled_state) there

pub chosen_at : (view : View) (id : TxnId) (rec : Record) → view.record_at id ≡ Some rec → was_decided view id ≡ was_decided_state rec.state
unfolding was_decided
chosen_at view id rec there = ap (state_passes was_decided_state) there

pub applying_at : (view : View) (id : TxnId) (rec : Record) → view.record_at id ≡ Some rec → applying view id ≡ same_state state.Applying rec.state
unfolding applying
applying_at view id rec there = ap (state_passes (same_state state.Applying)) there

pub waiting_at : (view : View) (id : TxnId) (rec : Record) → view.record_at id ≡ Some rec → is_queued view id ≡ is_queued_state rec.state
unfolding is_queued
waiting_at view id rec there = ap (state_passes is_queued_state) there

-- one test on a state passes to another
passes_on : (test other : State → Bool) → ((s : State) → test s ≡ true → other s ≡ true) → (found : Option Record) → state_passes test found ≡ true → state_passes other found ≡ true
passes_on test other h None e = e
passes_on test other h (Some rec) e = h rec.state e

fails_on : (test other : State → Bool) → ((s : State) → test s ≡ true → other s ≡ false) → (found : Option Record) → state_passes test found ≡ true → state_passes other found ≡ false
fails_on test other h None e = cc
fails_on test other h (Some rec) e = h rec.state e

pub decided_if_chosen : (view : View) (id : TxnId) → was_decided view id ≡ true → was_prepared view id ≡ true
unfolding was_prepared was_decided
decided_if_chosen view id e = passes_on was_decided_state was_prepared_state chosen_is_decided (view.record_at id) e

pub chosen_if_settled : (view : View) (id : TxnId) → settled view id ≡ true → was_decided view id ≡ true
unfolding was_decided settled
chosen_if_settled view id e = passes_on is_settled_state was_decided_state settled_is_chosen (view.record_at id) e

pub chosen_if_applying : (view : View) (id : TxnId) → applying view id ≡ true → was_decided view id ≡ true
unfolding was_decided applying
chosen_if_applying view id e = passes_on (same_state state.Applying) was_decided_state applying_is_chosen (view.record_at id) e

pub waiting_if_applying : (view : View) (id : TxnId) → applying view id ≡ true → is_queued view id ≡ true
unfolding is_queued applying
waiting_if_applying view id e = passes_on (same_state state.Applying) is_queued_state applying_waits (view.record_at id) e

pub unsettled_if_waiting : (view : View) (id : TxnId) → is_queued view id ≡ true → settled view id ≡ false
unfolding settled is_queued
unsettled_if_waiting view id e = fails_on is_queued_state is_settled_state waiting_is_unsettled (view.record_at id) e

waits_if : (found : Option Record) → state_passes was_prepared_state found ≡ true → state_passes was_decided_state found ≡ false → state_passes is_queued_state found ≡ true
waits_if None d c = d
waits_if (Some rec) d c = undecided_waits rec.state d c

pub waiting_if_undecided : (view : View) (id : TxnId) → was_prepared view id ≡ true → was_decided view id ≡ false → is_queued view id ≡ true
unfolding was_prepared was_decided is_queued
waiting_if_undecided view id d c = waits_if (view.record_at id) d c

-- nonces

has_decided : (found : Option Record) (nonce : ℕ) → option_and_then nonce_if_prepared found ≡ Some nonce → state_passes was_prepared_state found ≡ true
has_decided None nonce e = cc
has_decided (Some rec) nonce e = go (was_prepared_state rec.state) rec.nonce e
  where
    go : (b : Bool) (o : Option ℕ) → cond b o None ≡ Some nonce → b ≡ true
    go true o e = refl
    go false o e = cc

pub decided_if_valid : (view : View) (id : TxnId) (nonce : ℕ) → valid_nonce view id ≡ Some nonce → was_prepared view id ≡ true
unfolding was_prepared valid_nonce
decided_if_valid view id nonce e = has_decided (view.record_at id) nonce e

pub valid_nonce_of : (view : View) (id : TxnId) (rec : Record) → view.record_at id ≡ Some rec → was_prepared_state rec.state ≡ true → valid_nonce view id ≡ rec.nonce
unfolding valid_nonce
valid_nonce_of view id rec there d = ap (option_and_then nonce_if_prepared) there ∙ ap (λ (b : Bool). cond b rec.nonce None) d

-- a Bool that isn't true where another isn't, by what would follow
pub false_back : (a b : Bool) → (a ≡ true → b ≡ true) → b ≡ false → a ≡ false
false_back true b h e = absurd (cc (h refl))
false_back false b h e = refl
