-- What the states of a record say of one another.
use Rattle.std.proofs.Common.{◌≡◌, true, false, refl}
use Rattle.txn_record.specs.States.{was_prepared_state, is_settled_state, was_decided_state}
use Rattle.txn_record.specs.declared.state.State.{State}
use Rattle.txn_record.specs.declared.state.State.TheVariants as state
use Rattle.store_trait.specs.Names.{same_state}
use Rattle.store_laws.specs.View.{is_queued_state}

pub chosen_is_decided : (s : State) → was_decided_state s ≡ true → was_prepared_state s ≡ true
chosen_is_decided state.Preparing e = e
chosen_is_decided _ e = refl

pub settled_is_chosen : (s : State) → is_settled_state s ≡ true → was_decided_state s ≡ true
settled_is_chosen state.Preparing e = e
settled_is_chosen state.Prepared e = e
settled_is_chosen _ e = refl

pub applying_is_chosen : (s : State) → same_state state.Applying s ≡ true → was_decided_state s ≡ true
applying_is_chosen state.Preparing e = e
applying_is_chosen state.Prepared e = e
applying_is_chosen _ e = refl

pub applying_waits : (s : State) → same_state state.Applying s ≡ true → is_queued_state s ≡ true
applying_waits state.Applying e = refl
applying_waits _ e = cc

pub waiting_is_decided : (s : State) → is_queued_state s ≡ true → was_prepared_state s ≡ true
waiting_is_decided state.Preparing e = e
waiting_is_decided _ e = refl

pub waiting_is_unsettled : (s : State) → is_queued_state s ≡ true → is_settled_state s ≡ false
waiting_is_unsettled state.Preparing e = refl
waiting_is_unsettled state.Prepared e = refl
waiting_is_unsettled state.Applying e = refl
waiting_is_unsettled _ e = cc

pub undecided_waits : (s : State) → was_prepared_state s ≡ true → was_decided_state s ≡ false → is_queued_state s ≡ true
undecided_waits state.Preparing d c = d
undecided_waits state.Prepared d c = refl
undecided_waits _ d c = cc

-- a prepared record that doesn't wait is settled
pub settled_otherwise : (s : State) → was_prepared_state s ≡ true → is_queued_state s ≡ false → is_settled_state s ≡ true
settled_otherwise state.Preparing d w = d
settled_otherwise state.Prepared d w = cc
settled_otherwise state.Applying d w = cc
settled_otherwise _ d w = refl
