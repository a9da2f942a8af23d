use Rattle.std.specs.Prelude.{ℕ, Bool, true, false}
use Rattle.txn_record.specs.declared.state.State.{State}
use Rattle.txn_record.specs.declared.state.State.TheVariants.{Preparing, Prepared, Aborting, Applying, Aborted, Applied}

-- the number that a state is written as
abbrev pub state_number : State → ℕ
state_number Preparing = 1
state_number Prepared = 2
state_number Aborting = 3
state_number Applying = 4
state_number Aborted = 5
state_number Applied = 6

-- the transaction has nothing left to do to any document
abbrev pub is_settled_state : State → Bool
is_settled_state Preparing = false
is_settled_state Prepared = false
is_settled_state Aborting = true
is_settled_state Applying = false
is_settled_state Aborted = true
is_settled_state Applied = true

-- it was prepared, so that its nonce is drawn and kept: all but preparing
abbrev pub was_prepared_state : State → Bool
was_prepared_state Preparing = false
was_prepared_state Prepared = true
was_prepared_state Aborting = true
was_prepared_state Applying = true
was_prepared_state Aborted = true
was_prepared_state Applied = true

-- it was decided whether it applies or aborts: states 3 to 6
abbrev pub was_decided_state : State → Bool
was_decided_state Preparing = false
was_decided_state Prepared = false
was_decided_state Aborting = true
was_decided_state Applying = true
was_decided_state Aborted = true
was_decided_state Applied = true
