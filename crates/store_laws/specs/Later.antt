use Rattle.std.specs.Prelude.{◌≡◌, ℕ, ◌≤◌, ℤ, Bool, true, false, ◌||◌, Some, List, ◌⊎◌}
use Rattle.txn_key.specs.declared.id.TxnId.{TxnId}
use Rattle.txn_key.specs.declared.id.Token.{Token}
use Rattle.txn_key.specs.declared.key.Key.{Key}
use Rattle.txn_record.specs.declared.record.Record.{Record}
use Rattle.txn_record.specs.declared.state.State.{State}
use Rattle.txn_record.specs.declared.state.State.TheVariants as state
use Rattle.txn_record.specs.States.{was_prepared_state}
use Rattle.store_trait.specs.Names.{same_state}
use Rattle.store_trait.specs.Contents.{Content}
use Rattle.store_laws.specs.View.{View, look, was_prepared, settled, was_decided, valid_nonce, HasKey}
use Rattle.store_laws.specs.Readiness.{In, StandsAt, IsReady, IsSpent}

-- Nothing new stands before a record that was prepared: states go on, keys and nonces stay, and
-- what stands before such a record now stood there before.
pub record NothingNewBefore (old new : View) : Type 0 where
  pub decides : (id : TxnId) → was_prepared old id ≡ true → was_prepared new id ≡ true
  pub chooses : (id : TxnId) → was_decided old id ≡ true → was_decided new id ≡ true
  pub settles : (id : TxnId) → settled old id ≡ true → settled new id ≡ true
  pub keys : (id : TxnId) (key : Key) → HasKey old id key → HasKey new id key
  pub nonces : (id : TxnId) → was_prepared old id ≡ true → valid_nonce new id ≡ valid_nonce old id
  pub stands : (key : Key) (x : Token) (id : TxnId) → was_prepared old id ≡ true
      → StandsAt new key x id → StandsAt old key x id

-- a record that waits for its decision
pub record IsUndecided (view : View) (id : TxnId) : Type 0 where
  pub prepared : was_prepared view id ≡ true
  pub waits : was_decided view id ≡ false

-- What only goes forward, whoever makes the calls between the two contents.
pub record IsLater (old new : View) : Type 0 where
  pub back : NothingNewBefore old new
  pub counter : old.counter ≤ new.counter
  pub stays : (key : Key) (x : Token) (id : TxnId) → StandsAt old key x id
      → StandsAt new key x id ⊎ IsSpent new x
  pub held : (id : TxnId) (key : Key) → IsUndecided old id → IsReady old id → IsUndecided new id
      → HasKey old id key → new.held_at key ≡ old.held_at key

-- the states that a record may be in later on
abbrev pub may_follow : State → State → Bool
may_follow state.Preparing to = true
may_follow state.Prepared to = was_prepared_state to
may_follow state.Aborting to = same_state to state.Aborting || same_state to state.Aborted
may_follow state.Applying to = same_state to state.Applying || same_state to state.Applied
may_follow state.Aborted to = same_state to state.Aborted
may_follow state.Applied to = same_state to state.Applied

-- a record as it is later on: the same transaction, with what was written of it once
pub record GoesTo (old new : Record) : Type 0 where
  pub ops : new.ops ≡ old.ops
  pub info : new.info ≡ old.info
  pub state : may_follow old.state new.state ≡ true
  pub nonce : (nonce : ℕ) → old.nonce ≡ Some nonce → new.nonce ≡ Some nonce
  pub revnos : (revnos : List ℤ) → old.revnos ≡ Some revnos → new.revnos ≡ Some revnos

pub record IsStillThere (view : View) (id : TxnId) (rec : Record) : Type 0 where
  pub now : Record
  pub there : view.record_at id ≡ Some now
  pub goes : GoesTo rec now

-- No record goes away, and no token leaves an owner queue but one that may be taken out.
pub record NothingLost (old new : View) : Type 0 where
  pub records : (id : TxnId) (rec : Record) → old.record_at id ≡ Some rec → IsStillThere new id rec
  pub tokens : (key : Key) (x : Token) → In x (old.queue_at key)
      → In x (new.queue_at key) ⊎ IsSpent new x

abbrev pub Later : Content → Content → Type 0
Later old new = IsLater (look old) (look new)
