-- How one edit changes what a content looks like.
use Rattle.std.proofs.Common.{◌≡◌, ◌≢◌, ◌≤◌, Some, List, if◌then◌else◌}
use Rattle.std.specs.Ordering.{is_eq}
use Rattle.txn_key.specs.Ids.{id_cmp}
use Rattle.txn_key.specs.Keys.{same_key}
use Rattle.txn_key.specs.declared.id.TxnId.{TxnId}
use Rattle.txn_key.specs.declared.id.Token.{Token}
use Rattle.txn_key.specs.declared.key.Key.{Key}
use Rattle.txn_record.specs.declared.record.Record.{Record}
use Rattle.store_trait.specs.Edits.{with_token}
use Rattle.store_laws.specs.View.{View}

-- Parts of a change. The counter stands in each whole shape below.

pub record SameRecords (old new : View) : Type 0 where
  pub records : (id : TxnId) → new.record_at id ≡ old.record_at id

pub record SameQueues (old new : View) : Type 0 where
  pub queues : (key : Key) → new.queue_at key ≡ old.queue_at key

pub record SameHeld (old new : View) : Type 0 where
  pub held : (key : Key) → new.held_at key ≡ old.held_at key

pub record PutsRecord (old new : View) (id : TxnId) (rec : Record) : Type 0 where
  pub records : (other : TxnId) → new.record_at other ≡ (if is_eq (id_cmp other id) then Some rec else old.record_at other)

pub record PutsQueue (old new : View) (key : Key) (queue : List Token) : Type 0 where
  pub queues : (other : Key) → new.queue_at other ≡ (if same_key other key then queue else old.queue_at other)

-- what is held changes at one key at most
pub record HeldElsewhere (old new : View) (key : Key) : Type 0 where
  pub held : (other : Key) → other ≢ key → new.held_at other ≡ old.held_at other

-- Whole shapes, one of each kind of edit.

-- nothing but the counter changes, and that doesn't fall
pub record Counts (old new : View) : Type 0 where
  pub records : SameRecords old new
  pub queues : SameQueues old new
  pub held : SameHeld old new
  pub counter : old.counter ≤ new.counter

-- a record is put, new or moved on
pub record ChangesRecord (old new : View) (id : TxnId) (rec : Record) : Type 0 where
  pub puts : PutsRecord old new id rec
  pub queues : SameQueues old new
  pub held : SameHeld old new
  pub counter : new.counter ≡ old.counter

-- a token is put at the end of an owner queue, unless it is there
pub record AddsToken (old new : View) (key : Key) (token : Token) : Type 0 where
  pub records : SameRecords old new
  pub queues : PutsQueue old new key (with_token token (old.queue_at key))
  pub held : SameHeld old new
  pub counter : new.counter ≡ old.counter

-- what is held at one key is written
pub record ChangesHeld (old new : View) (key : Key) : Type 0 where
  pub records : SameRecords old new
  pub queues : SameQueues old new
  pub held : HeldElsewhere old new key
  pub counter : new.counter ≡ old.counter
