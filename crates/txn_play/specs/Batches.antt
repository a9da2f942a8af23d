-- A batch: transactions that wait, are submitted, and are settled.
use Rattle.std.specs.Prelude.{◌≡◌, ◌⊎◌, true, false, Bool, not, ◌&&◌, ℕ, List, [], ◌∷◌, ◌++◌, length, Option, Some, None, is_some, IsTrue}
use Rattle.std.specs.List.{list_any, list_all, flat_map}
use Rattle.txn_key.specs.declared.id.TxnId.{TxnId}
use Rattle.txn_key.specs.declared.key.Key.{Key}
use Rattle.txn_record.specs.declared.entry.Entry.{Entry}
use Rattle.txn_record.specs.declared.entry.Outcome.{Outcome}
use Rattle.txn_record.specs.declared.record.Record.{Record}
use Rattle.store_trait.specs.Stores.{CallsGoOn}
use Rattle.store_trait.specs.Contents.{Content}
use Rattle.store_trait.specs.Names.{same_id}
use Rattle.store_laws.specs.Steps.{IsStep}
use Rattle.store_laws.specs.View.{record_at}
use Rattle.store_laws.specs.Trail.{IsRecorded}
use Rattle.txn_runner.specs.Built.{is_built}
use Rattle.txn_runner.specs.Calm.{IsCalm}
use Rattle.txn_runner.specs.Numbers.{Uses}
use Rattle.txn_runner.specs.Running.{RunGoesOn}
use Rattle.txn_runner.specs.Settling.{IsSettled, IsSubmitted, HasDocuments}
use Rattle.txn_runner.specs.Store.{has_document}
use Rattle.txn_play.specs.declared.answer.RecordState.{RecordState}
use Rattle.txn_runner.specs.declared.waiting.Waiting.{Waiting}
use Rattle.store_trait.specs.declared.store.Store.{Ghosts}

abbrev pub waits : List Waiting → TxnId → Bool
waits waiting id = list_any (λ other. same_id other.id id) waiting

-- each transaction has an id of its own
abbrev pub are_distinct : List Waiting → Bool
are_distinct [] = true
are_distinct (txn ∷ waiting) = not (waits waiting txn.id) && are_distinct waiting

-- each transaction has the property
abbrev pub Every : (Waiting → Type 0) → List Waiting → Type 0
Every P [] = Unit {0}
Every P (txn ∷ waiting) = P txn × Every P waiting

-- each transaction can be settled
abbrev pub are_built : List Waiting → Bool
are_built waiting = list_all (λ txn. is_built txn.ops) waiting

-- ---- before it is run

-- no record has its id, and the documents of its keys are there
pub record MayBegin (c : Content) (txn : Waiting) : Type 0 where
  pub fresh : record_at c txn.id ≡ None
  pub docs : HasDocuments c txn

-- between two statements: calm content, and a batch that may begin
pub record MayRun (c : Content) (waiting : List Waiting) : Type 0 where
  pub calm : IsCalm c
  pub may_begin : Every (MayBegin c) waiting
  pub distinct : are_distinct waiting ≡ true

-- ---- once it was run

-- a transaction is settled, with this outcome
pub record HasOutcome (c : Content) (txn : Waiting) : Type 0 where
  pub outcome : Outcome
  pub settled : IsSettled c txn outcome

-- A transaction is done: its record is applied or aborted, with its operations, and the order has its
-- entry.
pub record StandsIn (c : Content) (order : List Entry) (txn : Waiting) : Type 0 where
  pub ended : HasOutcome c txn
  pub entry : IsRecorded order ended.settled.rec

-- the state of a record that is there
abbrev pub state_of : TxnId → Option Record → List RecordState
state_of id None = []
state_of id (Some rec) = record { id = id; state = rec.state } ∷ []

-- the state of each transaction of a batch, in its order
abbrev pub record_states : Content → List Waiting → List RecordState
record_states c waiting = flat_map (λ txn. state_of txn.id (record_at c txn.id)) waiting

-- ---- while it is run

-- no record is touched but those of the batch, and no document goes
pub record KeepsAllBut (old new : Content) (waiting : List Waiting) : Type 0 where
  pub records : (other : TxnId) → waits waiting other ≡ false → record_at new other ≡ record_at old other
  pub docs : (key : Key) → has_document old key ≡ true → has_document new key ≡ true

-- Calls for the transactions of a batch: any run goes on with them, by decisions on these alone.
pub record WorksOnBatch {S : Type 0} (store : Ghosts S) (old new : S) (before after : List Entry) (waiting : List Waiting) : Type 0 where
  pub run : RunGoesOn store old new before after
  pub step : IsStep (store.content old) (store.content new)
  pub others : KeepsAllBut (store.content old) (store.content new) waiting
  pub decided : list_all (λ entry. waits waiting entry.id) before ≡ true → list_all (λ entry. waits waiting entry.id) after ≡ true

-- its record, where it is there, has its operations and its info
abbrev pub HasOwnOperations : Content → Waiting → Type 0
HasOwnOperations c txn =
    (rec : Record) → record_at c txn.id ≡ Some rec → (rec.ops ≡ txn.ops) × (rec.info ≡ txn.info)

-- each transaction of the batch has its record
abbrev pub are_recorded : Content → List Waiting → Bool
are_recorded c waiting = list_all (λ txn. is_some (record_at c txn.id)) waiting

-- What calls for a batch leave of its records, however they ended: no other operations than the batch's; and
-- nothing is decided before each transaction has its record.
pub record LeavesRecords (c : Content) (before after : List Entry) (waiting : List Waiting) : Type 0 where
  pub own : Every (HasOwnOperations c) waiting
  pub whole : (after ≡ before) ⊎ (are_recorded c waiting ≡ true)

-- every transaction of the batch was submitted
pub record IsBegun (c : Content) (waiting : List Waiting) : Type 0 where
  pub calm : IsCalm c
  pub submitted : Every (IsSubmitted c) waiting
  pub docs : Every (HasDocuments c) waiting
  pub distinct : are_distinct waiting ≡ true

-- every transaction of the batch came to its end, and the states say how
pub record IsDoneWith (c : Content) (waiting : List Waiting) (states : List RecordState) : Type 0 where
  pub calm : IsCalm c
  pub ended : Every (HasOutcome c) waiting
  pub are : states ≡ record_states c waiting

-- ---- the loops, with what is left of the batch

-- a record that is there stays as it is
abbrev pub KeepsPresent : Content → Content → Type 0
KeepsPresent old new = (id : TxnId) (rec : Record) → record_at old id ≡ Some rec → record_at new id ≡ Some rec

pub record IsSubmitting {S : Type 0} (store : Ghosts S) (old now : S) (waiting left : List Waiting) : Type 0 where
  pub works : (order : List Entry) → WorksOnBatch store old now order order waiting
  pub uses : Uses (store.content old) (store.content now) 0 0 0 0
  pub calm : IsCalm (store.content now)
  pub may_begin : Every (MayBegin (store.content now)) left
  pub distinct : are_distinct left ≡ true
  pub within : Every (λ txn. waits waiting txn.id ≡ true) left
  pub done : (d : Content) → KeepsPresent (store.content now) d → Every (IsSubmitted d) left → Every (IsSubmitted d) waiting
  pub own : (d : Content) → KeepsPresent (store.content now) d → Every (HasOwnOperations d) left → Every (HasOwnOperations d) waiting

pub record IsSettling {S : Type 0} (store : Ghosts S) (old now : S) (before order : List Entry) (waiting left : List Waiting) (states : List RecordState) : Type 0 where
  pub works : WorksOnBatch store old now before order waiting
  pub uses : Uses (store.content old) (store.content now) (length waiting) (length waiting) (length left) (length left)
  pub begun : IsBegun (store.content now) left
  pub within : Every (λ txn. waits waiting txn.id ≡ true) left
  pub done : (d : Content) → IsStep (store.content now) d → Every (HasOutcome d) left → Every (HasOutcome d) waiting
  pub are : (d : Content) → IsStep (store.content now) d → record_states d waiting ≡ states ++ record_states d left

-- the two loops, over a store that may tell nothing
pub record IsSubmittingBatch {S : Type 0} (store : Ghosts S) (old now : S) (waiting left : List Waiting) : Type 0 where
  pub told : IsTrue store.tells → IsSubmitting store old now waiting left
  pub made : CallsGoOn store old now

pub record IsSettlingBatch {S : Type 0} (store : Ghosts S) (old now : S) (before order : List Entry) (waiting left : List Waiting) (states : List RecordState) : Type 0 where
  pub told : IsTrue store.tells → IsSettling store old now before order waiting left states
  pub made : CallsGoOn store old now
  pub built : are_built left ≡ true
