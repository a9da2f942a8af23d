-- What a runner knows of the transaction that it settles, from stage to stage.
use Rattle.std.specs.Prelude.{◌≡◌, ◌≢◌, ◌<◌, ◌≤◌, ℕ, ℤ, Bool, true, false, List, [], ◌∷◌, Option, Some, None, Result, IfOk, IfErr, unsigned_abs}
use Rattle.std.specs.List.{list_all}
use Rattle.txn_key.specs.declared.id.TxnId.{TxnId}
use Rattle.txn_key.specs.declared.key.Key.{Key}
use Rattle.txn_record.specs.Effects.{tests}
use Rattle.txn_record.specs.declared.entry.Entry.{Entry}
use Rattle.txn_record.specs.declared.entry.Outcome.{Outcome}
use Rattle.txn_record.specs.declared.record.Record.{Record}
use Rattle.txn_record.specs.declared.state.State.{State}
use Rattle.txn_record.specs.declared.state.State.TheVariants as state
use Rattle.store_trait.specs.Contents.{Content}
use Rattle.store_laws.specs.Done.{AllPassed}
use Rattle.store_trait.specs.Edits.{nonce_limit}
use Rattle.store_laws.specs.Meaning.{meaning}
use Rattle.store_laws.specs.Readiness.{In, token}
use Rattle.store_laws.specs.Soundness.{IsSound}
use Rattle.store_laws.specs.Steps.{IsStep}
use Rattle.store_laws.specs.View.{look, record_at, doc_at, counter, IsOn}
use Rattle.store_trait.specs.declared.cell.DocCell.{DocCell}
use Rattle.store_trait.specs.declared.edit.Edit.{Edit}
use Rattle.store_trait.specs.declared.edit.Edit.TheVariants as edit
use Rattle.store_laws.specs.Alone.{IsAlone}
use Rattle.store_laws.specs.Chains.{IsChainFrom}
use Rattle.store_laws.specs.Plain.{IsPlain}
use Rattle.txn_record.specs.declared.entry.Outcome.TheVariants as outcome
use Rattle.txn_runner.specs.Running.{RunGoesOn}
use Rattle.txn_runner.specs.Store.{has_document}
use Rattle.txn_runner.specs.declared.error.StepError.{StepError}
use Rattle.txn_runner.specs.declared.error.StepError.TheVariants as step
use Rattle.txn_runner.specs.declared.stage.Stage.{Stage}
use Rattle.txn_runner.specs.declared.stage.Stage.TheVariants as stage
use Rattle.txn_runner.specs.declared.waiting.Waiting.{Waiting}
use Rattle.store_trait.specs.declared.store.Store.{Ghosts}

-- ---- the transaction's record, as it is written: with its operations, and what is noted with it

abbrev pub stored : Waiting → State → Option ℕ → Option (List ℤ) → Record
stored txn state nonce revnos = record { id = txn.id; state = state; info = txn.info; ops = txn.ops; nonce = nonce; revnos = revnos }

abbrev pub IsThere : Content → Waiting → State → Option ℕ → Option (List ℤ) → Type 0
IsThere c txn state nonce revnos = record_at c txn.id ≡ Some (stored txn state nonce revnos)

-- as it is submitted
abbrev pub preparing_record : Waiting → Record
preparing_record txn = stored txn state.Preparing None None

abbrev pub IsSubmitted : Content → Waiting → Type 0
IsSubmitted c txn = IsThere c txn state.Preparing None None

-- whether a transaction came to its end: its record is applied or aborted
abbrev pub is_end : State → Bool
is_end state.Preparing = false
is_end state.Prepared = false
is_end state.Aborting = false
is_end state.Applying = false
is_end state.Aborted = true
is_end state.Applied = true

abbrev pub is_ended : Option Record → Bool
is_ended None = false
is_ended (Some rec) = is_end rec.state

abbrev pub has_ended : Content → TxnId → Bool
has_ended c id = is_ended (record_at c id)

-- the state that a record comes to its end in
abbrev pub settled_state : Outcome → State
settled_state outcome.Applied = state.Applied
settled_state outcome.Aborted = state.Aborted

-- the edit of a prepared record that decides its transaction: one that applies takes the numbers that
-- its operations find
abbrev pub deciding : Outcome → List ℤ → Edit
deciding outcome.Applied revnos = edit.Move state.Prepared state.Applying None (Some revnos)
deciding outcome.Aborted revnos = edit.Move state.Prepared state.Aborting None None

-- the transaction came to its end: its record is applied, or aborted, with its operations and what is
-- noted with it
pub record IsSettled (c : Content) (txn : Waiting) (outcome : Outcome) : Type 0 where
  pub rec : Record
  pub there : record_at c txn.id ≡ Some rec
  pub ends : rec.state ≡ settled_state outcome
  pub ops : rec.ops ≡ txn.ops
  pub info : rec.info ≡ txn.info

-- ---- what each stage rests on

abbrev pub HasDocuments : Content → Waiting → Type 0
HasDocuments c txn = list_all (λ op. has_document c op.key) txn.ops ≡ true

-- its token waits on each of its keys
abbrev pub IsQueued : Content → Waiting → ℕ → Type 0
IsQueued c txn nonce = (key : Key) → IsOn key txn.ops → In (token txn.id nonce) ((look c).queue_at key)

-- it applies, and has nothing left to do to its documents
pub record IsDone (c : Content) (txn : Waiting) : Type 0 where
  pub nonce : ℕ
  pub revno : ℤ
  pub there : IsThere c txn state.Applying (Some nonce) (Some (revno ∷ []))
  pub passed : AllPassed (look c) txn.ops (revno ∷ [])

-- it is to be aborted
pub record IsGivenUp (c : Content) (txn : Waiting) : Type 0 where
  pub nonce : ℕ
  pub there : IsThere c txn state.Aborting (Some nonce) None

abbrev pub StageIsWorth : Content → Waiting → Stage → Type 0
StageIsWorth c txn stage.Draw = IsSubmitted c txn
StageIsWorth c txn (stage.Queue nonce) = IsSubmitted c txn × (nonce < counter c)
StageIsWorth c txn (stage.Prepare nonce) = IsSubmitted c txn × (nonce < counter c) × IsQueued c txn nonce
StageIsWorth c txn (stage.Look nonce) = IsThere c txn state.Prepared (Some nonce) None
StageIsWorth c txn (stage.Decide nonce revno holds) = IsThere c txn state.Prepared (Some nonce) None × (tests txn.ops (meaning c) ≡ holds) × IsChainFrom (look c) txn.ops (revno ∷ [])
StageIsWorth c txn (stage.Update nonce revno) = IsThere c txn state.Applying (Some nonce) (Some (revno ∷ []))
StageIsWorth c txn stage.Finish = IsDone c txn
StageIsWorth c txn stage.Abort = IsGivenUp c txn
StageIsWorth c txn (stage.Settled outcome) = IsSettled c txn outcome

-- A transaction stands at a stage: over sound content of documents alone, in whose queues no other
-- transaction has anything left to do.
pub record IsWorth (c : Content) (txn : Waiting) (at : Stage) : Type 0 where
  pub sound : IsSound c
  pub plain : IsPlain c
  pub alone : IsAlone (look c) txn.id
  pub docs : HasDocuments c txn
  pub stage : StageIsWorth c txn at

-- ---- what calls for one transaction make

-- no other record is touched, and no document goes
pub record KeepsOthers (old new : Content) (id : TxnId) : Type 0 where
  pub records : (other : TxnId) → other ≢ id → record_at new other ≡ record_at old other
  pub docs : (key : Key) → has_document old key ≡ true → has_document new key ≡ true

-- no other transaction is decided
abbrev pub DecidesOnly : TxnId → List Entry → List Entry → Type 0
DecidesOnly id before after = (among : TxnId → Bool) → among id ≡ true → list_all (λ entry. among entry.id) before ≡ true → list_all (λ entry. among entry.id) after ≡ true

-- Calls for one transaction: any run goes on with them, by the decision on it at most.
pub record WorksOn {S : Type 0} (store : Ghosts S) (old new : S) (before after : List Entry) (id : TxnId) : Type 0 where
  pub run : RunGoesOn store old new before after
  pub step : IsStep (store.content old) (store.content new)
  pub others : KeepsOthers (store.content old) (store.content new) id
  pub decided : DecidesOnly id before after

-- ---- why a step may be refused, over a store that tells what it holds

-- the greatest absolute value of a revision number at which a chain may begin
abbrev pub last_revno : ℕ
last_revno = 4611686018427386903

-- the document of the key stands past the last number
pub record IsRevnoSpent (c : Content) (key : Key) : Type 0 where
  pub doc : DocCell
  pub there : doc_at c key ≡ Some doc
  pub past : last_revno < unsigned_abs doc.revno

-- No nonce is left, or a number is past the last; the store failed, or memory was wanting. A record is
-- never found missing, nor another one than was written.
abbrev pub MayStop : Content → StepError → Type 0
MayStop c step.StoreFault = Unit {0}
MayStop c step.OutOfMemory = Unit {0}
MayStop c step.NoncesSpent = nonce_limit ≤ counter c
MayStop c (step.RevnoSpent key) = IsRevnoSpent c key
MayStop c (step.Lost token) = ⊥
MayStop c (step.Clash id at) = ⊥

-- what the calls came to: a stage that the transaction stands at, or a refusal with its cause
pub record ComesToStage (c : Content) (txn : Waiting) (result : Result Stage StepError) : Type 0 where
  pub worth : IfOk result (λ next. IsWorth c txn next)
  pub cause : IfErr result (MayStop c)
