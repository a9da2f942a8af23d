-- What a preparation knows between its calls, and what each of them comes to for others.
use Rattle.std.specs.Prelude.{◌≡◌, ◌≢◌, ◌<◌, ◌≤◌, ℕ, ℤ, true, Option, Some, None, Result, Ok, Err, ◌∷◌, ◌⊎◌}
use Rattle.txn_key.specs.declared.id.Token.{Token}
use Rattle.txn_key.specs.declared.id.TxnId.{TxnId}
use Rattle.txn_key.specs.declared.key.Key.{Key}
use Rattle.txn_record.specs.States.{was_prepared_state}
use Rattle.txn_record.specs.declared.record.Record.{Record}
use Rattle.txn_record.specs.declared.state.State.TheVariants as state
use Rattle.store_trait.specs.Contents.{Content}
use Rattle.store_trait.specs.Edits.{nonce_limit}
use Rattle.store_trait.specs.declared.cell.DocCell.{DocCell}
use Rattle.store_laws.specs.Known.{HasQueued, HasNoDocAlone}
use Rattle.store_laws.specs.Later.{IsStillThere, GoesTo}
use Rattle.store_laws.specs.Nonces.{NoncesCome}
use Rattle.store_laws.specs.Queues.{QueuesStay, AddsAtEnd}
use Rattle.store_laws.specs.Readiness.{token, In}
use Rattle.store_laws.specs.Soundness.{IsSound}
use Rattle.store_laws.specs.Steps.{IsQuiet}
use Rattle.store_laws.specs.View.{View, look, record_at, doc_at, stash_at, counter, valid_nonce, IsOn}
use Rattle.flush_prepare.specs.Keys.{IsAmong}
use Rattle.flush_prepare.specs.Moments.{WasStored, Moment, WasRead}
use Rattle.flush_prepare.specs.Refusals.{IsOfStore}
use Rattle.flush_prepare.specs.Sights.{owner_mark}
use Rattle.flush_prepare.specs.declared.error.StepError.{StepError}
use Rattle.flush_prepare.specs.declared.error.StepError.TheVariants as step
use Rattle.flush_prepare.specs.declared.prepare.Place.{Place}
use Rattle.flush_prepare.specs.declared.prepare.Place.TheVariants.{Draw, Document, Entry, AddToDocument, AddToEntry, EntryAgain, Move}
use Rattle.flush_prepare.specs.declared.prepare.Prepare.{Prepare}
use Rattle.flush_prepare.specs.declared.prepare.PrepareStep.{PrepareStep}
use Rattle.flush_prepare.specs.declared.prepare.PrepareStep.TheVariants.{More, Blocked, Ready}

-- the nonce that was drawn, which the record may have been given by the move
abbrev pub nonce_at : Place → Option ℕ
nonce_at Draw = None
nonce_at (Document nonce) = Some nonce
nonce_at (Entry nonce doc) = Some nonce
nonce_at (AddToDocument nonce) = Some nonce
nonce_at (AddToEntry nonce) = Some nonce
nonce_at (EntryAgain nonce revno) = Some nonce
nonce_at (Move nonce) = Some nonce

abbrev pub nonce_of : Prepare → Option ℕ
nonce_of prepare = nonce_at prepare.place

-- a key that isn't done yet
abbrev pub IsAhead : Prepare → Key → Type 0
IsAhead prepare key = IsAmong key (prepare.key ∷ prepare.later)

-- its token with a nonce waits on a key, or it was prepared
abbrev pub IsDone : Content → Prepare → ℕ → Key → Type 0
IsDone c prepare nonce key = HasQueued (look c) key (token prepare.rec.id nonce)

-- A nonce was drawn, the record wasn't given it, and the token with it waits on each key that isn't ahead.
pub record IsQueueing (c : Content) (prepare : Prepare) (nonce : ℕ) : Type 0 where
  pub counted : nonce < counter c
  pub free : valid_nonce (look c) prepare.rec.id ≢ Some nonce
  pub done : (key : Key) → IsOn key prepare.rec.ops
      → IsAhead prepare key ⊎ IsDone c prepare nonce key

-- a token was added to the document of a key, which stood at that number
pub record WasAdded (c : Content) (rec : Record) (key : Key) (token : Token) (revno : ℤ)
    : Type 0 where
  pub doc : DocCell
  pub read : WasRead c rec key (Some doc)
  pub number : doc.revno ≡ revno
  pub waits : In token doc.queue

abbrev pub PlaceIsWorth : Content → Prepare → Place → Type 0
PlaceIsWorth c prepare Draw = (key : Key) → IsOn key prepare.rec.ops → IsAhead prepare key
PlaceIsWorth c prepare (Document nonce) = IsQueueing c prepare nonce
PlaceIsWorth c prepare (Entry nonce doc) =
    IsQueueing c prepare nonce × WasRead c prepare.rec prepare.key doc
PlaceIsWorth c prepare (AddToDocument nonce) = IsQueueing c prepare nonce
PlaceIsWorth c prepare (AddToEntry nonce) =
    IsQueueing c prepare nonce × HasNoDocAlone c prepare.key
PlaceIsWorth c prepare (EntryAgain nonce revno) =
    IsQueueing c prepare nonce
    × WasAdded c prepare.rec prepare.key (token prepare.rec.id nonce) revno
PlaceIsWorth c prepare (Move nonce) =
    (nonce < counter c)
    × ((key : Key) → IsOn key prepare.rec.ops → IsDone c prepare nonce key)

-- The record is there, or further on; what is ahead are keys of its own; and what its place rests on.
pub record IsPreparing (c : Content) (prepare : Prepare) : Type 0 where
  pub sound : IsSound c
  pub stored : WasStored c prepare.rec
  pub own : (key : Key) → IsAhead prepare key → IsOn key prepare.rec.ops
  pub place : PlaceIsWorth c prepare prepare.place

-- nobody else gives the record the nonce that was drawn for it
abbrev pub IsNotGiven : Content → Content → Prepare → Type 0
IsNotGiven c d prepare =
    (nonce : ℕ) → nonce_of prepare ≡ Some nonce
    → valid_nonce (look d) prepare.rec.id ≡ Some nonce
    → valid_nonce (look c) prepare.rec.id ≡ Some nonce

-- its token comes to the end of the present key's owner queue, or none changes
abbrev pub ChangesQueuesAt : View → Prepare → Option ℕ → View → Type 0
ChangesQueuesAt old prepare None new = QueuesStay old new
ChangesQueuesAt old prepare (Some nonce) new =
    AddsAtEnd old new prepare.key (token prepare.rec.id nonce)

abbrev pub ChangesQueues : View → Prepare → View → Type 0
ChangesQueues old prepare new = ChangesQueuesAt old prepare (nonce_of prepare) new

-- As if at a moment up to now the owner of the key bore a mark of the record with this id, which was
-- applying then, with an operation on the key. That record is there, as it was then or further on.
pub record IsBlocked (c : Content) (rec : Record) (key : Key) (id : TxnId) : Type 0 where
  pub moment : Moment c rec
  pub mark : Token
  pub seen : owner_mark (doc_at moment.at key) (stash_at moment.at key) ≡ Some mark
  pub is_of : mark.id ≡ id
  pub marker : Record
  pub stored : record_at moment.at id ≡ Some marker
  pub applies : marker.state ≡ state.Applying
  pub on : IsOn key marker.ops
  pub there : IsStillThere (look c) id marker

-- the record as stored, prepared or further on
pub record IsReadyAs (c : Content) (rec now : Record) : Type 0 where
  pub there : record_at c rec.id ≡ Some now
  pub goes : GoesTo rec now
  pub prepared : was_prepared_state now.state ≡ true

abbrev pub MayStop : Content → StepError → Type 0
MayStop c step.NoncesSpent = nonce_limit ≤ counter c
MayStop c error = IsOfStore error

abbrev pub ComesTo : Content → Prepare → Result PrepareStep StepError → Type 0
ComesTo c prepare (Ok More) = Unit {0}
ComesTo c prepare (Ok (Blocked id)) = IsBlocked c prepare.rec prepare.key id
ComesTo c prepare (Ok (Ready now)) = IsReadyAs c prepare.rec now
ComesTo c prepare (Err error) = MayStop c error

-- What a step does over a store that tells: nothing is decided, and the meaning stays; no other record is
-- given a nonce; and what the preparation knows goes on from its place to the next.
pub record Prepares (c d : Content) (prepare : Prepare) (result : Result PrepareStep StepError)
    (next : Prepare) : Type 0 where
  pub quiet : IsQuiet c d
  pub gives : NoncesCome (look c) (look d) prepare.rec.id (nonce_of prepare)
  pub queues : ChangesQueues (look c) prepare (look d)
  pub worth : IsPreparing d next
  pub comes : ComesTo d prepare result
