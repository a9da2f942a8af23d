-- What a preparation knows: how it begins, how it lasts, and how it goes from key to key.
use Rattle.std.proofs.Common.{◌≡◌, ◌≢◌, ℕ, ℤ, ◌<◌, lt_of_lt_of_le, Result, Option, Some, List, [], ◌∷◌, inl, inr, ◌⊎◌, ⊎_elim, sym, ◌∙◌, refl, subst}
use Rattle.txn_key.specs.declared.id.Token.{Token}
use Rattle.txn_key.specs.declared.id.TxnId.{TxnId}
use Rattle.txn_key.specs.declared.key.Key.{Key}
use Rattle.txn_record.specs.Chain.{keys_of}
use Rattle.txn_record.specs.declared.record.Record.{Record}
use Rattle.store_trait.specs.Contents.{Content}
use Rattle.store_laws.specs.Nonces.{NoncesCome, NoncesStay}
use Rattle.store_laws.specs.Readiness.{token}
use Rattle.store_laws.specs.Since.{Link, Since}
use Rattle.store_laws.specs.Soundness.{IsSound}
use Rattle.store_laws.specs.Steps.{IsStep, IsQuiet}
use Rattle.store_laws.specs.Trail.{IsCall}
use Rattle.store_laws.specs.View.{View, look, counter, valid_nonce, IsOn}
use Rattle.store_laws.proofs.steps.Known.{queued_later, no_doc_later, still_later}
use Rattle.store_laws.proofs.steps.Moments.{since_step, since_sound}
use Rattle.flush_prepare.specs.Keys.{IsAmong}
use Rattle.flush_prepare.specs.Moments.{WasStored}
use Rattle.flush_prepare.specs.Preparations.{begun, next_begun, key_done}
use Rattle.flush_prepare.specs.PrepareFacts.{nonce_at, IsAhead, IsDone, IsQueueing, WasAdded, PlaceIsWorth, IsPreparing, IsBlocked, IsNotGiven, ChangesQueuesAt, ComesTo}
use Rattle.flush_prepare.specs.declared.error.StepError.{StepError}
use Rattle.flush_prepare.specs.declared.prepare.Place.{Place}
use Rattle.flush_prepare.specs.declared.prepare.Place.TheVariants.{Draw, Document, Entry, AddToDocument, AddToEntry, EntryAgain, Move}
use Rattle.flush_prepare.specs.declared.prepare.Prepare.{Prepare}
use Rattle.flush_prepare.specs.declared.prepare.PrepareStep.{PrepareStep}
use Rattle.flush_prepare.proofs.OwnKeys.{key_of_own, own_of_key}
use Rattle.flush_prepare.proofs.Records.{stored_step, moment_later, read_later}

-- all that a step comes to, over a store that tells
pub record Comes (c d : Content) (prepare : Prepare) (nonce : Option ℕ) (result : Result PrepareStep StepError) (next : Prepare) : Type 0 where
  pub quiet : IsQuiet c d
  pub gives : NoncesCome (look c) (look d) prepare.rec.id nonce
  pub queues : ChangesQueuesAt (look c) prepare nonce (look d)
  pub worth : IsPreparing d next
  pub comes : ComesTo d prepare result

pub prepare_begins : (rec : Record) (key : Key) (later : List Key) → keys_of rec.ops ≡ key ∷ later
    → (c : Content) → IsSound c → WasStored c rec → IsPreparing c (record { rec = rec; key = key; later = later; place = Draw })
prepare_begins rec key later keys c s stored = record {
  sound = s;
  stored = stored;
  own = λ k ahead. own_of_key k rec.ops (subst (IsAmong k) (sym keys) ahead);
  place = λ k on. subst (IsAmong k) keys (key_of_own k rec.ops on);
}

-- ---- it lasts

pub counted_later : (c d : Content) (nonce : ℕ) → IsStep c d → nonce < counter c → nonce < counter d
unfolding look
counted_later c d nonce step less = lt_of_lt_of_le less step.later.counter

pub done_later : (c d : Content) (prepare : Prepare) (nonce : ℕ) (key : Key) → IsStep c d → IsDone c prepare nonce key → IsDone d prepare nonce key
done_later c d prepare nonce key step done = queued_later c d key (token prepare.rec.id nonce) step done

pub queueing_later : (c d : Content) (prepare : Prepare) (nonce : ℕ) → IsStep c d → valid_nonce (look d) prepare.rec.id ≢ Some nonce → IsQueueing c prepare nonce → IsQueueing d prepare nonce
queueing_later c d prepare nonce step free was = record {
  counted = counted_later c d nonce step was.counted;
  free = free;
  done = λ key on. ⊎_elim (λ ahead. inl ahead) (λ done. inr (done_later c d prepare nonce key step done)) (was.done key on);
}

added_later : (c d : Content) (rec : Record) (key : Key) (z : Token) (revno : ℤ) → Since c d → WasAdded c rec key z revno → WasAdded d rec key z revno
added_later c d rec key z revno since was = record { doc = was.doc; read = read_later c d rec key (Some was.doc) since was.read; number = was.number; waits = was.waits }

module _ (c d : Content) (prepare : Prepare) (sound : IsSound c) (since : Since c d) where
  step : IsStep c d
  step = since_step c d sound since

  still : (nonce : ℕ) → (valid_nonce (look d) prepare.rec.id ≡ Some nonce → valid_nonce (look c) prepare.rec.id ≡ Some nonce) → IsQueueing c prepare nonce → IsQueueing d prepare nonce
  still nonce given was = queueing_later c d prepare nonce step (λ valid. was.free (given valid)) was

  place_lasts : (place : Place) → ((nonce : ℕ) → nonce_at place ≡ Some nonce → valid_nonce (look d) prepare.rec.id ≡ Some nonce → valid_nonce (look c) prepare.rec.id ≡ Some nonce) → PlaceIsWorth c prepare place → PlaceIsWorth d prepare place
  place_lasts Draw given was = was
  place_lasts (Document nonce) given was = still nonce (given nonce refl) was
  place_lasts (Entry nonce doc) given was = (still nonce (given nonce refl) was.0, read_later c d prepare.rec prepare.key doc since was.1)
  place_lasts (AddToDocument nonce) given was = still nonce (given nonce refl) was
  place_lasts (AddToEntry nonce) given was = (still nonce (given nonce refl) was.0, no_doc_later c d prepare.key sound step was.1)
  place_lasts (EntryAgain nonce revno) given was = (still nonce (given nonce refl) was.0, added_later c d prepare.rec prepare.key (token prepare.rec.id nonce) revno since was.1)
  place_lasts (Move nonce) given was = (counted_later c d nonce step was.0, λ key on. done_later c d prepare nonce key step (was.1 key on))

-- what a preparation knows is kept by calls of runners that don't give its record the nonce
pub prepare_lasts : (c d : Content) (prepare : Prepare) → Since c d → IsNotGiven c d prepare → IsPreparing c prepare → IsPreparing d prepare
prepare_lasts c d prepare since given was = record {
  sound = since_sound c d was.sound since;
  stored = stored_step c d prepare.rec (since_step c d was.sound since) was.stored;
  own = was.own;
  place = place_lasts c d prepare was.sound since prepare.place given was.place;
}

-- and what a mark showed is kept by any
pub blocked_later : (c d : Content) (rec : Record) (key : Key) (id : TxnId) → Since c d → IsBlocked c rec key id → IsBlocked d rec key id
blocked_later c d rec key id since was = record {
  moment = moment_later c d rec since was.moment;
  mark = was.mark;
  seen = was.seen;
  is_of = was.is_of;
  marker = was.marker;
  stored = was.stored;
  applies = was.applies;
  on = was.on;
  there = still_later c d id was.marker (since_step c d (since_sound was.moment.at c was.moment.sound was.moment.since) since) was.there;
}

pub since_quiet : (c d : Content) → IsQuiet c d → Since c d
since_quiet c d quiet = Since.Then c c d (Since.Nothing c) (Link.Call (IsCall.Quiet quiet))

-- each record has the nonce that it had
pub come_same : {old new : View} (id : TxnId) (given : Option ℕ) → NoncesStay old new → NoncesCome old new id given
come_same id given stay = record { from = λ other nonce valid. inl (sym (stay.same other) ∙ valid) }

-- ---- from key to key

module _ (d : Content) (prepare : Prepare) (sound : IsSound d) (stored : WasStored d prepare.rec) (own : (key : Key) → IsAhead prepare key → IsOn key prepare.rec.ops) (nonce : ℕ) (queueing : IsQueueing d prepare nonce) where
  pub begun_worth : IsPreparing d (begun prepare nonce)
  begun_worth = record { sound = sound; stored = stored; own = own; place = record { counted = queueing.counted; free = queueing.free; done = queueing.done } }

  next_worth : IsDone d prepare nonce prepare.key → (later : List Key) → prepare.later ≡ later → IsPreparing d (next_begun prepare nonce later)
  next_worth here [] e = record {
    sound = sound;
    stored = stored;
    own = own;
    place = (queueing.counted, λ key on. ⊎_elim (λ ahead. last key ahead) (λ done. done) (queueing.done key on));
  }
    where
      last : (key : Key) → IsAhead prepare key → IsDone d prepare nonce key
      last key (inl same) = subst (IsDone d prepare nonce) same here
      last key (inr among) = absurd (subst (IsAmong key) e among)
  next_worth here (k ∷ later) e = record {
    sound = sound;
    stored = stored;
    own = λ key ahead. own key (inr (subst (IsAmong key) (sym e) ahead));
    place = record { counted = queueing.counted; free = queueing.free; done = λ key on. ⊎_elim (λ ahead. rest key ahead) (λ done. inr done) (queueing.done key on) };
  }
    where
      rest : (key : Key) → IsAhead prepare key → IsAmong key (k ∷ later) ⊎ IsDone d prepare nonce key
      rest key (inl same) = inr (subst (IsDone d prepare nonce) same here)
      rest key (inr among) = inl (subst (IsAmong key) e among)

  pub done_worth : IsDone d prepare nonce prepare.key → IsPreparing d (key_done prepare nonce)
  done_worth here = next_worth here prepare.later refl
