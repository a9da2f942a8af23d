-- A script as it is played: what holds between two statements, and what each call for one keeps.
use Rattle.std.specs.Prelude.{◌≡◌, Bool, true, false, [], length, Option, Some, Result, OnOk, IfErr, IfOk, IsTrue}
use Rattle.store_trait.specs.Calls.{Rose}
use Rattle.store_trait.specs.Stores.{CallsGoOn}
use Rattle.store_trait.specs.declared.store.Store.{Ghosts}
use Rattle.txn_runner.specs.Numbers.{Suffices}
use Rattle.txn_play.specs.Batches.{MayRun}
use Rattle.txn_play.specs.Remains.{HasLeft, Holding}
use Rattle.txn_script.specs.declared.statement.Statement.{Statement}
use Rattle.txn_play.specs.Progress.{Does, Progress, holding_at, may_find, objection_to, runs_batch}
use Rattle.txn_play.specs.Refusals.{HasCause, HasReason, IsUnspent}
use Rattle.txn_play.specs.Runs.{RunsGoOn}
use Rattle.txn_play.specs.declared.answer.Answer.{Answer}
use Rattle.txn_play.specs.declared.objection.Objection.{Objection}
use Rattle.txn_play.specs.declared.refusal.Refusal.{Refusal}
use Rattle.txn_play.specs.declared.refusal.Refusal.TheVariants as refusal
use Rattle.txn_play.specs.declared.session.Session.{Session}

-- how far the script has come
abbrev pub at : {S : Type 0} → Ghosts S → Session S → Progress
at store session = record {
  content = store.content session.store;
  calls = store.calls session.store;
  waiting = session.batch;
  begun = session.begun;
  documents_alone = session.documents_alone;
  runs = session.runs.items;
}

abbrev pub holding : {S : Type 0} → Ghosts S → Session S → Holding
holding store session = holding_at (at store session)

-- Where documents alone were placed the batch may run; else there is no Run. Each Run goes on up to the last
-- call. Cells are placed before anything waits and before any Run.
pub record IsBetween {S : Type 0} (store : Ghosts S) (session : Session S) : Type 0 where
  pub may_run : IsTrue session.documents_alone → MayRun (store.content session.store) session.batch
  pub none_run : session.documents_alone ≡ false → session.runs.items ≡ []
  pub runs : RunsGoOn (store.trail session.store) session.runs.items (store.calls session.store)
  pub unbegun : session.begun ≡ false → (session.batch ≡ []) × (session.runs.items ≡ [])

-- a session stands between two statements, as far as its store tells
abbrev pub Stands : {S : Type 0} → Ghosts S → Session S → Type 0
Stands store session = IsTrue store.tells → IsBetween store session

-- a session as a call begins: nothing stood, nothing waits, and there is no Run
pub record IsNew {S : Type 0} (session : Session S) : Type 0 where
  pub batch : session.batch ≡ []
  pub begun : session.begun ≡ false
  pub runs : session.runs.items ≡ []

-- What each call for a statement keeps: the session stands between two statements again; each Run goes on,
-- also where the call was refused; the store's calls go on.
pub record IsKept {S T E : Type 0} (store : Ghosts S) (old new : Session S) (result : Result T E)
    : Type 0 where
  pub stands : OnOk result (Stands store new)
  pub runs : IsTrue store.tells
      → RunsGoOn (store.trail new.store) new.runs.items (store.calls new.store)
  pub calls : CallsGoOn store old.store new.store

-- a batch that waits finds nonces and numbers enough
abbrev pub HasEnough : {S : Type 0} → Ghosts S → Session S → Type 0
HasEnough store session =
    IsTrue session.documents_alone → Suffices (store.content session.store) (length session.batch)

-- Why a call for a statement was refused: the store failed; over a store that tells, why nonces or numbers
-- are used up, and that they aren't where there were enough; over any store, by what it answered.
pub record IsCaused {S : Type 0} (store : Ghosts S) (old new : Session S) (why : Refusal) : Type 0 where
  pub fault : why ≡ refusal.Store → Rose (store.faults old.store) (store.faults new.store)
  pub reason : IsTrue store.tells → HasReason (store.content new.store) why
  pub enough : IsTrue store.tells → HasEnough store old → IsUnspent why
  pub cause : HasCause store old.store new.store why

-- a refusal by an objection is by that one
abbrev pub IsAgainst : Option Objection → Refusal → Type 0
IsAgainst against (refusal.Objected why) = against ≡ Some why
IsAgainst against _ = Unit {0}

-- a refusal by what an audit finds is of a statement that may be refused so
abbrev pub IsFoundFor : Statement → Refusal → Type 0
IsFoundFor s (refusal.Found found) = may_find s found ≡ true
IsFoundFor s _ = Unit {0}

-- who waits stays, and so does what is known of the statements so far
pub record KeepsRest {S : Type 0} (old new : Session S) : Type 0 where
  pub batch : new.batch ≡ old.batch
  pub begun : new.begun ≡ old.begun
  pub alone : new.documents_alone ≡ old.documents_alone

-- What the refusal of a call leaves, of the store and the Runs where the store tells, and its cause: a batch
-- may be on its way where the call runs one.
pub record IsRefused {S : Type 0} (store : Ghosts S) (may_run : Bool) (old new : Session S) (why : Refusal)
    : Type 0 where
  pub left : IsTrue store.tells → HasLeft may_run old.batch (store.trail new.store)
      (holding store old) (holding store new) why
  pub rest : KeepsRest old new
  pub caused : IsCaused store old new why

-- a statement was done, or refused by the first objection to it or for a cause; and what each call keeps is kept
pub record HasAttended {S : Type 0} (store : Ghosts S) (s : Statement) (old new : Session S)
    (result : Result Answer Refusal) : Type 0 where
  pub done : IsTrue store.tells → IfOk result (Does s (at store old) (at store new))
  pub against : IsTrue store.tells → IfErr result (IsAgainst (objection_to (at store old) s))
  pub found : IfErr result (IsFoundFor s)
  pub refused : IfErr result (IsRefused store (runs_batch s) old new)
  pub kept : IsKept store old new result
