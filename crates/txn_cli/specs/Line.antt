-- What a call for a line, or for a batch that waits, does to the session and writes.
use Rattle.std.specs.Prelude.{◌≡◌, ◌≤◌, ◌⊎◌, ℕ, Bool, true, false, List, [], ◌∷◌, Option, IfSome, IfErr, Result}
use Rattle.store_trait.specs.declared.store.Store.{Ghosts}
use Rattle.txn_script.specs.Faults.{fault_text as script_text}
use Rattle.txn_script.specs.Statements.{line_in}
use Rattle.txn_script.specs.declared.statement.Statement.{Statement}
use Rattle.txn_runner.specs.declared.waiting.Waiting.{Waiting}
use Rattle.txn_play.specs.Remains.{HasLeft, Stays}
use Rattle.txn_play.specs.Progress.{Progress, Does, RunsItself, is_nothing, objection_at_end, runs_batch}
use Rattle.txn_play.specs.Sessions.{IsAgainst, IsCaused, IsFoundFor, IsKept, at, holding}
use Rattle.txn_play.specs.declared.answer.Answer.{Answer}
use Rattle.txn_play.specs.declared.answer.Answer.TheVariants.{Nothing}
use Rattle.txn_play.specs.declared.objection.Objection.{Objection}
use Rattle.txn_play.specs.declared.refusal.Refusal.{Refusal}
use Rattle.txn_play.specs.declared.refusal.Refusal.TheVariants as refusal
use Rattle.txn_play.specs.declared.session.Session.{Session}
use Rattle.txn_cli.specs.Causes.{Counts, FailsOnly}
use Rattle.txn_cli.specs.Faults.{objection_text, refusal_in_stop}
use Rattle.txn_cli.specs.Output.{Writing, Wrote, WrotePart, answer_text, prints}
use Rattle.txn_cli.specs.Script.{FoundAt, MayFindAs, MayRefuseAs, PlaysAs, RefusedAs, Stated, line_lets_run, line_may_run}
use Rattle.txn_cli.specs.declared.stop.Stop.{Stop}
use Rattle.txn_cli.specs.declared.stop.Stop.TheVariants as stop

-- what a call does between two moments of a script, with its answer, and whether it may have a batch on
-- its way
pub record Deed : Type 1 where
  pub does : Progress → Progress → Answer → Type 0
  pub may_run : Bool

-- a batch is run by itself, where one waits
abbrev pub RunsWaiting : List Waiting → Progress → Progress → Answer → Type 0
RunsWaiting [] p q answer = (q ≡ p) × (answer ≡ Nothing)
RunsWaiting (_ ∷ _) p q answer = RunsItself p q answer

-- where it is let run first
abbrev pub RunsFirst : Bool → Progress → Progress → Answer → Type 0
RunsFirst true p q answer = RunsWaiting p.waiting p q answer
RunsFirst false p q answer = (q ≡ p) × (answer ≡ Nothing)

-- it was let run first, and was run
abbrev pub RunsBefore : Bool → Progress → Progress → Answer → Type 0
RunsBefore lets p q answer = (lets ≡ true) × RunsItself p q answer

-- the deeds of a batch that waits, of one that a line lets run first, of a statement, and of a line
abbrev pub running : Deed
running = record { does = RunsItself; may_run = true }

abbrev pub running_first : Bool → Deed
running_first lets = record { does = RunsBefore lets; may_run = lets }

abbrev pub performing : Statement → Deed
performing s = record { does = Does s; may_run = runs_batch s }

abbrev pub playing : List ℕ → Deed
playing line = record { does = PlaysAs (line_in line); may_run = line_may_run (line_in line) }

-- this was done, and its answer was written
pub record HasDone {S : Type 0} (store : Ghosts S) (Did : Progress → Progress → Answer → Type 0)
    (old new : Session S) (w : Writing) : Type 0 where
  pub answer : Answer
  pub did : Did (at store old) (at store new) answer
  pub writes : Wrote w (answer_text answer)

-- this was done, and its answer wasn't written, or not whole
pub record HasDoneIdly {S : Type 0} (store : Ghosts S) (deed : Deed) (old new : Session S) : Type 0 where
  pub answer : Answer
  pub did : deed.does (at store old) (at store new) answer

-- this was done, and memory for printing its answer was wanting
pub record HasDoneUntold {S : Type 0} (store : Ghosts S) (deed : Deed) (old new : Session S)
    : Type 0 where
  pub done : HasDoneIdly store deed old new
  pub lines : prints done.answer ≡ true

pub record HasDoneCut {S : Type 0} (store : Ghosts S) (deed : Deed) (old new : Session S) (w : Writing)
    : Type 0 where
  pub done : HasDoneIdly store deed old new
  pub part : WrotePart w [] (answer_text done.answer)

-- what the refusal of a statement leaves of a session
abbrev pub Left : {S : Type 0} → Ghosts S → Deed → Session S → Session S → Refusal → Type 0
Left store deed old new why = HasLeft deed.may_run old.batch (store.trail new.store)
    (holding store old) (holding store new) why

-- What a stop leaves of a session, and that nothing is written, unless the output failed: that cuts off what
-- was done. Memory may be wanting for what is to be printed of it.
abbrev pub LeftBy : {S : Type 0} → Ghosts S → Deed → Session S → Session S → Writing → Stop → Type 0
LeftBy store deed old new w (stop.Misread why) =
    Stays (holding store old) (holding store new) × Wrote w []
LeftBy store deed old new w (stop.Refused refusal.OutOfMemory) =
    (Left store deed old new refusal.OutOfMemory ⊎ HasDoneUntold store deed old new) × Wrote w []
LeftBy store deed old new w (stop.Refused why) = Left store deed old new why × Wrote w []
LeftBy store deed old new w stop.Output = HasDoneCut store deed old new w

-- a line is refused by the text of what stopped it, where that has one, or by what an audit finds
abbrev pub RefusedBy : Stated → Progress → Stop → Type 0
RefusedBy stated p (stop.Misread why) = RefusedAs stated p (script_text why)
RefusedBy stated p (stop.Refused (refusal.Objected why)) = RefusedAs stated p (objection_text why)
RefusedBy stated p (stop.Refused (refusal.Found found)) = FoundAt stated p found
RefusedBy stated p _ = Unit {0}

-- the same, whatever the store holds
abbrev pub MayStop : Stated → Stop → Type 0
MayStop stated (stop.Misread why) = MayRefuseAs stated (script_text why)
MayStop stated (stop.Refused (refusal.Objected why)) = MayRefuseAs stated (objection_text why)
MayStop stated (stop.Refused (refusal.Found found)) = MayFindAs stated found
MayStop stated _ = Unit {0}

-- what stops a statement is none of its line's faults
abbrev pub IsOfStatement : Stop → Type 0
IsOfStatement (stop.Misread why) = ⊥
IsOfStatement _ = Unit {0}

-- what stops a statement that was read; where something stands against it, it is this
abbrev pub StoppedFor : Option Objection → Stop → Type 0
StoppedFor against (stop.Misread why) = ⊥
StoppedFor against (stop.Refused why) = IsAgainst against why
StoppedFor against stop.Output = Unit {0}

-- what stops a statement that was read is found only where that may be refused so
abbrev pub StoppedByFinding : Statement → Stop → Type 0
StoppedByFinding s why = IfSome (refusal_in_stop why) (IsFoundFor s)

-- what stops a batch that waits, and one that a statement lets run first
abbrev pub StoppedWaiting : Progress → Stop → Type 0
StoppedWaiting p why = (is_nothing p.waiting ≡ false) × StoppedFor (objection_at_end p) why

abbrev pub StoppedFirst : Bool → Progress → Stop → Type 0
StoppedFirst lets p why = (lets ≡ true) × StoppedWaiting p why

-- the session between the two steps of a line, with what was written by then
pub record Between (S : Type 0) : Type 0 where
  pub session : Session S
  pub written : List ℕ

abbrev pub up_to : {S : Type 0} → Writing → Between S → Writing
up_to w between = record w { after = between.written }

abbrev pub from : {S : Type 0} → Writing → Between S → Writing
from w between = record w { before = between.written }

-- A line comes in two steps: a batch is run first, where the line lets it; then the line is done. Between
-- them stands a place of the trail.
pub record HasRunFirst {S : Type 0} (store : Ghosts S) (line : List ℕ) (old new : Session S) (w : Writing)
    (between : Between S) : Type 0 where
  pub ran : HasDone store (RunsFirst (line_lets_run (line_in line))) old between.session (up_to w between)
  pub since : store.calls old.store ≤ store.calls between.session.store
  pub later : store.calls between.session.store ≤ store.calls new.store
  pub stands : store.trail new.store (store.calls between.session.store)
      ≡ store.content between.session.store

pub record HasDoneLine {S : Type 0} (store : Ghosts S) (line : List ℕ) (old new : Session S) (w : Writing)
    : Type 0 where
  pub between : Between S
  pub first : HasRunFirst store line old new w between
  pub done : HasDone store (PlaysAs (line_in line)) between.session new (from w between)

-- a line was stopped, at the first step or at the second
pub data HasStoppedLine {S : Type 0} (store : Ghosts S) (line : List ℕ) (old new : Session S) (w : Writing)
    (why : Stop) : Type 0 where
  First : RefusedBy (line_in line) (at store old) why
      → LeftBy store (running_first (line_lets_run (line_in line))) old new w why
      → HasStoppedLine store line old new w why
  Then : (between : Between S) → HasRunFirst store line old new w between
      → RefusedBy (line_in line) (at store between.session) why
      → LeftBy store (playing line) between.session new (from w between) why
      → HasStoppedLine store line old new w why

-- the refusal of a statement that stopped a line has its cause
abbrev pub StopsFor : {S : Type 0} → Ghosts S → Session S → Session S → Stop → Type 0
StopsFor store old new why = IfSome (refusal_in_stop why) (IsCaused store old new)

-- What each call for a line keeps: the session, and the count of the output's failures; a refusal has its
-- cause.
pub record IsKeptLine {S : Type 0} (store : Ghosts S) (old new : Session S) (faults : Counts)
    (result : Result (Unit {0}) Stop) : Type 0 where
  pub session : IsKept store old new result
  pub caused : IfErr result (StopsFor store old new)
  pub output : FailsOnly faults result stop.Output
