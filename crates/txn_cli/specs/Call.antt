-- What a call is given and what it returns: what was done of a script, what the store holds, and what was
-- written.
use Rattle.std.specs.Prelude.{◌≡◌, ◌≢◌, ◌≤◌, ◌+◌, ◌++◌, ◌⊎◌, ℕ, Bool, true, IsTrue, List, Option, Some, None, String, map, string_bytes}
use Rattle.std.specs.Global.{Global}
use Rattle.store_trait.specs.Contents.{Content}
use Rattle.store_trait.specs.declared.store.Store.{Ghosts}
use Rattle.txn_io.specs.Lines.{IsPartTaken}
use Rattle.txn_io.specs.declared.sink.Sink as sink
use Rattle.txn_io.specs.declared.source.Source as source
use Rattle.txn_play.specs.Remains.{HasLeft, Holding, Stays}
use Rattle.txn_play.specs.Progress.{Progress, holding_at, opening}
use Rattle.txn_play.specs.Runs.{EachRun, IsFaithfulRun}
use Rattle.txn_play.specs.declared.answer.Answer.{Answer}
use Rattle.txn_play.specs.declared.finding.Finding.TheVariants as finding
use Rattle.txn_play.specs.declared.refusal.Refusal.{Refusal}
use Rattle.txn_play.specs.declared.run.Run.{Run}
use Rattle.txn_cli.specs.Causes.{Circumstances, IsCaused, NoneSpent, circumstances, counts, told_script}
use Rattle.txn_cli.specs.Faults.{refusal_in}
use Rattle.txn_cli.specs.Output.{Writing, Wrote, WroteOrFailed, WrotePart, answer_text, answers_text, fault_text, prints, writing}
use Rattle.txn_cli.specs.Script.{DoesNext, Finds, IsPlayed, Plays, Reached, Refuses, after_lines, next_may_run, next_of}
use Rattle.txn_cli.specs.Words.{is_grammar}
use Rattle.txn_cli.specs.declared.done.Done.{Done}
use Rattle.txn_cli.specs.declared.fault.Fault.{Fault}
use Rattle.txn_cli.specs.declared.fault.Fault.TheVariants as fault

-- what a source had as a call began, and what it has left
pub record Taken : Type 0 where
  pub script : List ℕ
  pub untaken : List ℕ

abbrev pub taken : List ℕ → List ℕ → Taken
taken script untaken = record { script = script; untaken = untaken }

-- what a store tells as a call ended, with the Runs
pub record Held : Type 0 where
  pub content : Content
  pub trail : ℕ → Content
  pub calls : ℕ
  pub runs : List Run

abbrev pub held : {S : Type 0} → Ghosts S → S → List Run → Held
held store s runs =
    record { content = store.content s; trail = store.trail s; calls = store.calls s; runs = runs }

-- a script as a call begins over a store
abbrev pub start : {S : Type 0} → Ghosts S → S → Progress
start store s = opening (store.content s) (store.calls s)

-- the store and the Runs are as this progress has them
pub record Holds (end : Held) (p : Progress) : Type 0 where
  pub content : end.content ≡ p.content
  pub calls : end.calls ≡ p.calls
  pub runs : end.runs ≡ p.runs

-- Every line of a script was done, over a store that holds this now, with these Runs; and what the lines
-- print was written, in order.
pub record HasPlayed (script : List ℕ) (start : Progress) (end : Held) (w : Writing) : Type 0 where
  pub reached : Reached
  pub plays : IsPlayed script end.trail start reached
  pub holds : Holds end reached.last
  pub writes : Wrote w (answers_text reached.answers)

-- ---- what a refusal leaves

abbrev pub holding_in : Held → Holding
holding_in end = record { content = end.content; calls = end.calls; runs = end.runs }

abbrev pub LeftAs : Option Refusal → Bool → Progress → Held → Type 0
LeftAs None may_run p end = Stays (holding_at p) (holding_in end)
LeftAs (Some why) may_run p end =
    HasLeft may_run p.waiting end.trail (holding_at p) (holding_in end) why

-- What a refusal leaves behind the last line that was done. (By the output: see what was written.)
abbrev pub LeftIn : Bool → Progress → Held → Fault → Type 0
LeftIn may_run p end fault.Output = ⊥
LeftIn may_run p end why = LeftAs (refusal_in why) may_run p end

-- The refusal of a line names the next one, and the text by which it is refused there; what an audit finds
-- refuses what comes next, where that audits; bad words come before any line. Where the input failed, no
-- more than a part of the next line was taken: each line that came whole was done.
abbrev pub IsOfNext : Taken → ℕ → Progress → Fault → Type 0
IsOfNext taken n p (fault.Line number text) =
    (number ≡ n + 1) × Refuses (next_of n taken.script) p text
IsOfNext taken n p (fault.Unsound rule at) =
    Finds (next_of n taken.script) p (finding.Unsound rule at)
IsOfNext taken n p fault.TooManyCells = Finds (next_of n taken.script) p finding.TooManyCells
IsOfNext taken n p fault.Words = n ≡ 0
IsOfNext taken n p fault.Input = IsPartTaken (after_lines n taken.script) taken.untaken
IsOfNext taken n p _ = Unit {0}

-- A refusal comes behind the first lines of a script, and this is what it leaves.
pub record Leaves (taken : Taken) (reached : Reached) (end : Held) (why : Fault) : Type 0 where
  pub next : IsOfNext taken reached.count reached.last why
  pub left : LeftIn (next_may_run (next_of reached.count taken.script)) reached.last end why

-- What comes next was done, and the store holds what it left; its answer wasn't written, or not whole.
pub record HasDoneNext (script : List ℕ) (reached : Reached) (end : Held) : Type 0 where
  pub next : Progress
  pub answer : Answer
  pub does : DoesNext script reached.count reached.last next answer
  pub holds : Holds end next

-- the output failed before all of that was written
pub record HasCut (script : List ℕ) (reached : Reached) (end : Held) (w : Writing) : Type 0 where
  pub done : HasDoneNext script reached end
  pub part : WrotePart w (answers_text reached.answers) (answer_text done.answer)

-- what comes next was done, and memory for printing its answer was wanting
pub record HasUntold (script : List ℕ) (reached : Reached) (end : Held) : Type 0 where
  pub done : HasDoneNext script reached end
  pub lines : prints done.answer ≡ true

-- memory was wanting: for what comes next, or for what is to be printed of it
abbrev pub LeavesShort : Taken → Reached → Held → Type 0
LeavesShort taken reached end =
    Leaves taken reached end fault.OutOfMemory ⊎ HasUntold taken.script reached end

-- Another refusal came, not for want of memory, and the output failed before all of its last line was
-- written.
pub record HasCutOff (Caused : Fault → Type 0) (taken : Taken) (reached : Reached) (end : Held)
    (w : Writing) : Type 0 where
  pub why : Fault
  pub caused : Caused why
  pub memory : why ≢ fault.OutOfMemory
  pub unspent : NoneSpent why
  pub leaves : Leaves taken reached end why
  pub part : WrotePart w (answers_text reached.answers) (fault_text why)

-- How a call that was refused ends, behind the lines that were done: with the last line of the refusal, or,
-- where memory was wanting and the output failed too, with some first bytes of it; where the output failed,
-- with some first bytes of what was to be written.
abbrev pub EndsWith : (Fault → Type 0) → Taken → Reached → Held → Writing → Fault → Type 0
EndsWith Caused taken reached end w fault.Output =
    HasCut taken.script reached end w ⊎ HasCutOff Caused taken reached end w
EndsWith Caused taken reached end w fault.OutOfMemory =
    LeavesShort taken reached end
    × WroteOrFailed w (answers_text reached.answers) (fault_text fault.OutOfMemory) (Caused fault.Output)
EndsWith Caused taken reached end w why =
    Leaves taken reached end why × Wrote w (answers_text reached.answers ++ fault_text why)

-- Some first lines of a script were done, and the call ended with a refusal: the store and the Runs are as
-- it leaves them, no nonce or number was wanting, and this was written.
pub record HasRefused (Caused : Fault → Type 0) (taken : Taken) (start : Progress) (end : Held)
    (w : Writing) (why : Fault) : Type 0 where
  pub reached : Reached
  pub plays : Plays taken.script end.trail start reached.count reached.last reached.answers
  pub later : reached.last.calls ≤ end.calls
  pub unspent : NoneSpent why
  pub ends : EndsWith Caused taken reached end w why

-- The same before the refusal is told: nothing was written but what the lines print; where the output
-- failed, some first bytes of what comes next prints.
abbrev pub StopsWith : Taken → Reached → Held → Writing → Fault → Type 0
StopsWith taken reached end w fault.Output = HasCut taken.script reached end w
StopsWith taken reached end w fault.OutOfMemory =
    LeavesShort taken reached end × Wrote w (answers_text reached.answers)
StopsWith taken reached end w why =
    Leaves taken reached end why × Wrote w (answers_text reached.answers)

pub record HasStopped (taken : Taken) (start : Progress) (end : Held) (w : Writing) (why : Fault)
    : Type 0 where
  pub reached : Reached
  pub plays : Plays taken.script end.trail start reached.count reached.last reached.answers
  pub later : reached.last.calls ≤ end.calls
  pub unspent : NoneSpent why
  pub stops : StopsWith taken reached end w why

-- ---- the whole call

-- what a call is given
pub record Given (S I O : Type 0) : Type 0 where
  pub words : List (String Global)
  pub store : S
  pub input : I
  pub output : O

abbrev pub given : {S I O : Type 0} → List (String Global) → S → I → O → Given S I O
given words store input output =
    record { words = words; store = store; input = input; output = output }

-- what it gives back
pub record Returned (S I O : Type 0) : Type 0 where
  pub store : S
  pub runs : List Run
  pub input : I
  pub output : O

abbrev pub returned : {S I O : Type 0} → Done S → I → O → Returned S I O
returned done input output =
    record { store = done.store; runs = done.runs.items; input = input; output = output }

-- over a store that tells, each Run is faithful
abbrev pub HasFaithfulRuns : {S : Type 0} → Ghosts S → Done S → Type 0
HasFaithfulRuns store done = IsTrue store.tells
    → EachRun (IsFaithfulRun (store.trail done.store)) done.runs.items (store.calls done.store)

-- by what a refusal of it is judged
abbrev pub judged : {S I O : Type 0} → source.Ghosts I → sink.Ghosts O → Given S I O → Returned S I O
    → Circumstances S
judged source sink old new = circumstances (is_grammar (map string_bytes old.words))
    (told_script source old.input) old.store new.store
    (counts (source.faults old.input) (source.faults new.input))
    (counts (sink.faults old.output) (sink.faults new.output))

-- Over a source and a store that tell: every line was done, and what the lines print was written.
abbrev pub PlayedAll : {S I O : Type 0} → Ghosts S → source.Ghosts I → sink.Ghosts O → Given S I O
    → Returned S I O → Type 0
PlayedAll store source sink old new = IsTrue source.tells → IsTrue store.tells →
    HasPlayed (source.rest old.input) (start store old.store) (held store new.store new.runs)
    (writing sink old.output new.output)

-- Over such ones: some first lines were done, and the call ended with a refusal.
abbrev pub PlayedPart : {S I O : Type 0} → Ghosts S → source.Ghosts I → sink.Ghosts O → Given S I O
    → Returned S I O → Fault → Type 0
PlayedPart store source sink old new why = IsTrue source.tells → IsTrue store.tells →
    HasRefused (IsCaused store (judged source sink old new))
    (taken (source.rest old.input) (source.rest new.input)) (start store old.store)
    (held store new.store new.runs) (writing sink old.output new.output) why
