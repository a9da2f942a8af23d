-- A script, line by line: which lines were done, and which is refused.
use Rattle.std.specs.Prelude.{◌≡◌, ◌≢◌, ◌≤◌, ℕ, zero, suc, ◌+◌, Bool, true, false, List, [], ◌∷◌, ◌++◌, ◌||◌, Option, Some, None, Result, Ok, Err, codes, if◌then◌else◌}
use Rattle.store_trait.specs.Contents.{Content}
use Rattle.txn_io.specs.Lines.{after_line, line_cost, reading}
use Rattle.txn_io.specs.declared.lines.LineFault.{LineFault}
use Rattle.txn_io.specs.declared.lines.LineFault.TheVariants as line_fault
use Rattle.txn_script.specs.Faults.{fault_text as script_text}
use Rattle.txn_script.specs.Statements.{line_in}
use Rattle.txn_script.specs.declared.fault.ScriptFault.{ScriptFault}
use Rattle.txn_script.specs.declared.statement.Statement.{Statement}
use Rattle.txn_play.specs.Progress.{Progress, Does, RunsItself, is_nothing, lets_run, may_find, may_find_at, objection_at_end, objection_to, runs_batch}
use Rattle.txn_play.specs.declared.answer.Answer.{Answer}
use Rattle.txn_play.specs.declared.answer.Answer.TheVariants.{Nothing}
use Rattle.txn_play.specs.declared.finding.Finding.{Finding}
use Rattle.txn_play.specs.declared.objection.Objection.{Objection}
use Rattle.txn_cli.specs.Faults.{objection_text}

-- what a line states, or the fault by which it is none
abbrev pub Stated : Type 0
Stated = Result (Option Statement) ScriptFault

-- a line was done: it was skipped, or its statement was done
abbrev pub PlaysAs : Stated → Progress → Progress → Answer → Type 0
PlaysAs (Ok None) p q answer = (q ≡ p) × (answer ≡ Nothing)
PlaysAs (Ok (Some s)) p q answer = Does s p q answer
PlaysAs (Err _) p q answer = ⊥

-- the bytes of a script behind its first n lines
abbrev pub after_lines : ℕ → List ℕ → List ℕ
after_lines zero script = script
after_lines (suc n) script = after_line (after_lines n script)

-- how many bytes the first n lines of a script take, their newlines among them
abbrev pub taken_by : ℕ → List ℕ → ℕ
taken_by zero script = 0
taken_by (suc n) script = taken_by n script + line_cost (after_lines n script)

-- a script has so many lines
abbrev pub HasLines : ℕ → List ℕ → Type 0
HasLines zero script = Unit {0}
HasLines (suc n) script = after_lines n script ≢ []

-- what stands behind the first n lines: a line, the end, or one that passes a limit
abbrev pub next_of : ℕ → List ℕ → Result (Option (List ℕ)) LineFault
next_of n script = reading (taken_by n script) (after_lines n script)

-- whether a line first lets a batch run that waits
abbrev pub line_lets_run : Stated → Bool
line_lets_run (Ok None) = false
line_lets_run (Ok (Some s)) = lets_run s
line_lets_run (Err _) = false

-- whether what comes next does so; the end of the script does
abbrev pub next_lets_run : Result (Option (List ℕ)) LineFault → Bool
next_lets_run (Ok None) = true
next_lets_run (Ok (Some line)) = line_lets_run (line_in line)
next_lets_run (Err _) = false

-- A place of the trail: what the store held as so much of a script was done stands there, and no step goes
-- back on it.
pub record Follows (trail : ℕ → Content) (p q : Progress) : Type 0 where
  pub later : p.calls ≤ q.calls
  pub stands : trail q.calls ≡ q.content

-- The first n lines of a script were done over a store with this trail, one after the other, each batch
-- that runs by itself before what lets it; these are the answers. Before the first, calls may be made that
-- change nothing.
pub data Plays (script : List ℕ) (trail : ℕ → Content) (start : Progress) : ℕ → Progress → List Answer → Type 0 where
  Opens : (calls : ℕ) → Follows trail start (record start { calls = calls })
      → Plays script trail start 0 (record start { calls = calls }) []
  Line : (n : ℕ) (line : List ℕ) (p q : Progress) (answers : List Answer) (answer : Answer)
      → Plays script trail start n p answers → next_of n script ≡ Ok (Some line)
      → PlaysAs (line_in line) p q answer → Follows trail p q
      → Plays script trail start (n + 1) q (answers ++ answer ∷ [])
  Batch : (n : ℕ) (p q : Progress) (answers : List Answer) (answer : Answer)
      → Plays script trail start n p answers → next_lets_run (next_of n script) ≡ true
      → RunsItself p q answer → Follows trail p q
      → Plays script trail start n q (answers ++ answer ∷ [])

-- so many lines of a script were done, this far it came, and these are the answers
pub record Reached : Type 0 where
  pub count : ℕ
  pub last : Progress
  pub answers : List Answer

-- every line of a script was done, and nothing waits any more
pub record IsPlayed (script : List ℕ) (trail : ℕ → Content) (start : Progress) (reached : Reached)
    : Type 0 where
  pub plays : Plays script trail start reached.count reached.last reached.answers
  pub ended : after_lines reached.count script ≡ []
  pub none_waits : reached.last.waiting ≡ []

-- what comes next was done: a batch ran by itself, or the next line was done
pub data DoesNext (script : List ℕ) (n : ℕ) (p q : Progress) (answer : Answer) : Type 0 where
  Batch : next_lets_run (next_of n script) ≡ true → RunsItself p q answer → DoesNext script n p q answer
  Line : (line : List ℕ) → next_of n script ≡ Ok (Some line) → PlaysAs (line_in line) p q answer
      → DoesNext script n p q answer

-- ---- what is refused

-- the text of what stands against a statement, where something does
abbrev pub RefusedFor : Option Objection → List ℕ → Type 0
RefusedFor None text = ⊥
RefusedFor (Some why) text = text ≡ objection_text why

-- a line is refused by that text: by the one of its fault, or of what stands against its statement
abbrev pub RefusedAs : Stated → Progress → List ℕ → Type 0
RefusedAs (Ok None) p text = ⊥
RefusedAs (Ok (Some s)) p text = RefusedFor (objection_to p s) text
RefusedAs (Err why) p text = text ≡ script_text why

-- What comes next is refused by that text: a line for what it states, by its length, or by that of the
-- script up to it; or the end, where a batch waits that may not run.
abbrev pub Refuses : Result (Option (List ℕ)) LineFault → Progress → List ℕ → Type 0
Refuses (Ok (Some line)) p text = RefusedAs (line_in line) p text
Refuses (Ok None) p text = RefusedFor (objection_at_end p) text
Refuses (Err line_fault.TooLong) p text = text ≡ codes "too long"
Refuses (Err line_fault.ScriptTooLong) p text = text ≡ codes "script too long"
Refuses (Err _) p text = ⊥

-- the text of something that stands against a statement
pub record IsObjection (text : List ℕ) : Type 0 where
  pub why : Objection
  pub is : text ≡ objection_text why

-- what an audit finds may refuse a line, for what it states or for a batch that it lets run first
abbrev pub FoundAt : Stated → Progress → Finding → Type 0
FoundAt (Ok (Some s)) p found = may_find_at p s found ≡ true
FoundAt _ p found = ⊥

-- the same of what comes next; at the end it is a batch that waits
abbrev pub Finds : Result (Option (List ℕ)) LineFault → Progress → Finding → Type 0
Finds (Ok (Some line)) p found = FoundAt (line_in line) p found
Finds (Ok None) p found = is_nothing p.waiting ≡ false
Finds (Err _) p found = ⊥

-- the same, whatever waits
abbrev pub MayFindAs : Stated → Finding → Type 0
MayFindAs (Ok (Some s)) found = (lets_run s || may_find s found) ≡ true
MayFindAs _ found = ⊥

abbrev pub MayFind : Result (Option (List ℕ)) LineFault → Finding → Type 0
MayFind (Ok (Some line)) found = MayFindAs (line_in line) found
MayFind (Ok None) found = Unit {0}
MayFind (Err _) found = ⊥

-- By what texts a line may be refused, and what comes next, whatever the store holds. At the end it is a
-- batch that isn't run.
abbrev pub MayRefuseAs : Stated → List ℕ → Type 0
MayRefuseAs (Ok None) text = ⊥
MayRefuseAs (Ok (Some s)) text = IsObjection text
MayRefuseAs (Err why) text = text ≡ script_text why

abbrev pub MayRefuse : Result (Option (List ℕ)) LineFault → List ℕ → Type 0
MayRefuse (Ok (Some line)) text = MayRefuseAs (line_in line) text
MayRefuse (Ok None) text = text ≡ codes "not built yet"
MayRefuse (Err line_fault.TooLong) text = text ≡ codes "too long"
MayRefuse (Err line_fault.ScriptTooLong) text = text ≡ codes "script too long"
MayRefuse (Err _) text = ⊥

-- ---- where a batch may be on its way

-- a line that runs it, or first lets it run
abbrev pub line_may_run : Stated → Bool
line_may_run (Ok None) = false
line_may_run (Ok (Some s)) = if runs_batch s then true else lets_run s
line_may_run (Err _) = false

abbrev pub next_may_run : Result (Option (List ℕ)) LineFault → Bool
next_may_run (Ok None) = true
next_may_run (Ok (Some line)) = line_may_run (line_in line)
next_may_run (Err _) = false
