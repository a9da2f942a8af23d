-- Why a call ended before the end of its script.
use Rattle.std.specs.Prelude.{◌≡◌, ◌≤◌, ◌+◌, ℕ, Bool, false, List, IsTrue, Option, Some, None, IfSome, Result, IsErrOf, if◌then◌else◌}
use Rattle.store_trait.specs.Calls.{Rose}
use Rattle.store_trait.specs.declared.store.Store.{Ghosts}
use Rattle.txn_io.specs.declared.source.Source as source
use Rattle.txn_play.specs.Refusals.{HasCause, HasReason, IsUnspent, WasFound}
use Rattle.txn_play.specs.declared.finding.Finding.{Finding}
use Rattle.txn_play.specs.declared.finding.Finding.TheVariants as finding
use Rattle.txn_cli.specs.Faults.{refusal_in}
use Rattle.txn_cli.specs.Script.{HasLines, MayFind, MayRefuse, next_of}
use Rattle.txn_cli.specs.declared.fault.Fault.{Fault}
use Rattle.txn_cli.specs.declared.fault.Fault.TheVariants as fault

-- a count of faults before a call and after it
pub record Counts : Type 0 where
  pub before : ℕ
  pub after : ℕ

abbrev pub counts : ℕ → ℕ → Counts
counts before after = record { before = before; after = after }

abbrev pub HasRisen : Counts → Type 0
HasRisen counts = Rose counts.before counts.after

-- a count never falls, and a call fails so only where it rose
pub record FailsOnly {T E : Type 0} (counts : Counts) (result : Result T E) (failed : E) : Type 0 where
  pub later : counts.before ≤ counts.after
  pub fault : IsErrOf result failed → HasRisen counts

-- what a call's refusal is judged by: whether its words are in the grammar, the script, where the source
-- tells it, the store before and after it, and how often input and output had failed
pub record Circumstances (S : Type 0) : Type 0 where
  pub in_grammar : Bool
  pub script : Option (List ℕ)
  pub old : S
  pub new : S
  pub input : Counts
  pub output : Counts

abbrev pub circumstances : {S : Type 0} → Bool → Option (List ℕ) → S → S → Counts → Counts
    → Circumstances S
circumstances in_grammar script old new input output = record {
  in_grammar = in_grammar;
  script = script;
  old = old;
  new = new;
  input = input;
  output = output;
}

-- the script that a source tells, if it tells one
abbrev pub told_script : {I : Type 0} → source.Ghosts I → I → Option (List ℕ)
told_script source input = if source.tells then Some (source.rest input) else None

-- the line of that number, or the end behind the last one, may be refused by that text
pub record MayBeRefused (number : ℕ) (text script : List ℕ) : Type 0 where
  pub count : ℕ
  pub next : number ≡ count + 1
  pub there : HasLines count script
  pub may : MayRefuse (next_of count script) text

-- what an audit finds may refuse a line, or the end behind the last one
pub record MayBeFound (found : Finding) (script : List ℕ) : Type 0 where
  pub count : ℕ
  pub there : HasLines count script
  pub may : MayFind (next_of count script) found

-- an audit found it, by what the store answered, and a line of the script may be refused so
abbrev pub IsFoundIn : {S : Type 0} → Ghosts S → Circumstances S → Finding → Type 0
IsFoundIn store call found =
    WasFound store call.old call.new found × IfSome call.script (MayBeFound found)

-- The words are out of the grammar; a line may be refused so, whatever the store holds; the store, the
-- input or the output failed in this call. Over any store its last answers show why nonces or numbers are
-- used up, what broke, or what an audit found.
abbrev pub IsShown : {S : Type 0} → Ghosts S → Circumstances S → Fault → Type 0
IsShown store call fault.Words = call.in_grammar ≡ false
IsShown store call (fault.Line number text) = IfSome call.script (MayBeRefused number text)
IsShown store call (fault.Unsound rule at) = IsFoundIn store call (finding.Unsound rule at)
IsShown store call fault.TooManyCells = IsFoundIn store call finding.TooManyCells
IsShown store call fault.Store = Rose (store.faults call.old) (store.faults call.new)
IsShown store call fault.Input = HasRisen call.input
IsShown store call fault.Output = HasRisen call.output
IsShown store call why = IfSome (refusal_in why) (HasCause store call.old call.new)

-- Why a call was refused. Over a store that tells, what an audit found is so, nonces and numbers are used up
-- where it says so, and nothing is ever broken.
pub record IsCaused {S : Type 0} (store : Ghosts S) (call : Circumstances S) (why : Fault) : Type 0 where
  pub shown : IsShown store call why
  pub reason : IsTrue store.tells → IfSome (refusal_in why) (HasReason (store.content call.new))

-- neither a nonce nor a number was wanting
abbrev pub NoneSpent : Fault → Type 0
NoneSpent why = IfSome (refusal_in why) IsUnspent

-- nothing failed
pub record NothingFailed {S : Type 0} (store : Ghosts S) (call : Circumstances S) : Type 0 where
  pub of_store : Rose (store.faults call.old) (store.faults call.new) → ⊥
  pub of_input : HasRisen call.input → ⊥
  pub of_output : HasRisen call.output → ⊥

-- a line was refused, an audit found something against the store, or memory was wanting
abbrev pub IsOfLine : Fault → Type 0
IsOfLine (fault.Line number text) = Unit {0}
IsOfLine (fault.Unsound rule at) = Unit {0}
IsOfLine fault.TooManyCells = Unit {0}
IsOfLine fault.OutOfMemory = Unit {0}
IsOfLine _ = ⊥
