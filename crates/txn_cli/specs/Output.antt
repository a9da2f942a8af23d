-- What the program prints, and what was written of it.
use Rattle.std.specs.Prelude.{◌≡◌, ◌⊎◌, ◌+◌, ℕ, Bool, true, false, IsTrue, List, [], ◌∷◌, ◌++◌, Option, Some, None, codes}
use Rattle.std.specs.Fmt.{decimal}
use Rattle.std.specs.List.{flat_map}
use Rattle.std.specs.FinMap.{entries}
use Rattle.txn_io.specs.Pour.{IsPartPut}
use Rattle.txn_io.specs.declared.sink.Sink.{Ghosts}
use Rattle.txn_key.specs.Documents.{Docs}
use Rattle.txn_key.specs.Ids.{id_text, token_text}
use Rattle.txn_record.specs.declared.entry.Entry.{Entry}
use Rattle.txn_record.specs.declared.state.State.{State}
use Rattle.txn_record.specs.declared.state.State.TheVariants as state
use Rattle.txn_script.specs.Texts.{cell_line, document_line, entry_line, key_text, name_text}
use Rattle.txn_play.specs.declared.answer.Answer.{Answer}
use Rattle.txn_play.specs.declared.answer.Answer.TheVariants.{Nothing, States, Documents, Cells, Order, Audited}
use Rattle.txn_play.specs.declared.answer.RecordState.{RecordState}
use Rattle.txn_play.specs.declared.finding.Finding.{Finding}
use Rattle.txn_play.specs.declared.finding.Finding.TheVariants as finding
use Rattle.txn_cli.specs.Faults.{status_of}
use Rattle.txn_cli.specs.declared.fault.Fault.{Fault}
use Rattle.txn_cli.specs.declared.fault.Fault.TheVariants as fault
use Rattle.txn_runner.specs.declared.error.StepError.{StepError}
use Rattle.txn_runner.specs.declared.error.StepError.TheVariants as step

abbrev pub line : List ℕ → List ℕ
line text = text ++ 10 ∷ []

-- ---- the lines of an answer

-- a line for each document, in the order of keys
abbrev pub documents_text : Docs → List ℕ
documents_text docs = flat_map document_line (entries docs)

abbrev pub state_word : State → List ℕ
state_word state.Preparing = codes "preparing"
state_word state.Prepared = codes "prepared"
state_word state.Aborting = codes "aborting"
state_word state.Applying = codes "applying"
state_word state.Aborted = codes "aborted"
state_word state.Applied = codes "applied"

-- the line of a transaction: its id, a blank and the word of its record's state
abbrev pub state_line : RecordState → List ℕ
state_line it = line (id_text it.id ++ codes " " ++ state_word it.state)

-- a line for each decision, with its number from the first one's on
abbrev pub order_text : ℕ → List Entry → List ℕ
order_text number [] = []
order_text number (entry ∷ entries) = entry_line number entry ++ order_text (number + 1) entries

-- what an audit finds against a store
abbrev pub finding_text : Finding → List ℕ
finding_text (finding.Unsound rule at) =
    line (codes "unsound: rule " ++ decimal rule ++ codes " at " ++ name_text at)
finding_text finding.TooManyCells = codes "unsound: more than 200000 cells\n"

abbrev pub verdict_text : Option Finding → List ℕ
verdict_text None = codes "sound\n"
verdict_text (Some found) = finding_text found

abbrev pub answer_text : Answer → List ℕ
answer_text Nothing = []
answer_text (States states) = flat_map state_line states
answer_text (Documents docs) = documents_text docs
answer_text (Cells cells) = flat_map cell_line cells
answer_text (Order entries) = order_text 1 entries
answer_text (Audited found) = verdict_text found

-- whether an answer is printed
abbrev pub prints : Answer → Bool
prints Nothing = false
prints (States _) = true
prints (Documents _) = true
prints (Cells _) = true
prints (Order _) = true
prints (Audited _) = true

abbrev pub answers_text : List Answer → List ℕ
answers_text answers = flat_map answer_text answers

-- ---- the last line of a refusal

abbrev pub usage_text : List ℕ
usage_text =
    codes "usage: txn run [--db FILE] [--log FILE] | txn race [--log FILE] | txn grind N [--db FILE] [--log FILE]\n"

abbrev pub step_text : StepError → List ℕ
step_text step.StoreFault = codes "store fault\n"
step_text step.NoncesSpent = codes "nonces spent\n"
step_text (step.RevnoSpent key) = line (codes "revno spent at doc " ++ key_text key)
step_text (step.Lost token) = line (codes "lost " ++ token_text token)
step_text (step.Clash id at) = line (codes "clash " ++ id_text id)
step_text step.OutOfMemory = codes "out of memory\n"

-- a fault of the output has none
abbrev pub fault_text : Fault → List ℕ
fault_text fault.Words = usage_text
fault_text (fault.Line number text) = line (codes "line " ++ decimal number ++ codes ": " ++ text)
fault_text (fault.Unsound rule at) = finding_text (finding.Unsound rule at)
fault_text fault.TooManyCells = finding_text finding.TooManyCells
fault_text fault.Store = codes "store fault\n"
fault_text fault.Input = codes "input fault\n"
fault_text fault.Output = []
fault_text fault.OutOfMemory = codes "out of memory\n"
fault_text (fault.Spent error) = step_text error
fault_text (fault.Broken error) = step_text error
fault_text (fault.Repeated id) = line (codes "clash " ++ id_text id)

-- how a text ends
pub record IsEnd (piece text : List ℕ) : Type 0 where
  pub before : List ℕ
  pub is : text ≡ before ++ piece

-- the last line of a refusal stands at the end; it may be cut off, or be none, where memory was wanting or
-- the output failed
abbrev pub EndsIn : Fault → List ℕ → Type 0
EndsIn fault.Output text = Unit {0}
EndsIn fault.OutOfMemory text = Unit {0}
EndsIn why text = IsEnd (fault_text why) text

-- ---- what was written

-- what a sink tells that was written before a call and after it
pub record Writing : Type 0 where
  pub tells : Bool
  pub before : List ℕ
  pub after : List ℕ

abbrev pub writing : {O : Type 0} → Ghosts O → O → O → Writing
writing sink old new = record { tells = sink.tells; before = sink.written old; after = sink.written new }

-- a refusal was told by its status, and by the last line of what was written
pub record HasTold {O : Type 0} (sink : Ghosts O) (output : O) (status : ℕ) (why : Fault) : Type 0 where
  pub is : status ≡ status_of why
  pub last : IsTrue sink.tells → EndsIn why (sink.written output)

-- the piece was written
abbrev pub Wrote : Writing → List ℕ → Type 0
Wrote w piece = IsTrue w.tells → w.after ≡ w.before ++ piece

-- some first bytes of it were, behind those that came before it
abbrev pub WrotePart : Writing → List ℕ → List ℕ → Type 0
WrotePart w first piece = IsTrue w.tells → IsPartPut (w.before ++ first) w.after piece

-- it was written whole, or some first bytes of it and the output failed
abbrev pub WroteOrFailed : Writing → List ℕ → List ℕ → Type 0 → Type 0
WroteOrFailed w first piece failed = IsTrue w.tells
    → (w.after ≡ w.before ++ (first ++ piece)) ⊎ (IsPartPut (w.before ++ first) w.after piece × failed)
