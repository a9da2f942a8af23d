-- Why a line was not done, and how that ends the call.
use Rattle.std.specs.Prelude.{◌≡◌, ◌⊎◌, ℕ, List, Option, Some, None, codes}
use Rattle.txn_io.specs.declared.lines.LineFault.{LineFault}
use Rattle.txn_io.specs.declared.lines.LineFault.TheVariants as line_fault
use Rattle.txn_script.specs.Faults.{fault_text as script_text}
use Rattle.txn_script.specs.declared.fault.ScriptFault.{ScriptFault}
use Rattle.txn_script.specs.declared.fault.ScriptFault.TheVariants as script_fault
use Rattle.txn_play.specs.declared.finding.Finding.{Finding}
use Rattle.txn_play.specs.declared.finding.Finding.TheVariants as finding
use Rattle.txn_play.specs.declared.objection.Objection.{Objection}
use Rattle.txn_play.specs.declared.objection.Objection.TheVariants as objection
use Rattle.txn_play.specs.declared.refusal.Refusal.{Refusal}
use Rattle.txn_play.specs.declared.refusal.Refusal.TheVariants as refusal
use Rattle.txn_cli.specs.declared.fault.Fault.{Fault}
use Rattle.txn_cli.specs.declared.fault.Fault.TheVariants as fault
use Rattle.txn_cli.specs.declared.stop.Stop.{Stop}
use Rattle.txn_cli.specs.declared.stop.Stop.TheVariants as stop

abbrev pub status_of : Fault → ℕ
status_of fault.Words = 2
status_of (fault.Line _ _) = 3
status_of (fault.Unsound _ _) = 4
status_of fault.TooManyCells = 4
status_of fault.Store = 5
status_of fault.Input = 6
status_of fault.Output = 7
status_of fault.OutOfMemory = 8
status_of (fault.Spent _) = 9
status_of (fault.Broken _) = 11
status_of (fault.Repeated _) = 11

-- ---- a line's refusal

-- the text by which a line is refused for what stands against its statement
abbrev pub objection_text : Objection → List ℕ
objection_text objection.PlacedTooLate = codes "placed too late"
objection_text objection.PlacedTwice = codes "placed twice"
objection_text objection.TooManyWaiting = codes "too many waiting"
objection_text objection.IdExists = codes "id exists"
objection_text objection.NotBuilt = codes "not built yet"

-- how what an audit finds ends the call
abbrev pub fault_of_finding : Finding → Fault
fault_of_finding (finding.Unsound rule at) = fault.Unsound rule at
fault_of_finding finding.TooManyCells = fault.TooManyCells

-- how what stopped a line ends the call, where that line has the number
abbrev pub fault_of_refusal : ℕ → Refusal → Fault
fault_of_refusal number (refusal.Objected why) = fault.Line number (objection_text why)
fault_of_refusal number (refusal.Found found) = fault_of_finding found
fault_of_refusal number refusal.Store = fault.Store
fault_of_refusal number refusal.OutOfMemory = fault.OutOfMemory
fault_of_refusal number (refusal.Spent error) = fault.Spent error
fault_of_refusal number (refusal.Broken error) = fault.Broken error
fault_of_refusal number (refusal.Repeated id) = fault.Repeated id

abbrev pub fault_of_stop : ℕ → Stop → Fault
fault_of_stop number (stop.Misread why) = fault.Line number (script_text why)
fault_of_stop number (stop.Refused why) = fault_of_refusal number why
fault_of_stop number stop.Output = fault.Output

-- the same, or want of memory for the text of a refusal
abbrev pub OrShort : Fault → Fault → Type 0
OrShort (fault.Line number text) why = (why ≡ fault.Line number text) ⊎ (why ≡ fault.OutOfMemory)
OrShort other why = why ≡ other

-- how a line stops that was read as no statement
abbrev pub stop_of_reading : ScriptFault → Stop
stop_of_reading script_fault.OutOfMemory = stop.Refused refusal.OutOfMemory
stop_of_reading why = stop.Misread why

-- how a line that wasn't read ends the call
abbrev pub fault_of_line : ℕ → LineFault → Fault
fault_of_line number line_fault.ReadFault = fault.Input
fault_of_line number line_fault.TooLong = fault.Line number (codes "too long")
fault_of_line number line_fault.ScriptTooLong = fault.Line number (codes "script too long")
fault_of_line number line_fault.OutOfMemory = fault.OutOfMemory

-- ---- the statement's refusal behind it, if there is one

abbrev pub refusal_in_stop : Stop → Option Refusal
refusal_in_stop (stop.Misread _) = None
refusal_in_stop (stop.Refused why) = Some why
refusal_in_stop stop.Output = None

abbrev pub refusal_in : Fault → Option Refusal
refusal_in fault.Words = None
refusal_in (fault.Line _ _) = None
refusal_in (fault.Unsound rule at) = Some (refusal.Found (finding.Unsound rule at))
refusal_in fault.TooManyCells = Some (refusal.Found finding.TooManyCells)
refusal_in fault.Store = Some refusal.Store
refusal_in fault.Input = None
refusal_in fault.Output = None
refusal_in fault.OutOfMemory = Some refusal.OutOfMemory
refusal_in (fault.Spent error) = Some (refusal.Spent error)
refusal_in (fault.Broken error) = Some (refusal.Broken error)
refusal_in (fault.Repeated id) = Some (refusal.Repeated id)
