-- What a line of a script states, or the fault by which it is refused.
use Rattle.std.specs.Prelude.{ℕ, Bool, ◌||◌, ◌&&◌, ◌==◌, true, false, nat_eq, nat_lt, List, [], ◌∷◌, length, codes, Option, Some, None, Result, Ok, Err, if◌then◌else◌}
use Rattle.std.specs.List.{starts_with, list_all, list_any}
use Rattle.std.specs.Option.{option_map}
use Rattle.std.specs.Str.{bytes_eq}
use Rattle.doc_value.specs.Bodies.{body_in}
use Rattle.doc_value.specs.Depth.{nesting}
use Rattle.doc_value.specs.Syntax.{value_in}
use Rattle.doc_value.specs.declared.fault.BodyFault.{BodyFault}
use Rattle.doc_value.specs.declared.fault.ValueFault.{ValueFault}
use Rattle.doc_value.specs.declared.value.Named.{Named}
use Rattle.doc_value.specs.declared.value.Value.{Value, out-Value}
use Rattle.doc_value.specs.declared.value.Value.TheOpen.{Value-F}
use Rattle.txn_key.specs.Ids.{id_of}
use Rattle.txn_key.specs.Syntax.{key_in}
use Rattle.txn_key.specs.declared.id.TxnId.{TxnId}
use Rattle.txn_key.specs.declared.key.Key.{Key}
use Rattle.txn_record.specs.Syntax.{ops_in}
use Rattle.txn_record.specs.declared.fault.OpsFault.{OpsFault}
use Rattle.txn_record.specs.declared.op.Op.{Op}
use Rattle.store_trait.specs.declared.cell.Named.{Named as NamedCell}
use Rattle.cell_text.specs.Syntax.{cell_in}
use Rattle.txn_script.specs.Faults.{fault_of_value, fault_of_ops}
use Rattle.txn_script.specs.Plans.{plan_in}
use Rattle.txn_script.specs.declared.fault.ScriptFault.{ScriptFault}
use Rattle.txn_script.specs.declared.fault.ScriptFault.TheVariants.{BadStatement, BadCell, BadId, BadBody, BadInfo, NotBuilt}
use Rattle.txn_script.specs.declared.plan.GoPlan.{GoPlan}
use Rattle.txn_script.specs.declared.statement.Statement.{Statement}
use Rattle.txn_script.specs.declared.statement.Statement.TheVariants as statement

-- ---- lines that state nothing

abbrev pub is_blank_byte : ℕ → Bool
is_blank_byte byte = byte == 32 || byte == 9 || byte == 13

-- a comment, or blanks, tabs and carriage returns alone
abbrev pub is_skipped : List ℕ → Bool
is_skipped line = starts_with nat_eq line (codes "#") || list_all is_blank_byte line

-- ---- a value or else a fault

abbrev pub or_fault : {A : Type 0} → ScriptFault → Option A → Result A ScriptFault
or_fault why (Some read) = Ok read
or_fault why None = Err why

-- ---- a cell line

abbrev pub placing : Option NamedCell → Result Statement ScriptFault
placing (Some named) = Ok (statement.Place named.name named.cell)
placing None = Err BadCell

-- ---- {"doc":[COLLECTION,ID],"body":BODY}

abbrev pub key_of : Value-F Value → Option Key
key_of (Value-F.List (c ∷ d ∷ [])) = key_in c d
key_of _ = None

abbrev pub doc_with : Key → Result Value BodyFault → Result Statement ScriptFault
doc_with key (Ok body) = Ok (statement.Doc key body)
doc_with key (Err _) = Err BadBody

abbrev pub doc_at : Value → Option Key → Result Statement ScriptFault
doc_at body (Some key) = doc_with key (body_in key.d body)
doc_at body None = Err BadBody

abbrev pub doc_in : Value → Value → Result Statement ScriptFault
doc_in place body = doc_at body (key_of (out-Value place))

-- ---- {"txn":ID,"ops":OPERATIONS}, with or without "info":VALUE

abbrev pub id_in : Value-F Value → Option TxnId
id_in (Value-F.Text text) = id_of text
id_in _ = None

abbrev pub is_too_deep : Option Value → Bool
is_too_deep None = false
is_too_deep (Some info) = nat_lt 90 (nesting info)

abbrev pub submission_with : TxnId → Option Value → Result (List Op) OpsFault →
    Result Statement ScriptFault
submission_with id info (Ok ops) = Ok (statement.Submit id ops info)
submission_with id info (Err why) = Err (fault_of_ops why)

abbrev pub submission_under : Option TxnId → Option Value → Value → Result Statement ScriptFault
submission_under (Some id) info ops =
    if is_too_deep info then Err BadInfo else submission_with id info (ops_in ops)
submission_under None info ops = Err BadId

abbrev pub submission_in : Value → Option Value → Value → Result Statement ScriptFault
submission_in id info ops = submission_under (id_in (out-Value id)) info ops

-- ---- {"go":PLAN}

abbrev pub has_no_fields : Value-F Value → Bool
has_no_fields (Value-F.Object fields) = length fields == 0
has_no_fields _ = false

-- A plan that says anything is not built yet.
abbrev pub go_with : Bool → Option GoPlan → Result Statement ScriptFault
go_with plain (Some plan) = if plain then Ok (statement.Go plan) else Err NotBuilt
go_with plain None = Err BadStatement

abbrev pub go_in : Value → Result Statement ScriptFault
go_in value = go_with (has_no_fields (out-Value value)) (plan_in value)

-- ---- {"resume":ID} and {"resume":"all"}

abbrev pub resumed_in : Value-F Value → Option (Option TxnId)
resumed_in (Value-F.Text text) = if bytes_eq text (codes "all") then Some None
    else option_map Some (id_of text)
resumed_in _ = None

abbrev pub resuming : Option (Option TxnId) → Result Statement ScriptFault
resuming (Some id) = Ok (statement.Resume id)
resuming None = Err BadId

abbrev pub resume_in : Value → Result Statement ScriptFault
resume_in value = resuming (resumed_in (out-Value value))

-- ---- the statements that are a word with `true`

abbrev pub word_in : List ℕ → Option Statement
word_in name =
    if bytes_eq name (codes "prune") then Some statement.Prune
    else (if bytes_eq name (codes "purge") then Some statement.Purge
    else (if bytes_eq name (codes "audit") then Some statement.Audit
    else (if bytes_eq name (codes "show") then Some statement.Show
    else (if bytes_eq name (codes "export") then Some statement.Export
    else (if bytes_eq name (codes "order") then Some statement.Order else None)))))

abbrev pub asked : List ℕ → Value-F Value → Result Statement ScriptFault
asked name (Value-F.Bool true) = or_fault BadStatement (word_in name)
asked name _ = Err BadStatement

-- ---- the statement of an object with one, two or three fields; they stand in byte order of their names

abbrev pub is_named : Named Value → List ℕ → Bool
is_named field name = bytes_eq field.name name

abbrev pub statement_of_one : Named Value → Result Statement ScriptFault
statement_of_one field =
    if is_named field (codes "go") then go_in field.value
    else (if is_named field (codes "resume") then resume_in field.value
    else asked field.name (out-Value field.value))

abbrev pub statement_of_two : Named Value → Named Value → Result Statement ScriptFault
statement_of_two first second =
    if is_named first (codes "body") && is_named second (codes "doc")
    then doc_in second.value first.value
    else (if is_named first (codes "ops") && is_named second (codes "txn")
    then submission_in second.value None first.value
    else Err BadStatement)

abbrev pub statement_of_three : Named Value → Named Value → Named Value →
    Result Statement ScriptFault
statement_of_three first second third =
    if is_named first (codes "info") && is_named second (codes "ops")
    && is_named third (codes "txn")
    then submission_in third.value (Some first.value) second.value else Err BadStatement

abbrev pub statement_of_fields : List (Named Value) → Result Statement ScriptFault
statement_of_fields (field ∷ []) = statement_of_one field
statement_of_fields (first ∷ second ∷ []) = statement_of_two first second
statement_of_fields (first ∷ second ∷ third ∷ []) = statement_of_three first second third
statement_of_fields _ = Err BadStatement

-- ---- the statement of a value and of a line

abbrev pub is_cell_line : List (Named Value) → Bool
is_cell_line fields = list_any (λ field. is_named field (codes "cell")) fields

abbrev pub statement_of_value : Value → Value-F Value → Result Statement ScriptFault
statement_of_value value (Value-F.Object fields) =
    if is_cell_line fields then placing (cell_in value) else statement_of_fields fields
statement_of_value value _ = Err BadStatement

abbrev pub statement_in : Result Value ValueFault → Result Statement ScriptFault
statement_in (Ok value) = statement_of_value value (out-Value value)
statement_in (Err why) = Err (fault_of_value why)

abbrev pub stated : Result Statement ScriptFault → Result (Option Statement) ScriptFault
stated (Ok statement) = Ok (Some statement)
stated (Err why) = Err why

-- what a line states: nothing where it is skipped, and else the statement of its value, or the first fault
abbrev pub line_in : List ℕ → Result (Option Statement) ScriptFault
line_in line = if is_skipped line then Ok None else stated (statement_in (value_in line))
