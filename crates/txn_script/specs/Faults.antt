-- The faults of a line: which faults of its parts they are, and their texts.
use Rattle.std.specs.Prelude.{ℕ, List, ◌++◌, codes}
use Rattle.std.specs.Fmt.{decimal}
use Rattle.doc_value.specs.declared.fault.ValueFault.{ValueFault}
use Rattle.doc_value.specs.declared.fault.ValueFault.TheVariants as value
use Rattle.cell_text.specs.declared.fault.CellFault.{CellFault}
use Rattle.cell_text.specs.declared.fault.CellFault.TheVariants as cell
use Rattle.txn_record.specs.declared.fault.OpFault.{OpFault}
use Rattle.txn_record.specs.declared.fault.OpFault.TheVariants as op
use Rattle.txn_record.specs.declared.fault.OpsFault.{OpsFault}
use Rattle.txn_record.specs.declared.fault.OpsFault.TheVariants as ops
use Rattle.txn_script.specs.declared.fault.ScriptFault.{ScriptFault}
use Rattle.txn_script.specs.declared.fault.ScriptFault.TheVariants as fault

-- the fault of a line whose text is no value
abbrev pub fault_of_value : ValueFault → ScriptFault
fault_of_value value.NotJson = fault.NotJson
fault_of_value value.TooDeep = fault.TooDeep
fault_of_value value.BadName = fault.BadName
fault_of_value value.NotWhole = fault.NotWhole
fault_of_value value.OutOfMemory = fault.OutOfMemory

-- the fault of a line with a field `cell` whose value is no cell
abbrev pub fault_of_cell : CellFault → ScriptFault
fault_of_cell cell.Bad = fault.BadCell
fault_of_cell cell.OutOfMemory = fault.OutOfMemory

-- the fault of a line whose `ops` are no operations of a transaction
abbrev pub fault_of_ops : OpsFault → ScriptFault
fault_of_ops ops.NotList = fault.NoOperations
fault_of_ops ops.Empty = fault.NoOperations
fault_of_ops ops.TooMany = fault.TooManyOperations
fault_of_ops (ops.At number why) = fault.Operation number why
fault_of_ops ops.OutOfMemory = fault.OutOfMemory

-- ---- texts

abbrev pub op_text : OpFault → List ℕ
op_text op.BadOperation = codes "bad operation"
op_text op.KeyMissing = codes "C or Id missing"
op_text op.BadKey = codes "bad collection or id"
op_text op.SeveralChanges = codes "more than one of Insert/Update/Remove set"
op_text op.NothingSet = codes "none of Assert/Insert/Update/Remove set"
op_text op.InsertAssert = codes "Insert can only Assert d-"
op_text op.TooDeep = codes "nested too deep"
op_text op.BadInsert = codes "bad insert"
op_text op.BadUpdate = codes "bad update"
op_text op.BadAssert = codes "bad assert"

-- the text that refuses a line; the last is printed by itself, since want of memory is no fault of a line
abbrev pub fault_text : ScriptFault → List ℕ
fault_text fault.NotJson = codes "not JSON"
fault_text fault.TooDeep = codes "nested too deep"
fault_text fault.BadName = codes "bad field name"
fault_text fault.NotWhole = codes "number not whole"
fault_text fault.BadStatement = codes "bad statement"
fault_text fault.BadCell = codes "bad cell"
fault_text fault.BadId = codes "bad id"
fault_text fault.BadBody = codes "bad body"
fault_text fault.BadInfo = codes "bad info"
fault_text fault.NoOperations = codes "no operations"
fault_text fault.TooManyOperations = codes "too many operations"
fault_text (fault.Operation number why) =
    codes "error in transaction op " ++ decimal number ++ codes ": " ++ op_text why
fault_text fault.NotBuilt = codes "not built yet"
fault_text fault.OutOfMemory = codes "out of memory"
