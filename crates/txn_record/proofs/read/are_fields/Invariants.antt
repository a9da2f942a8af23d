use Rattle.std.proofs.Common.{◌≡◌, drop}
use Rattle.txn_record.specs.Syntax.{are_fields}
use Rattle.txn_record.proofs.read.are_fields.Given as goal

abbrev pub invariant-loop-field : goal.invariant-loop-field
invariant-loop-field l = are_fields (drop l.field-index l.fields) ≡ are_fields l.fields
