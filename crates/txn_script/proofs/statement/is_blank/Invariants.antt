use Rattle.std.proofs.Common.{◌≡◌, drop}
use Rattle.std.specs.List.{list_all}
use Rattle.txn_script.specs.Statements.{is_blank_byte}
use Rattle.txn_script.proofs.statement.is_blank.Given as goal

abbrev pub invariant-loop-byte : goal.invariant-loop-byte
invariant-loop-byte l = list_all is_blank_byte (drop l.byte-index l.bytes) ≡ list_all is_blank_byte l.bytes
