use Rattle.std.proofs.Common.{◌≡◌, drop, length}
use Rattle.std.specs.List.{All}
use Rattle.txn_record.specs.Syntax.{ops_from}
use Rattle.txn_record.specs.Transactions.{IsSoundOp}
use Rattle.txn_record.proofs.ReadingLaws.{after_those}
use Rattle.txn_record.proofs.ops.read_all.Given as goal

abbrev pub invariant-loop-value : goal.invariant-loop-value
invariant-loop-value l = record {
  exact : after_those l.list (ops_from l.op (drop l.value-index l.values)) ≡ ops_from 0 l.values;
  sound : All IsSoundOp l.list;
  number : l.op ≡ l.value-index;
  count : length l.list ≡ l.value-index;
}
