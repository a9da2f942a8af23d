use Rattle.std.proofs.Common.{◌≡◌, take}
use Rattle.txn_record.proofs.ops.Ops.copy.Given as goal

abbrev pub invariant-loop-op : goal.invariant-loop-op
invariant-loop-op l = l.list ≡ take l.op-index l.ops
