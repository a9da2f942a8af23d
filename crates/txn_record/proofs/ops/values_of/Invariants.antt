use Rattle.std.proofs.Common.{◌≡◌, ◌++◌, drop, map}
use Rattle.txn_record.specs.Values.{op_value}
use Rattle.txn_record.proofs.ops.values_of.Given as goal

abbrev pub invariant-loop-op : goal.invariant-loop-op
invariant-loop-op l = l.values ++ map op_value (drop l.op-index l.ops) ≡ map op_value l.ops
