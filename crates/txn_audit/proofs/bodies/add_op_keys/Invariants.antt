use Rattle.std.proofs.Common.{◌≡◌, ◌++◌, map, take}
use Rattle.txn_audit.specs.Bodies.{op_keys}
use Rattle.txn_audit.proofs.bodies.add_op_keys.Given as goal

abbrev pub invariant-loop-op : goal.invariant-loop-op
invariant-loop-op l = map (λ key. key.now) l.keys.items ≡ map (λ key. key.now) l.fn.keys.items ++ op_keys (take l.op-index l.ops)
