use Rattle.std.proofs.Common.{◌≡◌, map, take}
use Rattle.txn_record.proofs.keys.each_key.Given as goal

abbrev pub invariant-loop-op : goal.invariant-loop-op
invariant-loop-op l = map (λ key. key.now) l.keys.items ≡ map (λ op. op.key) (take l.op-index l.ops)
