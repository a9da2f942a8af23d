use Rattle.std.proofs.Common.{◌≡◌, map, take}
use Rattle.txn_audit.specs.Bodies.{keys_in}
use Rattle.txn_audit.proofs.bodies.each_key.Given as goal

abbrev pub invariant-loop-named : goal.invariant-loop-named
invariant-loop-named l = map (λ key. key.now) l.keys.items ≡ keys_in (take l.named-index l.cells)
