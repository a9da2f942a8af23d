use Rattle.std.proofs.Common.{◌≡◌, drop}
use Rattle.txn_record.specs.Revnos.{stays_within}
use Rattle.txn_audit.proofs.numbers.stays_within.Given as goal

abbrev pub invariant-loop-place : goal.invariant-loop-place
invariant-loop-place l = stays_within l.ops l.revnos ≡ stays_within (drop l.place l.ops) (drop l.place l.revnos)
