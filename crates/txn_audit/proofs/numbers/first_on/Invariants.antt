use Rattle.std.proofs.Common.{◌≡◌, drop}
use Rattle.txn_record.specs.Revnos.{first_on}
use Rattle.txn_audit.proofs.numbers.first_on.Given as goal

abbrev pub invariant-loop-place : goal.invariant-loop-place
invariant-loop-place l = first_on l.key l.ops l.revnos ≡ first_on l.key (drop l.place l.ops) (drop l.place l.revnos)
