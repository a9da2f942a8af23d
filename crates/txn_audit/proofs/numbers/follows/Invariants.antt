use Rattle.std.proofs.Common.{◌≡◌, true, drop}
use Rattle.txn_record.specs.Revnos.{follows, stays_within}
use Rattle.txn_audit.proofs.numbers.follows.Given as goal

abbrev pub invariant-loop-place : goal.invariant-loop-place
invariant-loop-place l = record {
  same : follows l.ops l.revnos ≡ follows (drop l.place l.ops) (drop l.place l.revnos);
  within : stays_within (drop l.place l.ops) (drop l.place l.revnos) ≡ true;
}
