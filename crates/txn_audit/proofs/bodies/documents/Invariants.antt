use Rattle.std.proofs.Common.{◌≡◌, true, drop}
use Rattle.std.specs.List.{AllByRecursion}
use Rattle.txn_key.specs.Documents.{IsPast}
use Rattle.txn_key.specs.Places.{keys_rise}
use Rattle.txn_audit.specs.Bodies.{with_bodies, kept}
use Rattle.txn_audit.proofs.bodies.documents.Given as goal

abbrev pub invariant-loop-place : goal.invariant-loop-place
invariant-loop-place l = record {
  adds : with_bodies l.docs (drop l.place l.keys) (drop l.place l.bodies) ≡ kept l.keys l.bodies;
  rise : keys_rise (drop l.place l.keys) ≡ true;
  past : AllByRecursion (λ key. IsPast key l.docs) (drop l.place l.keys);
}
