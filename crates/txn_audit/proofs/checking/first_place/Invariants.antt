use Rattle.std.proofs.Common.{ℕ, ◌<◌}
use Rattle.txn_audit.specs.Checks.{HoldsAtPlace}
use Rattle.txn_audit.specs.Flaws.{rule_of}
use Rattle.txn_audit.proofs.checking.first_place.Given as goal

abbrev pub invariant-loop-place : goal.invariant-loop-place
invariant-loop-place l = (k : ℕ) → k < l.place → HoldsAtPlace (rule_of l.number) l.cells k
