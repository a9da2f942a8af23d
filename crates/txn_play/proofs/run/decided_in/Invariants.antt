use Rattle.std.proofs.Common.{◌≡◌, ◌++◌, drop}
use Rattle.txn_play.specs.Progress.{decided_in}
use Rattle.txn_play.proofs.run.decided_in.Given as goal

abbrev pub invariant-loop-run : goal.invariant-loop-run
invariant-loop-run l = l.order ++ decided_in (drop l.run-index l.runs) ≡ decided_in l.runs
