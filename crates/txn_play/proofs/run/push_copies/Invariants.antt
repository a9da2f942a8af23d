use Rattle.std.proofs.Common.{◌≡◌, ◌++◌, drop}
use Rattle.txn_play.proofs.run.push_copies.Given as goal

abbrev pub invariant-loop-entry : goal.invariant-loop-entry
invariant-loop-entry l = l.copies ++ drop l.entry-index l.order ≡ l.fn.copies ++ l.order
