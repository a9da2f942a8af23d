use Rattle.std.proofs.Common.{drop}
use Rattle.txn_play.specs.Batches.{IsSubmittingBatch}
use Rattle.txn_play.proofs.settling.submit_all.Given as goal

abbrev pub invariant-loop-txn : goal.invariant-loop-txn
invariant-loop-txn g l = IsSubmittingBatch g.S.Store l.fn.store l.store l.batch (drop l.txn-index l.batch)
