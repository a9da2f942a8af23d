use Rattle.std.proofs.Common.{drop}
use Rattle.txn_play.specs.Batches.{IsSettlingBatch}
use Rattle.txn_play.proofs.settling.settle_all.Given as goal

abbrev pub invariant-loop-txn : goal.invariant-loop-txn
invariant-loop-txn g l = IsSettlingBatch g.S.Store l.fn.store l.store l.fn.order.items l.order.items l.batch (drop l.txn-index l.batch) l.states
