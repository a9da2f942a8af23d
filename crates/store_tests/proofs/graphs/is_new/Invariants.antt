use Rattle.std.proofs.Common.{◌≢◌, ℕ, ◌<◌, get_or}
use Rattle.store_tests.proofs.graphs.is_new.Given as goal
use Rattle.txn_key.specs.declared.id.TxnId.{TxnId}

abbrev pub invariant-loop-k : goal.invariant-loop-k
invariant-loop-k l = (k : ℕ) (d : TxnId) → k < l.k → get_or l.ids k d ≢ get_or l.ids l.at d
