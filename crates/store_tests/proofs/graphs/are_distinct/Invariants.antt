use Rattle.std.proofs.Common.{◌≢◌, ℕ, ◌<◌, get_or}
use Rattle.store_tests.proofs.graphs.are_distinct.Given as goal
use Rattle.txn_key.specs.declared.id.TxnId.{TxnId}

abbrev pub invariant-loop-at : goal.invariant-loop-at
invariant-loop-at l = (j k : ℕ) (d : TxnId) → j < k → k < l.at → get_or l.ids j d ≢ get_or l.ids k d
