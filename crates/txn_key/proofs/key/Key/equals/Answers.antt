use Rattle.txn_key.proofs.KeyOrder.{equal_keys}
use Rattle.txn_key.proofs.key.Key.equals.Goals as goal

pub returns : goal.returns
returns c = equal_keys _ _ _ _ c.compare.ensures c.eq.ensures
