use Rattle.txn_key.proofs.KeyOrder.{key_cmp_total, key_cmp-IsAntisymmetric}
use Rattle.txn_key.proofs.key.keys_are_ordered.Goals as goal

pub returns : goal.returns
returns c = record { total = key_cmp_total; same = key_cmp-IsAntisymmetric }
