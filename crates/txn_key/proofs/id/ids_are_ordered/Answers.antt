use Rattle.txn_key.proofs.KeyOrder.{id_cmp_total, id_cmp-IsAntisymmetric}
use Rattle.txn_key.proofs.id.ids_are_ordered.Goals as goal

pub returns : goal.returns
returns c = record { total = id_cmp_total; same = id_cmp-IsAntisymmetric }
