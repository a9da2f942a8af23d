use Rattle.store_trait.proofs.NameOrder.{name_cmp_total, name_cmp-IsAntisymmetric}
use Rattle.store_trait.proofs.name.names_are_ordered.Goals as goal

pub returns : goal.returns
returns c = record { total = name_cmp_total; same = name_cmp-IsAntisymmetric }
