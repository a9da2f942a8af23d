use Rattle.std.proofs.Common.{refl}
use Rattle.store_laws.specs.View.{look}
use Rattle.store_laws.proofs.holding.owning_a_key.Goals as goal

pub returns : goal.returns
unfolding look
returns c = record { queue = λ c key. refl; held = λ c key. refl }
