use Rattle.store_laws.specs.View.{look}
use Rattle.store_laws.proofs.steps.Known.{still_later, was_applying}
use Rattle.store_laws.proofs.views.Lost.{still_there}
use Rattle.store_laws.proofs.knowing.records_last.Goals as goal

pub returns : goal.returns
unfolding look
returns g = record { there = λ c id rec there. still_there id rec there; still = still_later; applying = was_applying }
