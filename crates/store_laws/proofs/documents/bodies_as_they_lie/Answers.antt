use Rattle.store_laws.proofs.meanings.Resting.{get-plain, only_plain}
use Rattle.store_laws.proofs.documents.bodies_as_they_lie.Goals as goal

pub returns : goal.returns
returns c = record { body = get-plain; only = only_plain }
