use Rattle.store_laws.proofs.steps.Placing.{place_means}
use Rattle.store_laws.proofs.submitting.placing_a_document.Goals as goal

pub returns : goal.returns
returns c = place_means
