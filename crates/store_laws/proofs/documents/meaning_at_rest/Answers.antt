use Rattle.store_laws.proofs.meanings.Resting.{meaning-rest}
use Rattle.store_laws.proofs.documents.meaning_at_rest.Goals as goal

pub returns : goal.returns
returns c = meaning-rest
