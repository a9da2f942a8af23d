use Rattle.store_laws.proofs.steps.DecidingMoves.{abort_decides}
use Rattle.store_laws.proofs.deciding.deciding_to_abort.Goals as goal

pub returns : goal.returns
returns g = abort_decides
