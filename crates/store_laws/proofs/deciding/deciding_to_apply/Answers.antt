use Rattle.store_laws.proofs.steps.DecidingMoves.{apply_decides}
use Rattle.store_laws.proofs.deciding.deciding_to_apply.Goals as goal

pub returns : goal.returns
returns g = λ c id rec revnos sound there from ready chain tested. apply_decides c id rec sound there from ready revnos chain tested
