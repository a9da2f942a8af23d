use Rattle.store_laws.proofs.steps.DecidingMoves.{free_keys}
use Rattle.store_laws.proofs.meanings.Effects.{meaning-free}
use Rattle.store_laws.proofs.deciding.testing_a_ready_record.Goals as goal

pub returns : goal.returns
returns g = λ c id rec key sound there from ready on. meaning-free c sound.kinds key (free_keys c id rec sound there from ready key on)
