use Rattle.store_laws.proofs.chains.Reaching.{reached_in_turn}
use Rattle.store_laws.proofs.steps.UpdateEdits.{update_quiet, update_passes}
use Rattle.store_laws.proofs.settling.updating_a_document.Goals as goal

pub returns : goal.returns
returns g = record {
  quiet = update_quiet;
  passes = λ c id rec op revno update nonce sound applies drawn reached. update_passes c sound id rec op revno update applies reached nonce drawn;
  reached = reached_in_turn;
}
