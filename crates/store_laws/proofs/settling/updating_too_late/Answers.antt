use Rattle.store_laws.proofs.steps.Late.{late_quiet, late_alone}
use Rattle.store_laws.proofs.settling.updating_too_late.Goals as goal

pub returns : goal.returns
returns g = record {
  quiet = λ c op revno waiting update sound. late_quiet c sound op revno waiting update;
  alone = λ c op revno waiting update sound. late_alone c sound op revno waiting update;
}
