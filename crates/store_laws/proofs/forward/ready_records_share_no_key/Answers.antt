use Rattle.store_laws.proofs.views.Exclusive.{never_both, one_applying, none_applying}
use Rattle.store_laws.proofs.views.Orderly.{orderly}
use Rattle.store_laws.proofs.forward.ready_records_share_no_key.Goals as goal

pub returns : goal.returns
returns c = record {
  queued = λ c key t u sound. never_both (orderly c sound) key t u;
  applying = λ c key t u sound. one_applying (orderly c sound) key t u;
  undecided = λ c key t u sound. none_applying (orderly c sound) key t u;
}
