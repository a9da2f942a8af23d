use Rattle.store_laws.specs.View.{look}
use Rattle.store_laws.proofs.chains.Done.{passed_later, all_passed_later}
use Rattle.store_laws.proofs.steps.Known.{passed_while_applying, passed_if_applied_later}
use Rattle.store_laws.proofs.knowing.passing_lasts.Goals as goal

pub returns : goal.returns
returns g = record {
  passed = λ c d op revno step. passed_later (look c) (look d) step.done.forward op revno;
  all = λ c d ops revnos step. all_passed_later (look c) (look d) step.done.forward ops revnos;
  applying = passed_while_applying;
  applied = passed_if_applied_later;
}
