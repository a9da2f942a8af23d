use Rattle.store_laws.proofs.steps.RecordEdits.{prepare_quiet}
use Rattle.store_laws.proofs.preparing.preparing_a_record.Goals as goal

pub returns : goal.returns
returns g = prepare_quiet
