use Rattle.store_laws.proofs.steps.RecordEdits.{end_quiet}
use Rattle.store_laws.proofs.settling.closing_an_aborted_record.Goals as goal

pub returns : goal.returns
returns g = end_quiet
