use Rattle.store_laws.proofs.steps.Closing.{close_quiet}
use Rattle.store_laws.proofs.settling.closing_an_applied_record.Goals as goal

pub returns : goal.returns
returns g = close_quiet
