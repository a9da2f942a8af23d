use Rattle.store_laws.proofs.steps.DocEdits.{add_quiet}
use Rattle.store_laws.proofs.steps.Known.{added_waits_or_behind}
use Rattle.store_laws.proofs.queueing.adding_a_token.Goals as goal

pub returns : goal.returns
returns c = record { quiet = add_quiet; waits = added_waits_or_behind }
