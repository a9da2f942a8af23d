use Rattle.std.proofs.Common.{lt_of_lt_of_le}
use Rattle.store_laws.specs.View.{look}
use Rattle.store_laws.proofs.steps.Known.{queued_later, no_doc_later}
use Rattle.store_laws.proofs.knowing.queueing_lasts.Goals as goal

pub returns : goal.returns
unfolding look
returns g = record { counted = λ c d nonce step less. lt_of_lt_of_le less step.later.counter; queued = queued_later; no_doc = no_doc_later }
