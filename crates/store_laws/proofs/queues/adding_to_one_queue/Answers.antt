use Rattle.store_laws.proofs.cells.AfterEdits.{record_edit_queues, nonce_edit_queues}
use Rattle.store_laws.proofs.steps.Growing.{doc_grows, entry_grows}
use Rattle.store_laws.proofs.queues.adding_to_one_queue.Goals as goal

pub returns : goal.returns
returns c = record {
  docs = doc_grows;
  entries = λ c key token s alone. entry_grows c key token s alone;
  records = λ c id e. record { same = (record_edit_queues c id e).queues };
  nonce = λ c e. record { same = (nonce_edit_queues c e).queues };
}
