use Rattle.store_laws.proofs.cells.AfterEdits.{record_edit_queues, nonce_edit_queues, update_queues, place_queues, add_comes, added_waits}
use Rattle.store_laws.proofs.views.AmongSettled.{alone_same, alone_comes, rest_same}
use Rattle.store_laws.proofs.alone.being_alone_lasts.Goals as goal

pub returns : goal.returns
returns c = record {
  records = λ c id t e later. alone_same id later.back (record_edit_queues c t e);
  nonce = λ c id e later. alone_same id later.back (nonce_edit_queues c e);
  updates = λ c id key revno token update none later. alone_same id later.back (update_queues c key none revno token update);
  tokens = λ c key token none later. alone_comes token later.back (add_comes c key none token);
  added = added_waits;
  rests = λ c t e later. rest_same later.back (record_edit_queues c t e);
  places = λ c key body none later. rest_same later.back (place_queues c key body none);
}
