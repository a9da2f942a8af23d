-- The owner of a key with no stash entry.
use Rattle.std.proofs.Common.{◌≡◌, Some, None, [], ap₂}
use Rattle.txn_key.specs.declared.key.Key.{Key}
use Rattle.store_trait.specs.Contents.{Content}
use Rattle.store_laws.specs.View.{Body, look, doc_at, stash_at, owner_queue, owner_held}
use Rattle.store_trait.specs.declared.cell.DocCell.{DocCell}

pub doc_queue_alone : (c : Content) (key : Key) (doc : DocCell) → doc_at c key ≡ Some doc → stash_at c key ≡ None → (look c).queue_at key ≡ doc.queue
unfolding look
doc_queue_alone c key doc there none = ap₂ owner_queue there none

pub doc_held_alone : (c : Content) (key : Key) (doc : DocCell) → doc_at c key ≡ Some doc → stash_at c key ≡ None → (look c).held_at key ≡ Body doc.revno doc.body
unfolding look
doc_held_alone c key doc there none = ap₂ owner_held there none

pub queue_of_none : (c : Content) (key : Key) → doc_at c key ≡ None → stash_at c key ≡ None → (look c).queue_at key ≡ []
unfolding look
queue_of_none c key absent none = ap₂ owner_queue absent none
