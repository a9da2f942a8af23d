use Rattle.store_laws.proofs.steps.Nonces.{move_comes, insert_nonces, doc_nonces, stash_nonces, draw_nonces}
use Rattle.store_laws.proofs.queueing.nonces_are_given.Goals as goal

pub returns : goal.returns
returns c = record { moved = move_comes; inserted = insert_nonces; docs = doc_nonces; stashes = stash_nonces; drawn = draw_nonces }
