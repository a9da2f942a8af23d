use Rattle.txn_audit.proofs.entries.is_sound_at.Goals as goal

pub returns : goal.returns
returns c = rw (c.doc_at.ensures, c.stash_at.ensures) at c.is_sound_if_there.ensures
