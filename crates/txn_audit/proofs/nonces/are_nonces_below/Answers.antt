use Rattle.txn_audit.proofs.nonces.are_nonces_below.Goals as goal

pub returns-in-Doc : goal.returns-in-Doc
returns-in-Doc c = rw (c.in-Doc.is, ← c.as_slice.ensures) c.are_below.ensures

pub returns-in-Stash : goal.returns-in-Stash
returns-in-Stash c = rw (c.in-Stash.is, ← c.as_slice-in-Stash.ensures) c.are_below-in-Stash.ensures
