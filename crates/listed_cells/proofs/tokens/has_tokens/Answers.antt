use Rattle.listed_cells.proofs.tokens.has_tokens.Goals as goal

pub returns-in-Doc-Doc : goal.returns-in-Doc-Doc
returns-in-Doc-Doc c = rw (c.in-Doc-Doc.is-0, c.in-Doc-Doc.is-1, ← c.as_slice.ensures) c.are_sound.ensures

pub returns-in-Stash-Stash : goal.returns-in-Stash-Stash
returns-in-Stash-Stash c = rw (c.in-Stash-Stash.is-0, c.in-Stash-Stash.is-1, ← c.as_slice-in-Stash-Stash.ensures) c.are_sound-in-Stash-Stash.ensures
