use Rattle.std.proofs.Common.{ap, ◌∙◌}
use Rattle.store_laws.specs.Held.{body_in}
use Rattle.listed_cells.proofs.Listings.{held_looked}
use Rattle.listed_cells.proofs.cells.body_at.Goals as goal

pub returns : goal.returns
returns c = c.owner_body.ensures ∙ ap body_in (held_looked _ _ _ _ c.doc_at.ensures c.stash_at.ensures)
