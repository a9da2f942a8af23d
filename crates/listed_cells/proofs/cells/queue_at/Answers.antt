use Rattle.std.proofs.Common.{◌∙◌}
use Rattle.listed_cells.proofs.Listings.{queue_looked}
use Rattle.listed_cells.proofs.cells.queue_at.Goals as goal

pub returns : goal.returns
returns c = c.owner_queue.ensures ∙ queue_looked _ _ _ _ c.doc_at.ensures c.stash_at.ensures
