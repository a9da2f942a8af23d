use Rattle.listed_cells.proofs.Waiting.{doc_owner, stash_owner, no_owner}
use Rattle.listed_cells.proofs.standing.owner_place.Goals as goal

pub returns-in-Document-clause-queue : goal.returns-in-Document-clause-queue
returns-in-Document-clause-queue c = doc_owner _ _ _ c.doc_place.ensures c.in-Document.ensures

pub returns-in-Stash-clause-queue : goal.returns-in-Stash-clause-queue
returns-in-Stash-clause-queue c = stash_owner _ _ _ c.stash_place.ensures c.in-Stash.ensures

pub returns-in-Neither-clause-queue : goal.returns-in-Neither-clause-queue
returns-in-Neither-clause-queue c = no_owner _ _ c.in-Neither.ensures
