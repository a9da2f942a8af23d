use Rattle.store_laws.proofs.cells.AfterEdits.{record_elsewhere, doc_elsewhere, stash_elsewhere, counter_elsewhere}
use Rattle.store_laws.proofs.cells.Local.{edited_there, edited_elsewhere}
use Rattle.store_laws.proofs.edits.edits_are_local.Goals as goal

pub returns : goal.returns
returns c = record { here = edited_there; others = edited_elsewhere; records = record_elsewhere; docs = doc_elsewhere; stashes = stash_elsewhere; counter = counter_elsewhere }
