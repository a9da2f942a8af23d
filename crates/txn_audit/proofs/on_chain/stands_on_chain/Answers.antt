use Rattle.store_laws.specs.View.{look}
use Rattle.txn_audit.proofs.OnChains.{chain_tested}
use Rattle.txn_audit.proofs.on_chain.stands_on_chain.Goals as goal
use Rattle.listed_cells.specs.Listing.{content_of}

pub returns : goal.returns
returns c =
    chain_tested (look (content_of c.args.cells.now)) c.args.rec.now c.all_on_chain.result
    (rw (c.as_slice.ensures.list, c.numbers_of.ensures) at c.all_on_chain.ensures)
