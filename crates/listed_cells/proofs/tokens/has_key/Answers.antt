use Rattle.std.proofs.Common.{sym, true≢false}
use Rattle.store_laws.specs.View.{look}
use Rattle.listed_cells.specs.Listing.{content_of}
use Rattle.listed_cells.proofs.TokenSets.{has_if_on, has_none}
use Rattle.listed_cells.proofs.tokens.has_key.Goals as goal

pub returns-in-Some : goal.returns-in-Some
unfolding look
returns-in-Some c =
    has_if_on (look (content_of c.args.cells.now)) c.args.id.now c.args.key.now c.in-Some.rec.now c.is_on.result (sym c.in-Some.ensures) (rw (← c.as_slice.ensures.list) c.is_on.ensures)

pub returns-in-None : goal.returns-in-None
unfolding look
returns-in-None c =
    (λ e. absurd (true≢false (sym e)), λ h. absurd (has_none (look (content_of c.args.cells.now)) c.args.id.now c.args.key.now (sym c.in-None.ensures) h))
