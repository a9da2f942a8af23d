use Rattle.std.proofs.Common.{rules, ap, ◌∙◌, ◌≡◌}
use Rattle.store_laws.specs.View.{look, held_number}
use Rattle.listed_cells.specs.Listing.{content_of}
use Rattle.listed_cells.proofs.Listings.{held_looked}
use Rattle.listed_cells.proofs.cells.number_at.Goals as goal

pub returns : goal.returns
returns c =
    let e : c.owner_number.result ≡ held_number ((look (content_of c.args.cells.now)).held_at c.args.key.now) = c.owner_number.ensures ∙ ap held_number (held_looked _ _ _ _ c.doc_at.ensures c.stash_at.ensures) in
    search (rules, e)
