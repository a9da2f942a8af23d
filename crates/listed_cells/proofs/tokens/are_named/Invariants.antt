use Rattle.std.proofs.Common.{drop}
use Rattle.store_laws.specs.View.{look}
use Rattle.listed_cells.specs.Listing.{content_of}
use Rattle.listed_cells.specs.Tokens.{AllNamed}
use Rattle.listed_cells.proofs.tokens.are_named.Given as goal

abbrev pub invariant-loop-token : goal.invariant-loop-token
invariant-loop-token l = AllNamed (look (content_of l.cells)) l.key (drop l.token-index l.queue) → AllNamed (look (content_of l.cells)) l.key l.queue
