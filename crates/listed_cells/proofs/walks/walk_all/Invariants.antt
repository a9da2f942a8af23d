use Rattle.listed_cells.specs.Listing.{content_of}
use Rattle.listed_cells.proofs.WalkAll.{IsWalkedTo}
use Rattle.listed_cells.proofs.walks.walk_all.Given as goal

abbrev pub invariant-loop-place : goal.invariant-loop-place
invariant-loop-place l = IsWalkedTo (content_of l.cells) l.ids l.cells l.place l.edges.items l.marks.items
