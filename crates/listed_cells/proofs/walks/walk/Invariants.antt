use Rattle.std.proofs.Common.{take}
use Rattle.store_laws.specs.View.{look}
use Rattle.listed_cells.specs.Listing.{content_of}
use Rattle.listed_cells.proofs.ChainEdges.{IsChaining}
use Rattle.listed_cells.proofs.ChainMarks.{IsMarking}
use Rattle.listed_cells.proofs.walks.walk.Given as goal

abbrev pub invariant-loop-token : goal.invariant-loop-token
invariant-loop-token l = record {
  edges : IsChaining (look (content_of l.cells)) l.ids l.fn.edges.items l.edges.items (take l.token-index l.queue) l.last;
  marks : IsMarking (look (content_of l.cells)) l.ids l.fn.marks.items l.marks.items (take l.token-index l.queue) l.passed;
}
