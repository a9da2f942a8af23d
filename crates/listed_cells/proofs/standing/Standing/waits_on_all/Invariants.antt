use Rattle.std.proofs.Common.{take}
use Rattle.store_laws.specs.View.{look}
use Rattle.listed_cells.specs.Listing.{content_of}
use Rattle.listed_cells.specs.Standing.{AllWait}
use Rattle.listed_cells.proofs.standing.Standing.waits_on_all.Given as goal

abbrev pub invariant-loop-op : goal.invariant-loop-op
invariant-loop-op l = AllWait (look (content_of l.cells)) l.token (take l.op-index l.ops)
