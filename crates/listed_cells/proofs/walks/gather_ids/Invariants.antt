use Rattle.std.proofs.Common.{◌≡◌, ◌++◌, drop}
use Rattle.listed_cells.specs.Queues.{ids_of}
use Rattle.listed_cells.proofs.walks.gather_ids.Given as goal

abbrev pub invariant-loop-named : goal.invariant-loop-named
invariant-loop-named l = l.ids.items ++ ids_of (drop l.named-index l.cells) ≡ ids_of l.cells
