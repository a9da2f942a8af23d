use Rattle.std.proofs.Common.{take}
use Rattle.listed_cells.specs.Standing.{AreQueues}
use Rattle.listed_cells.proofs.standing.Standing.new.Given as goal

abbrev pub invariant-loop-named : goal.invariant-loop-named
invariant-loop-named l = AreQueues (take l.named-index l.cells) l.queues.items
