use Rattle.std.proofs.Common.{take}
use Rattle.listed_cells.specs.Standing.{IsSetOf}
use Rattle.listed_cells.proofs.standing.set_of.Given as goal

abbrev pub invariant-loop-token : goal.invariant-loop-token
invariant-loop-token l = IsSetOf (take l.token-index l.queue) l.tokens
