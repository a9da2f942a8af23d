use Rattle.std.proofs.Common.{take}
use Rattle.listed_cells.proofs.TokenSets.{IsSeen}
use Rattle.listed_cells.proofs.tokens.stand_once.Given as goal

abbrev pub invariant-loop-token : goal.invariant-loop-token
invariant-loop-token l = IsSeen l.seen (take l.token-index l.queue)
