use Rattle.std.proofs.Common.{sym}
use Rattle.listed_cells.proofs.Waiting.{in_queues}
use Rattle.listed_cells.proofs.standing.Standing.is_in_queues.Goals as goal

pub returns-in-Some : goal.returns-in-Some
returns-in-Some c = in_queues _ _ _ _ _ c.requires.there c.in-Some.is (sym c.if-is_queued.ensures) c.as_slice.ensures.list c.waits_on_all.ensures
