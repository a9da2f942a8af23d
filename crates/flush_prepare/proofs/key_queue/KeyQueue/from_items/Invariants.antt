use Rattle.std.proofs.Common.{◌≡◌, ◌++◌, length, reverse}
use Rattle.flush_prepare.proofs.key_queue.KeyQueue.from_items.Given as goal

abbrev pub invariant-loop-key : goal.invariant-loop-key
invariant-loop-key l = l.fn.keys ≡ l.keys ++ reverse l.stack

abbrev pub decreases-loop-key : goal.decreases-loop-key
decreases-loop-key l = length l.keys
