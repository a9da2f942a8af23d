use Rattle.std.proofs.Common.{option_to_list}
use Rattle.txn_audit.proofs.NonceTests.{below_then, below_else}
use Rattle.txn_audit.proofs.nonces.are_below.Goals as goal

pub returns-then-is_queue_below : goal.returns-then-is_queue_below
returns-then-is_queue_below c =
    below_then c.args.limit c.args.queue.now (option_to_list c.args.mark) _ _ c.is_queue_below.ensures c.if-is_queue_below.true c.is_mark_below.ensures

pub returns-else-is_queue_below : goal.returns-else-is_queue_below
returns-else-is_queue_below c =
    below_else c.args.limit c.args.queue.now (option_to_list c.args.mark) _ c.is_queue_below.ensures c.if-is_queue_below.false
