use Rattle.flush_prepare.proofs.QueueLists.{counted_before}
use Rattle.flush_prepare.proofs.sight.count_before.Goals as goal

pub returns-clause-found : goal.returns-clause-found
returns-clause-found c = counted_before c.args.token.now c.args.queue.now c.place_of.result c.place_of.ensures.place
