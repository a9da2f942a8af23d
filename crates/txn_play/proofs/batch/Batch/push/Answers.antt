use Rattle.txn_play.proofs.IndexLaws.{batch_more}
use Rattle.txn_play.proofs.batch.Batch.push.Goals as goal

pub invariant_of-self-2 : goal.invariant_of-self-2
invariant_of-self-2 c = rw (c.in-Ok.ensures.items, c.in_ok-reserve.ensures.items) (batch_more _ _ _ c.args.txn c.self.invariant c.requires.built (λ id. c.in_ok-insert.ensures.updates.0 id))
