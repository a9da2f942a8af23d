use Rattle.std.proofs.Common.{◌∙◌}
use Rattle.txn_play.proofs.batch.Batch.has.Goals as goal

pub returns : goal.returns
returns c = rw (← c.self.view_is) (c.contains.ensures ∙ c.self.invariant.index.has c.args.id.0)
