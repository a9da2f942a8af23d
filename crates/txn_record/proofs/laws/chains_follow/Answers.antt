use Rattle.txn_record.proofs.ChainLaws.{follows_found, begins_there, stays_found}
use Rattle.txn_record.proofs.laws.chains_follow.Goals as goal

pub returns : goal.returns
returns c = record { follows = follows_found; begins = begins_there; within = stays_found }
