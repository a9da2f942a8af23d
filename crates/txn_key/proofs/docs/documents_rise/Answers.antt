use Rattle.txn_key.proofs.RisingKeys.{IsPast-empty, IsPast-insert}
use Rattle.txn_key.proofs.docs.documents_rise.Goals as goal

pub returns : goal.returns
returns c = record { empty = IsPast-empty; push = IsPast-insert }
