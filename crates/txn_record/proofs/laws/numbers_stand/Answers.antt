use Rattle.txn_record.proofs.ChainLaws.{begun_by}
use Rattle.txn_record.proofs.laws.numbers_stand.Goals as goal

pub returns : goal.returns
returns c = begun_by
