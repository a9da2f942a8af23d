use Rattle.txn_record.proofs.ReadBack.{ops_again}
use Rattle.txn_record.proofs.laws.operations_read_back.Goals as goal

pub returns : goal.returns
returns c = ops_again
