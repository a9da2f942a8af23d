use Rattle.txn_record.proofs.SameRecords.{record-Decides}
use Rattle.txn_record.proofs.equality.same_record_is_equality.Goals as goal

pub returns : goal.returns
returns c = record-Decides
