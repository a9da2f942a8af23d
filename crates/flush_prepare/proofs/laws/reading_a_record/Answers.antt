use Rattle.flush_prepare.proofs.Records.{stored_now, stored_since}
use Rattle.flush_prepare.proofs.laws.reading_a_record.Goals as goal

pub returns : goal.returns
returns c = record { now = stored_now; later = stored_since }
