use Rattle.doc_value.proofs.RoundTrip.{reads_back}
use Rattle.doc_value.proofs.laws.reads_back.Goals as goal

pub returns : goal.returns
returns c = reads_back
