use Rattle.doc_value.proofs.SameValues.{same-Decides}
use Rattle.doc_value.proofs.laws.same_is_equality.Goals as goal

pub returns : goal.returns
returns c = same-Decides
