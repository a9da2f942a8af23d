use Rattle.std.proofs.lemmas.Bool.Decides.{same_from_decides}
use Rattle.doc_value.proofs.SameValues.{same-Decides}
use Rattle.doc_value.proofs.value.Value.equals.Goals as goal

pub returns-clause-test : goal.returns-clause-test
returns-clause-test c = same_from_decides _ _ c.are_equal.ensures (same-Decides c.args.self.now c.args.other.now)
