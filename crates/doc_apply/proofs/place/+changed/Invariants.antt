use Rattle.std.proofs.Common.{length}
use Rattle.doc_apply.proofs.place.+changed.Given as goal

abbrev pub decreases-changed : goal.decreases-changed
decreases-changed l = length l.parts.now
