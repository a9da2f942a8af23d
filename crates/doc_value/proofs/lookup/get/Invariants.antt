use Rattle.std.proofs.Common.{◌≡◌, drop}
use Rattle.doc_value.specs.Paths.{get_at}
use Rattle.doc_value.proofs.lookup.get.Given as goal

abbrev pub invariant-loop-part : goal.invariant-loop-part
invariant-loop-part l = get_at (drop l.part-index l.part-items) l.found ≡ get_at l.part-items l.initial.found
