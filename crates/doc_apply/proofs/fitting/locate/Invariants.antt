use Rattle.std.proofs.Common.{◌≡◌, drop, length, Some}
use Rattle.doc_value.specs.Paths.{parts_of}
use Rattle.doc_apply.specs.Fit.{located}
use Rattle.doc_apply.proofs.fitting.locate.Given as goal

abbrev pub invariant-loop-part : goal.invariant-loop-part
invariant-loop-part l = located (drop (length l.yielded) (parts_of l.path)) l.found ≡ located (parts_of l.path) (Some l.body)
