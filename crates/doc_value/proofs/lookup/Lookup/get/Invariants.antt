use Rattle.std.proofs.Common.{◌≡◌, length, drop}
use Rattle.doc_value.specs.Paths.{get_at, parts_of}
use Rattle.doc_value.proofs.lookup.Lookup.get.Given as goal

abbrev pub invariant-loop-part : goal.invariant-loop-part
invariant-loop-part l = get_at (drop (length l.yielded) (parts_of l.path)) l.found ≡ get_at (parts_of l.path) l.initial.found
