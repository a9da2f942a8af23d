use Rattle.std.proofs.Common.{◌≡◌, drop}
use Rattle.doc_apply.specs.Puts.{names_rise}
use Rattle.doc_apply.proofs.put.names_rise.Given as goal

abbrev pub invariant-loop-i : goal.invariant-loop-i
invariant-loop-i l = names_rise (drop l.i l.fields) ≡ names_rise l.fields
