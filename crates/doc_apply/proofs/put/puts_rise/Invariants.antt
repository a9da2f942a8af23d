use Rattle.std.proofs.Common.{◌≡◌, drop}
use Rattle.doc_apply.specs.Puts.{puts_rise}
use Rattle.doc_apply.proofs.put.puts_rise.Given as goal

abbrev pub invariant-loop-i : goal.invariant-loop-i
invariant-loop-i l = puts_rise (drop l.i l.puts) ≡ puts_rise l.puts
