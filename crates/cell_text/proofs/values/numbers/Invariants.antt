use Rattle.std.proofs.Common.{◌≡◌, ◌++◌, drop, map}
use Rattle.doc_value.specs.declared.value.Value.{Int}
use Rattle.cell_text.proofs.values.numbers.Given as goal

abbrev pub invariant-loop-number : goal.invariant-loop-number
invariant-loop-number l = l.values ++ map Int (drop l.number-index l.list) ≡ map Int l.list
