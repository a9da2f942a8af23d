use Rattle.std.proofs.Common.{◌≡◌, drop, map}
use Rattle.doc_value.specs.declared.value.Value.{out-Value}
use Rattle.cell_text.specs.Parts.{all_read, number_in}
use Rattle.cell_text.proofs.ReadLists.{after_those}
use Rattle.cell_text.proofs.parts.read_numbers.Given as goal

abbrev pub invariant-loop-value : goal.invariant-loop-value
invariant-loop-value l =
    after_those l.numbers (all_read (map (λ value. number_in (out-Value value)) (drop l.value-index l.values)))
    ≡ all_read (map (λ value. number_in (out-Value value)) l.values)
