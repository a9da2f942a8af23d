use Rattle.std.proofs.Common.{◌≡◌, drop, map}
use Rattle.doc_value.specs.declared.value.Value.{out-Value}
use Rattle.cell_text.specs.Parts.{all_read, token_in}
use Rattle.cell_text.proofs.ReadLists.{after_those}
use Rattle.cell_text.proofs.parts.read_tokens.Given as goal

abbrev pub invariant-loop-value : goal.invariant-loop-value
invariant-loop-value l =
    after_those l.tokens (all_read (map (λ value. token_in (out-Value value)) (drop l.value-index l.values)))
    ≡ all_read (map (λ value. token_in (out-Value value)) l.values)
