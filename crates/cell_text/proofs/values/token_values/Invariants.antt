use Rattle.std.proofs.Common.{◌≡◌, ◌++◌, drop, map}
use Rattle.cell_text.specs.Values.{token_value}
use Rattle.cell_text.proofs.values.token_values.Given as goal

abbrev pub invariant-loop-token : goal.invariant-loop-token
invariant-loop-token l = l.values ++ map token_value (drop l.token-index l.tokens) ≡ map token_value l.tokens
