use Rattle.std.proofs.Common.{◌≡◌, ◌++◌, drop}
use Rattle.std.specs.List.{flat_map}
use Rattle.txn_cli.specs.Output.{state_line}
use Rattle.txn_cli.proofs.print.push_states.Given as goal

abbrev pub invariant-loop-it : goal.invariant-loop-it
invariant-loop-it l = l.lines.items ++ flat_map state_line (drop l.it-index l.states) ≡ l.fn.lines.items ++ flat_map state_line l.states
