use Rattle.std.proofs.Common.{◌≡◌, ◌++◌, ◌+◌, drop}
use Rattle.txn_cli.specs.Output.{order_text}
use Rattle.txn_cli.proofs.print.push_order.Given as goal

abbrev pub invariant-loop-index : goal.invariant-loop-index
invariant-loop-index l = l.lines.items ++ order_text (l.index + 1) (drop l.index l.entries) ≡ l.fn.lines.items ++ order_text 1 l.entries
