use Rattle.std.proofs.Common.{◌≡◌, ◌++◌, drop}
use Rattle.std.specs.List.{flat_map}
use Rattle.txn_script.specs.Texts.{cell_line}
use Rattle.txn_cli.proofs.print.push_cells.Given as goal

abbrev pub invariant-loop-named : goal.invariant-loop-named
invariant-loop-named l = l.lines.items ++ flat_map cell_line (drop l.named-index l.cells) ≡ l.fn.lines.items ++ flat_map cell_line l.cells
