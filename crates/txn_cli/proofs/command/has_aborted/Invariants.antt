use Rattle.std.proofs.Common.{◌≡◌, drop}
use Rattle.std.specs.List.{list_any}
use Rattle.txn_cli.specs.Outcomes.{is_aborted}
use Rattle.txn_cli.proofs.command.has_aborted.Given as goal

abbrev pub invariant-loop-entry : goal.invariant-loop-entry
invariant-loop-entry l = list_any is_aborted (drop l.entry-index l.order) ≡ list_any is_aborted l.order
