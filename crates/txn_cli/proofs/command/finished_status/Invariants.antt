use Rattle.std.proofs.Common.{◌≡◌, drop}
use Rattle.std.specs.List.{list_any}
use Rattle.txn_cli.specs.Outcomes.{has_aborted}
use Rattle.txn_cli.proofs.command.finished_status.Given as goal

abbrev pub invariant-loop-run : goal.invariant-loop-run
invariant-loop-run l = list_any has_aborted (drop l.run-index l.runs) ≡ list_any has_aborted l.runs
