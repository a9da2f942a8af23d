use Rattle.std.proofs.Common.{refl, sym, ◌∙◌}
use Rattle.txn_play.specs.Progress.{lets_run}
use Rattle.txn_cli.specs.Output.{writing}
use Rattle.txn_cli.proofs.LineSteps.{kept_still, left_by_first, lets_none}
use Rattle.txn_cli.proofs.line.run_first.Goals as goal

pub returns-then-lets_run-clause-left : goal.returns-then-lets_run-clause-left
returns-then-lets_run-clause-left g c = λ told.
    left_by_first g.S.Store (lets_run c.args.statement.now) c.args.session.now c.run_waiting.new.session (writing g.O.Sink c.args.output.now c.run_waiting.new.output) c.run_waiting.result
    (sym c.lets_run.ensures ∙ c.if-lets_run.true) (c.run_waiting.ensures.left told)

pub returns-else-lets_run-clause-kept : goal.returns-else-lets_run-clause-kept
returns-else-lets_run-clause-kept g c = kept_still _ _ _ _ c.requires.stands (λ told. g.met.S.Store.present _ told)

pub returns-else-lets_run-clause-done : goal.returns-else-lets_run-clause-done
returns-else-lets_run-clause-done g c = λ told. lets_none g.S.Store (lets_run c.args.statement.now) c.args.session.now (writing g.O.Sink c.args.output.now c.args.output.now) (sym c.lets_run.ensures ∙ c.if-lets_run.false) refl
