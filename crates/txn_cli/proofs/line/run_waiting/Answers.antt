use Rattle.std.proofs.Common.{refl, rules, sym, ◌∙◌}
use Rattle.txn_cli.specs.Line.{running}
use Rattle.txn_cli.specs.Output.{writing}
use Rattle.txn_cli.proofs.LineSteps.{kept_still, left_by_write, waits_none}
use Rattle.txn_cli.proofs.line.run_waiting.Goals as goal

pub returns-clause-left : goal.returns-clause-left
returns-clause-left g c = λ told.
    left_by_write g.S.Store running c.args.session.now c.go.new.self (writing g.O.Sink c.args.output.now c.write_answer.new.output) c.in_ok-answer.answer c.write_answer.result
    (record { allowed = c.in_ok-answer.ensures.allowed; waits = search rules; runs = c.in_ok-answer.ensures.done told }) c.write_answer.ensures.kind c.write_answer.ensures.part c.write_answer.ensures.none c.write_answer.ensures.lines

pub returns-then-is_empty-clause-kept : goal.returns-then-is_empty-clause-kept
returns-then-is_empty-clause-kept g c = kept_still _ _ _ _ c.requires.stands (λ told. g.met.S.Store.present _ told)

pub returns-then-is_empty-clause-done : goal.returns-then-is_empty-clause-done
returns-then-is_empty-clause-done g c = λ told. waits_none g.S.Store c.args.session.now (writing g.O.Sink c.args.output.now c.args.output.now) (sym c.is_empty.ensures ∙ c.if-is_empty.true) refl
