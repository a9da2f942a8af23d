use Rattle.txn_cli.specs.Line.{performing}
use Rattle.txn_cli.specs.Output.{writing}
use Rattle.txn_cli.proofs.LineSteps.{left_by_write}
use Rattle.txn_cli.proofs.line.play_statement.Goals as goal

pub returns-clause-left : goal.returns-clause-left
returns-clause-left g c = λ told.
    left_by_write g.S.Store (performing c.args.statement) c.args.session.now c.perform.new.self (writing g.O.Sink c.args.output.now c.write_answer.new.output) c.in_ok-answer.answer c.write_answer.result
    (c.in_ok-answer.ensures.done told) c.write_answer.ensures.kind c.write_answer.ensures.part c.write_answer.ensures.none c.write_answer.ensures.lines
