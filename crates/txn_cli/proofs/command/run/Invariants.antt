use Rattle.txn_cli.proofs.Coming.{IsReading}
use Rattle.txn_cli.proofs.command.run.Given as goal

abbrev pub invariant-loop-done : goal.invariant-loop-done
invariant-loop-done g l = IsReading g.S.Store g.I.Source g.O.Sink l.fn.session l.session l.fn.input l.input l.fn.output l.output l.lines l.done
