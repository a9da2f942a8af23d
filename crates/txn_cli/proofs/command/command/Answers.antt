use Rattle.txn_play.proofs.Runs.{runs_faithful}
use Rattle.txn_cli.specs.Call.{held, start, taken}
use Rattle.txn_cli.specs.Causes.{HasRisen, IsCaused, circumstances, counts, told_script}
use Rattle.txn_cli.specs.Words.{is_grammar}
use Rattle.txn_cli.proofs.Telling.{caused_output, caused_still, refuses_out, told_last}
use Rattle.std.specs.Prelude.{map, string_bytes}
use Rattle.txn_cli.proofs.command.command.Goals as goal

pub returns-in-Ok-clause-runs : goal.returns-in-Ok-clause-runs
returns-in-Ok-clause-runs g c = λ told. runs_faithful _ _ _ (c.run-played.ensures.runs told)

pub returns-in-Err-clause-runs : goal.returns-in-Err-clause-runs
returns-in-Err-clause-runs g c = λ told. runs_faithful _ _ _ (c.run-played.ensures.runs told)

pub returns-in-Err-clause-refused : goal.returns-in-Err-clause-refused
returns-in-Err-clause-refused g c = λ src told.
    let words = is_grammar (map string_bytes c.args.words.now) in
    let input = counts (g.I.Source.faults c.args.input.now) (g.I.Source.faults c.run-played.new.input) in
    refuses_out (IsCaused g.S.Store (circumstances words (told_script g.I.Source c.args.input.now) c.args.store c.run-played.new.session.store input (counts (g.O.Sink.faults c.args.output.now) (g.O.Sink.faults c.tell-fault.new.output))))
    g.O.Sink.tells (g.O.Sink.written c.args.output.now) (g.O.Sink.written c.run-played.new.output) (g.O.Sink.written c.tell-fault.new.output)
    (HasRisen (counts (g.O.Sink.faults c.run-played.new.output) (g.O.Sink.faults c.tell-fault.new.output))) c.in-Err.fault c.tell-fault.result
    (taken (g.I.Source.rest c.args.input.now) (g.I.Source.rest c.run-played.new.input)) (start g.S.Store c.args.store) (held g.S.Store c.run-played.new.session.store c.run-played.new.session.runs.items)
    (c.in-Err.ensures.stopped src told)
    (caused_output g.S.Store words (told_script g.I.Source c.args.input.now) c.args.store c.run-played.new.session.store input _ _ _ c.run-played.ensures.later)
    (λ other. caused_still g.S.Store words (told_script g.I.Source c.args.input.now) c.args.store c.run-played.new.session.store input _ _ _ c.in-Err.fault other c.in-Err.ensures.caused)
    c.tell-fault.ensures.result_is c.tell-fault.ensures.output c.tell-fault.ensures.memory c.tell-fault.ensures.told c.tell-fault.ensures.short c.tell-fault.ensures.cut

pub returns-in-Err-clause-told : goal.returns-in-Err-clause-told
returns-in-Err-clause-told g c = record {
  is = c.status.ensures;
  last = told_last _ _ _ _ c.tell-fault.ensures.told;
}
