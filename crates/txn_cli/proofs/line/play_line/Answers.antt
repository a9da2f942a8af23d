use Rattle.std.proofs.Common.{Ok, refl, ap, sym, ◌∙◌, arith}
use Rattle.txn_cli.specs.Output.{writing}
use Rattle.txn_cli.proofs.LineSteps.{done_line, enough_first, kept_misread, kept_still, kept_then, skipped_line, stops_then}
use Rattle.txn_cli.proofs.line.play_line.Goals as goal

pub returns-in-Ok-None-clause-done : goal.returns-in-Ok-None-clause-done
returns-in-Ok-None-clause-done g c = λ told. skipped_line g.S.Store c.args.line.now c.args.session.now (writing g.O.Sink c.args.output.now c.args.output.now) refl (sym (c.in-Ok-None.ensures.exact (λ e. cc)) ∙ ap Ok c.in-Ok-None.field-0-is) (g.met.S.Store.present _ told)

pub returns-in_ok-run_first-in-Ok-Some-clause-done : goal.returns-in_ok-run_first-in-Ok-Some-clause-done
returns-in_ok-run_first-in-Ok-Some-clause-done g c = λ told.
    let first = c.in_ok-run_first-in-Ok-Some.ensures in
    let then = c.play_statement.ensures in
    let read = sym (c.in-Ok-Some.ensures.exact (λ e. cc)) ∙ ap Ok c.in-Ok-Some.field-0-is in
    done_line g.S.Store _ c.in-Ok-Some.statement read c.args.session.now c.play_statement.new.session _ (record { session = c.run_first.new.session; written = g.O.Sink.written c.run_first.new.output }) (first.done told) first.kept.session.calls.counted then.kept.session.calls.counted
    ((then.kept.session.calls.trail told).before _ (omega arith) ∙ (first.kept.session.calls.trail told).here) c.play_statement.result (then.done told)

pub returns-in_ok-run_first-in-Ok-Some-clause-stopped : goal.returns-in_ok-run_first-in-Ok-Some-clause-stopped
returns-in_ok-run_first-in-Ok-Some-clause-stopped g c = λ told.
    let first = c.in_ok-run_first-in-Ok-Some.ensures in
    let then = c.play_statement.ensures in
    let read = sym (c.in-Ok-Some.ensures.exact (λ e. cc)) ∙ ap Ok c.in-Ok-Some.field-0-is in
    stops_then g.S.Store _ c.in-Ok-Some.statement read c.args.session.now c.play_statement.new.session _ (record { session = c.run_first.new.session; written = g.O.Sink.written c.run_first.new.output }) (first.done told) first.kept.session.calls.counted then.kept.session.calls.counted
    ((then.kept.session.calls.trail told).before _ (omega arith) ∙ (first.kept.session.calls.trail told).here) c.play_statement.result (then.against told) then.found (then.left told)

pub returns-in_ok-run_first-in-Ok-Some-clause-kept : goal.returns-in_ok-run_first-in-Ok-Some-clause-kept
returns-in_ok-run_first-in-Ok-Some-clause-kept g c =
    let first = c.in_ok-run_first-in-Ok-Some.ensures in
    kept_then g.S.Store c.args.session.now c.run_first.new.session c.play_statement.new.session _ _ _ c.play_statement.result first.kept.session.calls first.kept.output.later
    (λ told. enough_first g.S.Store _ c.args.session.now c.run_first.new.session (first.done told).answer (first.done told).did) c.play_statement.ensures.kept

pub returns-in-Ok-None-clause-kept : goal.returns-in-Ok-None-clause-kept
returns-in-Ok-None-clause-kept g c = kept_still _ _ _ _ c.requires.stands (λ told. g.met.S.Store.present _ told)

pub returns-in-Err-clause-kept : goal.returns-in-Err-clause-kept
returns-in-Err-clause-kept g c = rw c.misread.ensures (kept_misread _ _ _ c.in-Err.why c.requires.stands (λ told. g.met.S.Store.present _ told))
