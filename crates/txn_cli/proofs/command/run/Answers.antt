use Rattle.std.proofs.Common.{ℕ, List, Option, Result, Ok, Err, Some, refl, sym, ap, ◌∙◌, subst, arith}
use Rattle.txn_io.specs.declared.lines.LineFault.{LineFault}
use Rattle.txn_io.specs.Unread.{unread}
use Rattle.store_laws.proofs.trails.CallsMade.{calls_none, calls_then, rose_before}
use Rattle.txn_play.specs.Sessions.{at}
use Rattle.txn_cli.specs.Call.{held, start, taken}
use Rattle.txn_cli.specs.Faults.{refusal_in_stop}
use Rattle.txn_cli.specs.Output.{writing}
use Rattle.txn_cli.proofs.Caused.{MayRefuseBy, caused_stop, caused_unread, end_by, line_by}
use Rattle.txn_cli.proofs.Beginning.{begins_come, begins_refused, begins_stands, begins_stopped, look_fault}
use Rattle.txn_cli.proofs.Coming.{comes_further, next_is, next_to, reads_on}
use Rattle.txn_cli.proofs.Spending.{suffices_at}
use Rattle.txn_cli.proofs.Stopping.{plays_out, stops_end, stops_line, stops_refused, unspent_enough}
use Rattle.txn_cli.proofs.command.run.Goals as goal

-- ---- other words

pub returns-then-not-is_run-clause-stopped : goal.returns-then-not-is_run-clause-stopped
returns-then-not-is_run-clause-stopped g c = λ src told.
    begins_refused (taken (g.I.Source.rest c.args.input.now) (g.I.Source.rest c.args.input.now)) (start g.S.Store c.args.session.now.store) (held g.S.Store c.args.session.now.store c.args.session.now.runs.items) (writing g.O.Sink c.args.output.now c.args.output.now)
    refl (omega arith) (g.met.S.Store.present c.args.session.now.store told) refl c.requires.begins.runs

-- ---- the first look at the store

pub returns-in-Err-clause-stopped : goal.returns-in-Err-clause-stopped
returns-in-Err-clause-stopped g c = λ src told.
    begins_stopped (taken (g.I.Source.rest c.args.input.now) (g.I.Source.rest c.args.input.now)) (start g.S.Store c.args.session.now.store) (held g.S.Store c.is_empty.new.store c.args.session.now.runs.items) (writing g.O.Sink c.args.output.now c.args.output.now)
    refl c.is_empty.ensures.kept.calls.counted ((c.is_empty.ensures.kept.calls.trail told).here ∙ c.is_empty.ensures.same told) (c.is_empty.ensures.same told) c.requires.begins.runs
    c.at_line.result (look_fault c.in-Err.refusal c.at_line.result c.in-Err.ensures.kept.other c.at_line.ensures)

pub loop-done-init : goal.loop-done-init
loop-done-init g c = rw c.new-lines.ensures (record {
  counted = omega arith;
  within = omega arith;
  unrefused = refl;
  output_later = omega arith;
  input_later = omega arith;
  made = c.is_empty.ensures.kept.calls;
  read = λ src. record { there = tt; rest = refl; taken = refl };
  stands = λ told. begins_stands g.S.Store c.args.session.now (record { store = c.is_empty.new.store; runs = c.args.session.now.runs; batch = c.args.session.now.batch; begun = c.args.session.now.begun; documents_alone = c.in-Ok.answer })
      c.requires.begins (λ alone. sym (c.in-Ok.ensures.answer told) ∙ alone) (c.in-Ok.ensures.same told) refl refl refl;
  come = λ src told. begins_come g.S.Store c.args.session.now (record { store = c.is_empty.new.store; runs = c.args.session.now.runs; batch = c.args.session.now.batch; begun = c.args.session.now.begun; documents_alone = c.in-Ok.answer })
      c.requires.begins (g.I.Source.rest c.args.input.now) (record { taken = 0; left = g.I.Source.rest c.args.input.now }) (writing g.O.Sink c.args.output.now c.args.output.now) refl refl refl
      c.is_empty.ensures.kept.calls.counted (c.is_empty.ensures.kept.calls.trail told).here (c.in-Ok.ensures.same told) (c.in-Ok.ensures.answer told) refl refl refl;
})

-- ---- a line

pub loop-done-preserved : goal.loop-done-preserved
loop-done-preserved g c =
    let more = rw c.in-Ok-Some.field-0-is at c.in-Ok-Some.ensures.more in
    let it = c.loop-done.invariant in
    let played = c.in-Ok-play_line.ensures in
    record {
      counted = omega (arith, more refl, it.counted);
      within = c.in-Ok-Some.ensures.within;
      unrefused = c.in-Ok-Some.ensures.standing.1;
      output_later = omega (arith, it.output_later, played.kept.output.later);
      input_later = omega (arith, it.input_later, c.in-Ok-Some.ensures.kept.later);
      made = calls_then _ _ _ _ it.made played.kept.session.calls;
      read = λ src. reads_on _ _ _ _ _ (it.read src) (rw c.in-Ok-Some.field-0-is at (c.in-Ok-Some.ensures.done src));
      stands = played.kept.session.stands;
      come = λ src told.
          comes_further g.S.Store (g.I.Source.rest c.args.input.now) (start g.S.Store c.args.session.now.store) c.loop-done.done (unread g.I.Source c.loop-done.lines c.loop-done.input) g.O.Sink.tells (g.O.Sink.written c.args.output.now)
          (g.S.Store.trail c.loop-done.session.store) c.in-Ok-Some.line.items c.loop-done.session c.play_line.new.session (unread g.I.Source c.next.new.self c.next.new.source) (g.O.Sink.written c.loop-done.output) (g.O.Sink.written c.play_line.new.output)
          (played.kept.session.calls.trail told).before (played.kept.session.calls.trail told).here (it.come src told) (rw c.in-Ok-Some.field-0-is at (c.in-Ok-Some.ensures.done src)) (rw c.as_slice.ensures.value at (played.done told));
    }

pub returns-in-Err-play_line-clause-stopped : goal.returns-in-Err-play_line-clause-stopped
returns-in-Err-play_line-clause-stopped g c = λ src told.
    let it = c.loop-done.invariant in
    let come = it.come src told in
    let played = c.in-Err-play_line.ensures in
    let read = rw c.in-Ok-Some.field-0-is at (c.in-Ok-Some.ensures.done src) in
    stops_line g.S.Store (g.I.Source.rest c.args.input.now) (g.I.Source.rest c.next.new.source) (start g.S.Store c.args.session.now.store) c.loop-done.done (unread g.I.Source c.loop-done.lines c.loop-done.input) g.O.Sink.tells (g.O.Sink.written c.args.output.now)
    c.loop-done.session c.play_line.new.session (g.O.Sink.written c.loop-done.output) (g.O.Sink.written c.play_line.new.output) c.in-Ok-Some.line.items (g.S.Store.trail c.loop-done.session.store)
    (played.kept.session.calls.trail told).before played.kept.session.calls.counted come
    (next_is _ (g.S.Store.trail c.loop-done.session.store) (start g.S.Store c.args.session.now.store) c.loop-done.done (at g.S.Store c.loop-done.session) come.answers _ (unread g.I.Source c.next.new.self c.next.new.source) (Some c.in-Ok-Some.line.items) come.at read)
    c.in-Err-play_line.stop c.at_line-in-Err-play_line.result c.at_line-in-Err-play_line.ensures
    (unspent_enough g.S.Store c.loop-done.session c.play_line.new.session (refusal_in_stop c.in-Err-play_line.stop) told
    (suffices_at _ _ (g.S.Store.content c.args.session.now.store) (g.S.Store.calls c.args.session.now.store) _ _ _ come.at.plays (omega (arith, it.counted, it.within))) played.kept.caused)
    (rw c.as_slice.ensures.value at (played.stopped told))

pub returns-in-Err-play_line-clause-caused : goal.returns-in-Err-play_line-clause-caused
returns-in-Err-play_line-clause-caused g c =
    let it = c.loop-done.invariant in
    let played = c.in-Err-play_line.ensures in
    caused_stop g.S.Store g.I.Source _ c.args.input.now c.loop-done.done c.args.session.now.store c.play_line.new.session _ _ (λ src. (it.read src).there) c.loop-done.session _ it.made it.output_later c.in-Err-play_line.stop _ c.at_line-in-Err-play_line.ensures
    (λ src. subst (λ (r : Result (Option (List ℕ)) LineFault). MayRefuseBy r c.in-Err-play_line.stop)
    (sym (next_to (g.I.Source.rest c.args.input.now) c.loop-done.done (unread g.I.Source c.loop-done.lines c.loop-done.input) _ (it.read src) (rw c.in-Ok-Some.field-0-is at (c.in-Ok-Some.ensures.done src)).line))
    (line_by c.in-Ok-Some.line.items c.in-Err-play_line.stop (rw c.as_slice.ensures.value at played.may)))
    played.kept.caused (λ e. played.kept.output.fault (ap Err e))

-- ---- the end of the input

pub returns-in-Ok-run_waiting-clause-played : goal.returns-in-Ok-run_waiting-clause-played
returns-in-Ok-run_waiting-clause-played g c = λ src told.
    let it = c.loop-done.invariant in
    let out = c.in-Ok-run_waiting.ensures in
    let read = rw c.in-Ok-None.field-0-is at (c.in-Ok-None.ensures.done src) in
    plays_out g.S.Store (g.I.Source.rest c.args.input.now) (g.I.Source.rest c.next.new.source) (start g.S.Store c.args.session.now.store) c.loop-done.done (unread g.I.Source c.loop-done.lines c.loop-done.input) (unread g.I.Source c.next.new.self c.next.new.source) g.O.Sink.tells (g.O.Sink.written c.args.output.now)
    c.loop-done.session c.run_waiting.new.session (g.O.Sink.written c.loop-done.output) (g.O.Sink.written c.run_waiting.new.output) (g.S.Store.trail c.loop-done.session.store)
    (out.kept.session.calls.trail told).before out.kept.session.calls.counted (it.come src told) read (Ok c.in-Ok-run_waiting.field-0) (out.kept.session.calls.trail told).here (out.done told) out.cleared

pub returns-in-Err-run_waiting-clause-stopped : goal.returns-in-Err-run_waiting-clause-stopped
returns-in-Err-run_waiting-clause-stopped g c = λ src told.
    let it = c.loop-done.invariant in
    let come = it.come src told in
    let out = c.in-Err-run_waiting.ensures in
    let read = rw c.in-Ok-None.field-0-is at (c.in-Ok-None.ensures.done src) in
    stops_end g.S.Store (g.I.Source.rest c.args.input.now) (g.I.Source.rest c.next.new.source) (start g.S.Store c.args.session.now.store) c.loop-done.done (unread g.I.Source c.loop-done.lines c.loop-done.input) (unread g.I.Source c.next.new.self c.next.new.source) g.O.Sink.tells (g.O.Sink.written c.args.output.now)
    c.loop-done.session c.run_waiting.new.session (g.O.Sink.written c.loop-done.output) (g.O.Sink.written c.run_waiting.new.output) (g.S.Store.trail c.loop-done.session.store)
    (out.kept.session.calls.trail told).before out.kept.session.calls.counted come read
    c.in-Err-run_waiting.stop c.at_line-in-Err-run_waiting.result c.at_line-in-Err-run_waiting.ensures
    (unspent_enough g.S.Store c.loop-done.session c.run_waiting.new.session (refusal_in_stop c.in-Err-run_waiting.stop) told
    (suffices_at _ _ (g.S.Store.content c.args.session.now.store) (g.S.Store.calls c.args.session.now.store) _ _ _ come.at.plays (omega (arith, it.counted, it.within))) out.kept.caused)
    out.against (out.left told)

pub returns-in-Err-run_waiting-clause-caused : goal.returns-in-Err-run_waiting-clause-caused
returns-in-Err-run_waiting-clause-caused g c =
    let it = c.loop-done.invariant in
    let out = c.in-Err-run_waiting.ensures in
    caused_stop g.S.Store g.I.Source _ c.args.input.now c.loop-done.done c.args.session.now.store c.run_waiting.new.session _ _ (λ src. (it.read src).there) c.loop-done.session _ it.made it.output_later c.in-Err-run_waiting.stop _ c.at_line-in-Err-run_waiting.ensures
    (λ src. subst (λ (r : Result (Option (List ℕ)) LineFault). MayRefuseBy r c.in-Err-run_waiting.stop)
    (sym (next_to (g.I.Source.rest c.args.input.now) c.loop-done.done (unread g.I.Source c.loop-done.lines c.loop-done.input) _ (it.read src) (rw c.in-Ok-None.field-0-is at (c.in-Ok-None.ensures.done src)).line))
    (end_by (at g.S.Store c.loop-done.session) c.in-Err-run_waiting.stop out.against))
    out.kept.caused (λ e. out.kept.output.fault (ap Err e))

-- ---- a line isn't read

pub returns-in-Err-next-clause-stopped : goal.returns-in-Err-next-clause-stopped
returns-in-Err-next-clause-stopped g c = λ src told.
    let it = c.loop-done.invariant in
    stops_refused g.S.Store g.I.Source (g.I.Source.rest c.args.input.now) (start g.S.Store c.args.session.now.store) c.loop-done.done (unread g.I.Source c.loop-done.lines c.loop-done.input) c.loop-done.session (writing g.O.Sink c.args.output.now c.loop-done.output)
    c.loop-done.input c.next.new.source (it.come src told) src c.in-Err-next.fault c.line_fault.result c.line_fault.ensures (c.in-Err-next.ensures.refused it.unrefused)

pub returns-in-Err-next-clause-caused : goal.returns-in-Err-next-clause-caused
returns-in-Err-next-clause-caused g c =
    let it = c.loop-done.invariant in
    caused_unread _ _ _ _ _ _ c.loop-done.session _ _ (λ src. (it.read src).there) (unread g.I.Source c.loop-done.lines c.loop-done.input) c.loop-done.input c.next.new.source it.read c.in-Err-next.fault _ c.line_fault.ensures
    (c.in-Err-next.ensures.refused it.unrefused) (λ rose. rose_before it.input_later rose)

-- ---- the store's calls go on

pub returns-then-not-is_run-clause-kept : goal.returns-then-not-is_run-clause-kept
returns-then-not-is_run-clause-kept g c = calls_none _ _ (λ told. g.met.S.Store.present _ told)

pub returns-in-Err-play_line-clause-kept : goal.returns-in-Err-play_line-clause-kept
returns-in-Err-play_line-clause-kept g c = calls_then _ _ _ _ c.loop-done.invariant.made c.in-Err-play_line.ensures.kept.session.calls

pub returns-in-Ok-run_waiting-clause-kept : goal.returns-in-Ok-run_waiting-clause-kept
returns-in-Ok-run_waiting-clause-kept g c = calls_then _ _ _ _ c.loop-done.invariant.made c.in-Ok-run_waiting.ensures.kept.session.calls

pub returns-in-Err-run_waiting-clause-kept : goal.returns-in-Err-run_waiting-clause-kept
returns-in-Err-run_waiting-clause-kept g c = calls_then _ _ _ _ c.loop-done.invariant.made c.in-Err-run_waiting.ensures.kept.session.calls
