use Rattle.store_laws.proofs.trails.CallsMade.{calls_none, calls_then}
use Rattle.txn_play.proofs.Causing.{causes_before}
use Rattle.std.proofs.Common.{[], true, refl, sym, ap, ◌∙◌, subst}
use Rattle.std.proofs.lemmas.Result.{err_from_is_err_and}
use Rattle.txn_audit.specs.Audits.{PassesAudit}
use Rattle.txn_play.proofs.Attending.{reading_reason, reading_unspent, reading_cause}
use Rattle.store_laws.specs.Meaning.{meaning}
use Rattle.txn_play.proofs.BatchRuns.{if_ok, batch_runs, batch_done, batch_left, stays_left}
use Rattle.txn_play.proofs.OnlyReading.{runs_only_read}
use Rattle.txn_play.proofs.Causing.{run_unspent}
use Rattle.txn_play.proofs.settling.run_batch.Goals as goal

pub returns-clause-runs : goal.returns-clause-runs
returns-clause-runs g c = λ told.
    let may = c.requires.may_run told in
    batch_runs _ _ _ _ _ (record { base = c.in_ok-base.base; order = c.run_all-states.new.order.items; mark = c.calls-mark.result; turns = [] }) told (λ s. g.met.S.Store.present s told) may (c.in_ok-base.ensures.reads.only told) c.in_ok-base.ensures.reads.calls c.run_all-states.ensures.calls
    (subst PassesAudit (sym (c.in_ok-base.ensures.reads.only told).same) (c.in_ok-base.ensures.means told).passes) c.calls-mark.ensures ((c.in_ok-base.ensures.means told).docs_are ∙ ap meaning (sym (c.in_ok-base.ensures.reads.only told).same)) (rw c.new-order.ensures.items at (c.run_all-states.ensures.works told))
    _ _ (rw (c.in-Ok.ensures.items, c.in_ok-reserve.ensures.items, c.from_vec.ensures, c.new.ensures) refl) (c.requires.runs told)

pub returns-clause-done : goal.returns-clause-done
returns-clause-done g c = λ told.
    let may = c.requires.may_run told in
    if_ok c.run_all-states.result _ _ (c.run_all-states.ensures.done told)
    (λ lines done. batch_done _ _ _ _ _ (record { base = c.in_ok-base.base; order = c.run_all-states.new.order.items; mark = c.calls-mark.result; turns = [] }) told (λ s. g.met.S.Store.present s told) may (c.in_ok-base.ensures.reads.only told) c.in_ok-base.ensures.reads.calls c.run_all-states.ensures.calls
    (subst PassesAudit (sym (c.in_ok-base.ensures.reads.only told).same) (c.in_ok-base.ensures.means told).passes) c.calls-mark.ensures ((c.in_ok-base.ensures.means told).docs_are ∙ ap meaning (sym (c.in_ok-base.ensures.reads.only told).same)) (rw c.new-order.ensures.items at (c.run_all-states.ensures.works told))
    _ _ _ refl (rw (c.in-Ok.ensures.items, c.in_ok-reserve.ensures.items, c.from_vec.ensures, c.new.ensures) refl) (c.run_all-states.ensures.uses told) done)

pub returns-clause-left : goal.returns-clause-left
returns-clause-left g c = λ told.
    let may = c.requires.may_run told in
    batch_left _ _ _ _ _ (record { base = c.in_ok-base.base; order = c.run_all-states.new.order.items; mark = c.calls-mark.result; turns = [] }) told (λ s. g.met.S.Store.present s told) may (c.in_ok-base.ensures.reads.only told) c.in_ok-base.ensures.reads.calls c.run_all-states.ensures.calls
    (subst PassesAudit (sym (c.in_ok-base.ensures.reads.only told).same) (c.in_ok-base.ensures.means told).passes) c.calls-mark.ensures ((c.in_ok-base.ensures.means told).docs_are ∙ ap meaning (sym (c.in_ok-base.ensures.reads.only told).same)) (rw c.new-order.ensures.items at (c.run_all-states.ensures.works told))
    c.run_all-states.result _ _ refl (rw (c.in-Ok.ensures.items, c.in_ok-reserve.ensures.items, c.from_vec.ensures, c.new.ensures) refl) (rw c.new-order.ensures.items at (c.run_all-states.ensures.records told)) (c.run_all-states.ensures.uses told) c.run_all-states.ensures.kind (c.run_all-states.ensures.unfinished told)

pub returns-clause-enough : goal.returns-clause-enough
returns-clause-enough g c = λ told suffices.
    run_unspent c.run_all-states.result _ _ _ _ suffices (c.in_ok-base.ensures.reads.only told).same (c.run_all-states.ensures.uses told) (c.run_all-states.ensures.reason told)

pub returns-clause-cause : goal.returns-clause-cause
returns-clause-cause g c = causes_before _ _ _ _ _ c.in_ok-base.ensures.reads.calls.chain c.run_all-states.ensures.cause

pub returns-clause-calls : goal.returns-clause-calls
returns-clause-calls g c = calls_then _ _ _ _ c.in_ok-base.ensures.reads.calls c.run_all-states.ensures.calls

pub returns-in_err-reserve-clause-calls : goal.returns-in_err-reserve-clause-calls
returns-in_err-reserve-clause-calls g c = calls_none _ _ (λ told. g.met.S.Store.present _ told)

pub returns-in_err-base-clause-runs : goal.returns-in_err-base-clause-runs
returns-in_err-base-clause-runs g c = λ told.
    rw c.in_ok-reserve.ensures.items (runs_only_read _ _ _ _ (c.in_err-base.ensures.reads.only told) c.in_err-base.ensures.reads.calls told (c.requires.may_run told).calm.sound (c.requires.runs told))

pub returns-in_err-base-clause-left : goal.returns-in_err-base-clause-left
returns-in_err-base-clause-left g c = λ told.
    let p = err_from_is_err_and c.from_residual-in_err-base.result c.from_residual-in_err-base.ensures.1 in
    rw (p.1, p.2) (stays_left true _ _ _ _ _ (record { holds = (c.in_err-base.ensures.reads.only told).same; runs = c.in_ok-reserve.ensures.items }))

pub returns-in_err-base-clause-cause : goal.returns-in_err-base-clause-cause
returns-in_err-base-clause-cause g c =
    let p = err_from_is_err_and c.from_residual-in_err-base.result c.from_residual-in_err-base.ensures.1 in
    rw (p.1, p.2) (reading_cause _ _ _ _ c.in_err-base.ensures.reads)
