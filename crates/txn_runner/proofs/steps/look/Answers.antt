use Rattle.txn_runner.proofs.Works.{refused_idly}
use Rattle.txn_runner.proofs.Answered.{shows_now}
use Rattle.std.proofs.Common.{sym}
use Rattle.std.proofs.lemmas.Result.{err_from_is_err_and}
use Rattle.txn_runner.proofs.Works.{works_idly, comes_err, comes_edited, comes_to_nothing}
use Rattle.std.proofs.Common.{rules, SFits, w64}
use Rattle.std.proofs.lemmas.Int.{to_z-of_z}
use Rattle.txn_runner.proofs.Looking.{look_there, look_worth, look_past, look_low, look_high}
use Rattle.txn_runner.proofs.Numbers.{uses_within, uses_same}
use Rattle.std.proofs.Common.{arith}
use Rattle.txn_runner.proofs.steps.look.Goals as goal

pub returns-else-has_room-clause-works : goal.returns-else-has_room-clause-works
returns-else-has_room-clause-works g c = λ told order.
    works_idly _ _ _ _ _ told (g.met.S.Store.present _ told) c.read_document.ensures.call _ order (c.requires.worth told).sound (c.in_ok-doc.ensures.same told)

pub returns-else-has_room-clause-comes : goal.returns-else-has_room-clause-comes
returns-else-has_room-clause-comes g c = λ told.
    let fits : SFits w64 c.in_ok-doc.doc.revno = search rules in
    comes_err _ _ _ (look_past _ _ _ _ c.in_ok-doc.doc (c.in_ok-doc.ensures.same told) c.in_ok-key.ensures (c.in_ok-doc.ensures.found told) (look_high c.in_ok-doc.doc.revno _ (simp to_z-of_z at c.has_room.ensures) c.if-has_room.false))

pub returns-then-has_room-clause-works : goal.returns-then-has_room-clause-works
returns-then-has_room-clause-works g c = λ told order.
    works_idly _ _ _ _ _ told (g.met.S.Store.present _ told) c.read_document.ensures.call _ order (c.requires.worth told).sound (c.in_ok-doc.ensures.same told)

pub returns-then-has_room-clause-comes : goal.returns-then-has_room-clause-comes
returns-then-has_room-clause-comes g c = λ told.
    let fits : SFits w64 c.in_ok-doc.doc.revno = search rules in
    simp to_z-of_z (comes_edited _ _ _ _ (c.in_ok-doc.ensures.same told) (look_worth _ _ _ c.only-op.ensures.only _ (c.requires.worth told) c.in_ok-doc.doc (c.in_ok-doc.ensures.found told)
    (look_low c.in_ok-doc.doc.revno _ (simp to_z-of_z at c.has_room.ensures) c.if-has_room.true) c.tests_hold.result c.tests_hold.ensures))

pub returns-in_err-doc-clause-works : goal.returns-in_err-doc-clause-works
returns-in_err-doc-clause-works g c = λ told order.
    works_idly _ _ _ _ _ told (g.met.S.Store.present _ told) c.read_document.ensures.call _ order (c.requires.worth told).sound (c.in_err-doc.ensures.same told)

pub returns-in_err-doc-clause-comes : goal.returns-in_err-doc-clause-comes
returns-in_err-doc-clause-comes g c = λ told. let p = err_from_is_err_and c.from_residual-in_err-doc.result c.from_residual-in_err-doc.ensures.1 in rw (p.1, p.2) (comes_to_nothing _ _ _ (c.in_err-doc.ensures.never told (look_there _ _ _ c.only-op.ensures.only _ (c.requires.worth told))))

pub returns-else-has_room-clause-uses : goal.returns-else-has_room-clause-uses
returns-else-has_room-clause-uses g c = λ told. uses_within (uses_same _ _ (c.in_ok-doc.ensures.same told)) (omega arith) (omega arith)

pub returns-then-has_room-clause-uses : goal.returns-then-has_room-clause-uses
returns-then-has_room-clause-uses g c = λ told. uses_within (uses_same _ _ (c.in_ok-doc.ensures.same told)) (omega arith) (omega arith)

pub returns-in_err-doc-clause-uses : goal.returns-in_err-doc-clause-uses
returns-in_err-doc-clause-uses g c = λ told. let p = err_from_is_err_and c.from_residual-in_err-doc.result c.from_residual-in_err-doc.ensures.1 in rw p.1 (uses_within (uses_same _ _ (c.in_err-doc.ensures.same told)) (omega arith) (omega arith))

pub returns-in_err-key-clause-call : goal.returns-in_err-key-clause-call
returns-in_err-key-clause-call g c = let p = err_from_is_err_and c.from_residual.result c.from_residual.ensures.1 in rw (p.1, p.2) (refused_idly _ _ (g.met.S.Store.present _))

pub returns-else-has_room-clause-cause : goal.returns-else-has_room-clause-cause
returns-else-has_room-clause-cause g c =
    let fits : SFits w64 c.in_ok-doc.doc.revno = search rules in
    shows_now _ _ _ _ _ c.in_ok-doc.ensures.call.counted c.in_ok-doc.ensures.answered
    (sym c.in_ok-key.ensures, look_high c.in_ok-doc.doc.revno _ (simp to_z-of_z at c.has_room.ensures) c.if-has_room.false)
