use Rattle.std.proofs.Common.{refl}
use Rattle.std.proofs.lemmas.Result.{err_from_is_err_and}
use Rattle.flush_prepare.specs.Scans.{ScanGoes}
use Rattle.flush_prepare.proofs.CallsMade.{refused_before}
use Rattle.flush_prepare.proofs.Scanning.{scan_goes, scan_went, scan_nears}
use Rattle.flush_prepare.proofs.scan.Scan.step.Goals as goal

pub returns-in_err-name-clause-kept : goal.returns-in_err-name-clause-kept
returns-in_err-name-clause-kept g c =
    let p = err_from_is_err_and c.from_residual.result c.from_residual.ensures.1 in
    rw (p.1, p.2) (refused_before g.S.Store c.args.store.now (λ told. g.met.S.Store.present c.args.store.now told))

pub returns-in_err-name-clause-goes : goal.returns-in_err-name-clause-goes
returns-in_err-name-clause-goes g c =
    let p = err_from_is_err_and c.from_residual.result c.from_residual.ensures.1 in
    rw (p.1, p.2) (ScanGoes.Refused _ tt refl refl)

pub returns-in_err-found-clause-goes : goal.returns-in_err-found-clause-goes
returns-in_err-found-clause-goes g c =
    let p = err_from_is_err_and c.from_residual-in_err-found.result c.from_residual-in_err-found.ensures.1 in
    rw (p.1, p.2) (ScanGoes.Refused _ c.in_err-found.ensures.kind refl refl)

pub returns-in_err-take-clause-goes : goal.returns-in_err-take-clause-goes
returns-in_err-take-clause-goes g c =
    let p = err_from_is_err_and c.from_residual-in_err-take.result c.from_residual-in_err-take.ensures.1 in
    rw (p.1, p.2) (ScanGoes.Refused _ tt refl c.in_err-take.ensures.after)

pub returns-clause-goes : goal.returns-clause-goes
returns-clause-goes g c =
    scan_goes g.S.Store c.args.store.now c.args.self.now c.in_ok-found.found c.read.new.store c.in_ok-take.field-0 c.take.new.self c.in_ok-take.ensures.answer c.in_ok-take.ensures.after
    (rw c.in_ok-name.ensures at c.in_ok-found.ensures.found)

pub returns-clause-comes : goal.returns-clause-comes
returns-clause-comes g c =
    scan_went g.S.Store c.args.store.now c.args.self.now c.in_ok-found.found c.read.new.store c.in_ok-take.field-0 c.take.new.self c.in_ok-take.ensures.answer c.in_ok-take.ensures.after
    (rw c.in_ok-name.ensures at c.in_ok-found.ensures.found) c.requires.worth

pub returns-clause-nearer : goal.returns-clause-nearer
returns-clause-nearer g c =
    scan_nears g.S.Store c.args.store.now c.args.self.now c.in_ok-found.found c.read.new.store c.in_ok-take.field-0 c.take.new.self c.in_ok-take.ensures.answer c.in_ok-take.ensures.after
