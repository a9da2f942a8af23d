use Rattle.std.proofs.Common.{◌≡◌, ◌<◌, ◌≤◌, [], ◌∷◌, List, ℤ, pos, length, get_or, min, to_z, of_z, w64, rules, arith, sym, ap, ◌∙◌, subst}
use mir.Val.{SFits}
use Rattle.std.proofs.lemmas.Int.{to_z-of_z}
use Rattle.txn_record.specs.Effects.{effect, changes_fit}
use Rattle.txn_record.specs.declared.op.Op.{Op}
use Rattle.store_laws.specs.Meaning.{not_done}
use Rattle.store_laws.specs.View.{look}
use Rattle.txn_audit.specs.Bodies.{kept}
use Rattle.listed_cells.specs.Listing.{content_of}
use Rattle.txn_audit.proofs.PendingRuns.{step_effect, step_fits, none_left, at_zero}
use Rattle.txn_audit.proofs.completion.run_pending.Goals as goal

pub loop-place-preserved : goal.loop-place-preserved
loop-place-preserved c =
    let loop = c.loop-place in
    let ops = c.args.ops.now in
    let revnos = c.args.revnos.now in
    let keys = c.args.keys.now in
    let i = loop.place in
    let view = look (content_of c.args.cells.now) in
    let op = c.index-ops-place.result in
    let in_ops : i < length ops = omega (arith, c.min-count.ensures) in
    let in_revnos : i < length revnos = omega (arith, c.min-count.ensures) in
    let revno = get_or revnos i (pos 0) in
    let within : SFits w64 revno = search rules in
    let read : to_z w64 (of_z w64 revno) ≡ revno = to_z-of_z w64 revno within in
    let fits = sym (subst (λ (n : ℤ). c.in_ok-run_one.field-0 ≡ changes_fit (not_done view (op ∷ []) (n ∷ [])) (kept keys loop.bodies)) read c.in_ok-run_one.ensures.fits) ∙ c.if-not-branch.false in
    let ran = ap (λ (n : ℤ). effect (not_done view (op ∷ []) (n ∷ [])) (kept keys loop.bodies)) read in
    let after = c.in_ok-run_one.ensures.runs c.if-not-branch.false ∙ ran in
    let is_revno = at_zero revnos i in_revnos in
    record {
      count = c.run_one.ensures.count;
      fits = step_fits view ops revnos i op revno in_ops in_revnos c.index-ops-place.is is_revno (kept keys loop.bodies) (kept keys c.run_one.new.bodies) after fits ∙ loop.invariant.fits;
      runs = step_effect view ops revnos i op revno in_ops in_revnos c.index-ops-place.is is_revno (kept keys loop.bodies) (kept keys c.run_one.new.bodies) after ∙ loop.invariant.runs;
    }

pub returns-clause-fits : goal.returns-clause-fits
returns-clause-fits c =
    let view = look (content_of c.args.cells.now) in
    let i = c.loop-place.place in
    let past : min (length c.args.ops.now) (length c.args.revnos.now) ≤ i = omega (arith, c.min-count.ensures) in
    sym (ap (λ (ops : List Op). changes_fit ops (kept c.args.keys.now c.loop-place.bodies)) (none_left view c.args.ops.now c.args.revnos.now i past)) ∙ c.loop-place.invariant.fits

pub returns-clause-runs : goal.returns-clause-runs
returns-clause-runs c = λ ok.
    let view = look (content_of c.args.cells.now) in
    let i = c.loop-place.place in
    let past : min (length c.args.ops.now) (length c.args.revnos.now) ≤ i = omega (arith, c.min-count.ensures) in
    sym (ap (λ (ops : List Op). effect ops (kept c.args.keys.now c.loop-place.bodies)) (none_left view c.args.ops.now c.args.revnos.now i past)) ∙ c.loop-place.invariant.runs
