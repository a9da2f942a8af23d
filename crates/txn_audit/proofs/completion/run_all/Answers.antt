use Rattle.std.proofs.Common.{◌≡◌, ◌<◌, length, get_or, arith, sym, ap, ◌∙◌}
use Rattle.store_laws.specs.View.{look}
use Rattle.txn_audit.specs.Bodies.{kept}
use Rattle.listed_cells.specs.Listing.{content_of}
use Rattle.txn_audit.proofs.PendingRuns.{cell_effect, cell_fits}
use Rattle.txn_audit.proofs.completion.run_all.Goals as goal

pub loop-place-preserved : goal.loop-place-preserved
loop-place-preserved c =
    let loop = c.loop-place in
    let cells = c.args.cells.now in
    let keys = c.args.keys.now in
    let view = look (content_of cells) in
    let x = get_or cells loop.place c.index-cells-place.result in
    let here : x ≡ get_or cells loop.place x = ap (get_or cells loop.place) c.index-cells-place.is in
    let within : loop.place < length cells = omega arith in
    let docs = kept keys loop.bodies in
    let after = kept keys c.run_cell.new.bodies in
    let ran = c.in_ok-run_cell.ensures.runs c.if-not-branch.false in
    let fit = sym c.in_ok-run_cell.ensures.fits ∙ c.if-not-branch.false in
    record {
      count = c.run_cell.ensures.count;
      found = cell_fits view cells loop.place x within here docs after ran fit ∙ loop.invariant.found;
      runs = cell_effect view cells loop.place x within here docs after ran ∙ loop.invariant.runs;
    }
