use Rattle.std.proofs.Common.{refl, sym, true≢false}
use Rattle.store_laws.specs.View.{look}
use Rattle.listed_cells.specs.Listing.{content_of}
use Rattle.listed_cells.proofs.Waiting.{all_next, all_past, waits_here}
use Rattle.listed_cells.proofs.standing.Standing.waits_on_all.Goals as goal

pub loop-op-init : goal.loop-op-init
loop-op-init c = tt

pub returns-then-not-waits_on : goal.returns-then-not-waits_on
returns-then-not-waits_on c = (
  λ e. absurd (true≢false (sym e)),
  λ all. c.if-not-waits_on.ensures.1 (waits_here (look (content_of c.args.cells.now)) c.args.token.now c.args.ops.now _ _ c.loop-op-test.true c.op-item.is all),
)

pub loop-op-preserved : goal.loop-op-preserved
loop-op-preserved c =
    all_next (look (content_of c.args.cells.now)) c.args.token.now c.args.ops.now _ _ c.loop-op-test.true c.op-item.is c.loop-op.invariant (c.if-not-waits_on.ensures.0 refl)

pub returns : goal.returns
returns c = (λ e. all_past (look (content_of c.args.cells.now)) c.args.token.now c.args.ops.now _ c.loop-op-test.false c.loop-op.invariant, λ all. refl)
