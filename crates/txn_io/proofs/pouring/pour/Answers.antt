use Rattle.std.proofs.Common.{◌∙◌, arith}
use Rattle.txn_io.proofs.Pieces.{put_more}
use Rattle.txn_io.proofs.pouring.pour.Goals as goal

pub loop-done-preserved : goal.loop-done-preserved
loop-done-preserved g c = record {
  within = omega (arith, c.in-Ok.ensures.fits, c.loop-done.invariant.within);
  put = λ told. put_more _ _ _ _ _ _ (c.loop-done.invariant.put told) (c.in-Ok.ensures.appended told);
  same = c.in-Ok.ensures.cause.stayed ∙ c.loop-done.invariant.same;
}
