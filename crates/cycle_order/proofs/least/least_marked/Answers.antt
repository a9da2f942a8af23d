use Rattle.std.proofs.Common.{arith, sym, ◌∙◌}
use Rattle.std.proofs.lemmas.Bool.{false≢true}
use Rattle.cycle_order.proofs.Leasts.{least_here, least_on, least_all}
use Rattle.cycle_order.proofs.least.least_marked.Goals as goal
use Rattle.cycle_order.proofs.least.least_marked.Goals.{then-is_lesser, else-is_lesser}

pub loop-a-preserved : goal.loop-a-preserved
loop-a-preserved c = elim c.if-is_lesser.branch [
  | then-is_lesser w ↦ rw w.least-is (least_here _ _ _ _ (omega (arith, c.requires.marked)) c.loop-a.invariant (c.is_lesser.ensures.0 w.if-is_lesser.true))
  | else-is_lesser w ↦ rw w.least-is (least_on _ c.requires.graph _ _ _ c.loop-a.invariant (λ h. false≢true (sym w.if-is_lesser.false ∙ c.is_lesser.ensures.1 h)))
]

pub returns : goal.returns
returns c = least_all _ c.requires.graph _ c.loop-a.a _ (omega (arith, c.requires.marked)) c.loop-a.invariant
