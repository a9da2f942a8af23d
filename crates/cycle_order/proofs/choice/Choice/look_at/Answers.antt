use Rattle.cycle_order.proofs.Picking.{choice_more}
use Rattle.cycle_order.proofs.TurnedEdges.{behind_of}
use Rattle.cycle_order.proofs.choice.Choice.look_at.Goals as goal

pub returns-clause-choice : goal.returns-clause-choice
returns-clause-choice c =
    let behind = behind_of _ _ _ c.requires.links _ _ c.as_slice-2.ensures.value c.in_ok-behind.ensures.exact in
    choice_more _ c.requires.graph _ _ c.in_ok-least.ensures _ _ _ _ c.requires.choice c.mark_all.ensures.size c.mark_all.ensures.only (λ a m. (behind a).0 m) _ c.in_ok-self.ensures

pub returns-clause-passed : goal.returns-clause-passed
returns-clause-passed c u =
    let behind = behind_of _ _ _ c.requires.links _ _ c.as_slice-2.ensures.value c.in_ok-behind.ensures.exact in
    c.mark_all.ensures.adds _ ((behind c.args.v).1 c.in_ok-least.ensures.ahead)
