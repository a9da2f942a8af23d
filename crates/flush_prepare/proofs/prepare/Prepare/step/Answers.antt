use Rattle.flush_prepare.proofs.PrepareCauses.{step_cause}
use Rattle.flush_prepare.proofs.PrepareSteps.{step_prepares, step_nearer, step_stays}
use Rattle.flush_prepare.proofs.prepare.Prepare.step.Goals as goal

pub returns-clause-prepares : goal.returns-clause-prepares
returns-clause-prepares g c = step_prepares g.S.Store _ _ _ _ _ c.call.ensures.goes c.requires.worth

pub returns-clause-nearer : goal.returns-clause-nearer
returns-clause-nearer g c = step_nearer g.S.Store _ _ _ _ _ c.call.ensures.goes

pub returns-clause-stays : goal.returns-clause-stays
returns-clause-stays g c = step_stays g.S.Store _ _ _ _ _ c.call.ensures.goes

pub returns-clause-cause : goal.returns-clause-cause
returns-clause-cause g c = step_cause g.S.Store _ _ _ _ _ c.call.ensures.goes
