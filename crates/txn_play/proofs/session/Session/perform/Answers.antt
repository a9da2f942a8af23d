use Rattle.std.proofs.Common.{refl}
use Rattle.txn_play.proofs.Sessions.{refused_idly}
use Rattle.txn_play.proofs.session.Session.perform.Goals as goal

pub returns-in-Resume-clause-kept : goal.returns-in-Resume-clause-kept
returns-in-Resume-clause-kept g c = refused_idly _ _ _ _ c.requires.stands (λ told. g.met.S.Store.present _ told) refl refl
