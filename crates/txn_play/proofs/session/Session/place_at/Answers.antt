use Rattle.store_laws.proofs.trails.CallsMade.{calls_none}
use Rattle.txn_play.proofs.session.Session.place_at.Goals as goal

pub returns-then-self-clause-calls : goal.returns-then-self-clause-calls
returns-then-self-clause-calls g c = calls_none _ _ (λ told. g.met.S.Store.present _ told)
