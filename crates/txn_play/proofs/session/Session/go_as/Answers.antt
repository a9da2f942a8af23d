use Rattle.std.proofs.Common.{refl, rules}
use Rattle.txn_play.proofs.Sessions.{refused_idly}
use Rattle.txn_play.proofs.session.Session.go_as.Goals as goal

pub returns-else-is_default : goal.returns-else-is_default
returns-else-is_default g c = record {
  done = λ told. tt;
  against = search rules;
  found = tt;
  refused = search rules;
  kept = refused_idly _ _ _ _ c.requires.stands (λ told. g.met.S.Store.present _ told) refl refl;
}
