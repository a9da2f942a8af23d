use Rattle.txn_play.proofs.Sessions.{refused_idly}
use Rattle.std.proofs.Common.{refl}
use Rattle.txn_play.proofs.session.Session.go.Goals as goal

pub returns-clause-done : goal.returns-clause-done
returns-clause-done g c = λ told. record {
  states = c.in_ok-states.states;
  ran = rw c.as_slice.ensures.list at (c.in_ok-states.ensures.done told);
  answers = refl;
  none_waits = c.clear.ensures;
  begun = refl;
  alone = refl;
}

pub returns-then-not-self-clause-kept : goal.returns-then-not-self-clause-kept
returns-then-not-self-clause-kept g c = refused_idly _ _ _ _ c.requires.stands (λ told. g.met.S.Store.present _ told) refl refl
