use Rattle.store_laws.proofs.views.Carries.{carry_ready, carry_clean, carry_spent}
use Rattle.store_laws.proofs.views.Orderly.{orderly}
use Rattle.store_laws.proofs.forward.readiness_lasts.Goals as goal

pub returns : goal.returns
returns c = record {
  ready = λ c d id later. carry_ready later id;
  held = λ c d id key later. later.held id key;
  clean = λ c d id sound later. carry_clean later.back (orderly c sound) id;
  spent = λ c d x sound later. carry_spent later.back (orderly c sound) x;
}
