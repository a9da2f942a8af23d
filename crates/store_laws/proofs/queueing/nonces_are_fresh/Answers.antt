use Rattle.store_laws.proofs.steps.Nonces.{nonce_below, preparing_none, nonces_same}
use Rattle.store_laws.proofs.queueing.nonces_are_fresh.Goals as goal

pub returns : goal.returns
returns c = record { below = nonce_below; preparing = preparing_none; same = nonces_same }
