use Rattle.std.proofs.Common.{arith}
use Rattle.store_laws.proofs.trails.TrailFaithful.{trail_faithful, means_at, calls_between}
use Rattle.store_laws.proofs.trails.TrailLegal.{trail_legal}
use Rattle.store_laws.proofs.histories.trusting_a_trail.Goals as goal

pub returns : goal.returns
returns g = record {
  faithful = trail_faithful;
  legal = trail_legal;
  means = λ trail mark n base t. means_at trail mark n base t n (omega arith);
  calls = λ trail mark n base j k t le within. calls_between trail mark n base t j k le within;
}
