use Rattle.store_trait.specs.Exchanges.{Exchanged}
use Rattle.store_laws.proofs.trails.Exchanges.{joined, later}
use Rattle.store_laws.proofs.exchanges.exchanges_follow.Goals as goal

pub returns : goal.returns
returns g c = record {
  none = λ s. Exchanged.Nothing s;
  one = λ old new exchange call. Exchanged.Then old old new exchange (Exchanged.Nothing old) call;
  joined = joined g.S.Store;
  later = later g.S.Store;
}
