use Rattle.std.proofs.lemmas.List.Elements.{All-from_recursion}
use Rattle.store_laws.proofs.trails.TrailTells.{trail_records, trail_keeps}
use Rattle.store_laws.specs.Decisions.{decisions}
use Rattle.store_laws.specs.Trail.{IsKept}
use Rattle.store_laws.proofs.histories.reading_an_order.Goals as goal

pub returns : goal.returns
returns g = record {
  keeps = λ trail mark n base t. All-from_recursion (IsKept _) (decisions trail mark n) (trail_keeps trail mark n base t);
  tells = λ trail mark n base id rec t there chose. trail_records trail mark n base t id rec there chose;
}
