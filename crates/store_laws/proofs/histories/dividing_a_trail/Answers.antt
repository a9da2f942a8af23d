use Rattle.store_laws.proofs.trails.TrailSplits.{decisions-split, trail_first, trail_rest, trail_joined}
use Rattle.store_laws.proofs.histories.dividing_a_trail.Goals as goal

pub returns : goal.returns
returns g = record { first = trail_first; rest = trail_rest; joined = trail_joined; order = decisions-split }
