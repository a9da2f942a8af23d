use Rattle.store_laws.proofs.trails.TrailGrows.{decisions-more, decisions-same, trail_opens, trail_more, trail_same}
use Rattle.store_laws.proofs.histories.growing_a_trail.Goals as goal

pub returns : goal.returns
returns g = record { opens = trail_opens; more = trail_more; decides = decisions-more; same = trail_same; decides_same = decisions-same }
