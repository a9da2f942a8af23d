use Rattle.store_laws.proofs.steps.Known.{listed_as_shown}
use Rattle.store_laws.proofs.steps.Moments.{one_moment, shown_queue, shown_held}
use Rattle.store_laws.proofs.reading.reading_a_key.Goals as goal

pub returns : goal.returns
returns g = record { one_moment = one_moment; queue = shown_queue; held = shown_held; listed = listed_as_shown }
