use Rattle.store_laws.proofs.cells.Empty.{empty_sound, empty_means, empty_rests, no_stash}
use Rattle.store_laws.proofs.submitting.beginning_with_nothing.Goals as goal

pub returns : goal.returns
returns c = record { sound = empty_sound; means = empty_means; rests = empty_rests; missing = no_stash }
