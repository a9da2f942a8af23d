use Rattle.txn_record.proofs.EffectLaws.{get-effect_of_here, get-effect_of_other}
use Rattle.txn_record.proofs.laws.changes_are_local.Goals as goal

pub returns : goal.returns
returns c = record { here = get-effect_of_here; others = get-effect_of_other }
