use Rattle.std.proofs.Common.{refl}
use Rattle.txn_record.proofs.EffectLaws.{tests-alone}
use Rattle.txn_record.proofs.laws.operations_alone.Goals as goal

pub returns : goal.returns
returns c = record { effect = λ op docs. refl; tests = tests-alone }
