use Rattle.std.proofs.Common.{sym, ◌∙◌}
use Rattle.txn_record.proofs.SoundReading.{read_sound}
use Rattle.txn_record.proofs.read.read_op.Goals as goal

pub returns-clause-sound : goal.returns-clause-sound
returns-clause-sound c = read_sound _ _ _ _ _ _ _ _ _ c.in_ok-key.ensures (sym c.fault_of_parts.ensures ∙ c.in_default.is) c.in_ok-change.ensures.exact c.in_ok-assert.ensures c.in_ok-change.ensures.body
