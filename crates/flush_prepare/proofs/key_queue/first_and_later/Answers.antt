use Rattle.std.proofs.Common.{◌∙◌, sym}
use Rattle.flush_prepare.proofs.OwnKeys.{some_key}
use Rattle.flush_prepare.proofs.key_queue.first_and_later.Goals as goal

pub unreachable-requires : goal.unreachable-requires
unreachable-requires c = some_key c.args.ops.now c.as_slice.ensures.sound.0 (sym c.in_ok-keys.ensures ∙ sym c.in_ok-later.ensures ∙ c.in-None.ensures.0)
