use Rattle.store_laws.proofs.steps.DocEdits.{draw_quiet}
use Rattle.store_laws.proofs.queueing.drawing_a_nonce.Goals as goal

pub returns : goal.returns
returns c = draw_quiet
