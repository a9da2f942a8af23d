use Rattle.store_laws.proofs.views.AmongSettled.{alone_ready, rest_alone, alone_rest}
use Rattle.store_laws.proofs.alone.being_alone_makes_ready.Goals as goal

pub returns : goal.returns
returns c = record { ready = λ view id alone. alone_ready alone; begins = λ view id. rest_alone id; ends = λ view id. alone_rest id }
