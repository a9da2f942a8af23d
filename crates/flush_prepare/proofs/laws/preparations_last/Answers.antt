use Rattle.flush_prepare.proofs.Preparing.{prepare_lasts, blocked_later}
use Rattle.flush_prepare.proofs.ScansRead.{given_apart, given_then}
use Rattle.flush_prepare.proofs.laws.preparations_last.Goals as goal

pub returns : goal.returns
returns c = record { preparing = prepare_lasts; apart = given_apart; joined = given_then; blocked = blocked_later }
