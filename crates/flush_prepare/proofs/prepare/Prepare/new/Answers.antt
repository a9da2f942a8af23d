use Rattle.flush_prepare.proofs.Preparing.{prepare_begins}
use Rattle.flush_prepare.proofs.prepare.Prepare.new.Goals as goal

pub returns-clause-begins : goal.returns-clause-begins
returns-clause-begins c = λ content sound stored. prepare_begins c.args.rec c.in_ok-key.key c.in_ok-key.later c.in_ok-key.ensures content sound stored
