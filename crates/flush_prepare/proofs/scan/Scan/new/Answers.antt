use Rattle.flush_prepare.proofs.Scanning.{scan_begins}
use Rattle.flush_prepare.proofs.scan.Scan.new.Goals as goal

pub returns-clause-begins : goal.returns-clause-begins
returns-clause-begins c = λ content sound stored. scan_begins c.args.rec c.in_ok-key.key c.in_ok-key.later c.new.result c.in_ok-key.ensures c.new.ensures c.requires content sound stored
