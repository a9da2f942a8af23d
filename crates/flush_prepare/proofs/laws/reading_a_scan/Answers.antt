use Rattle.flush_prepare.proofs.ScansRead.{scan_listed, scan_found}
use Rattle.flush_prepare.proofs.laws.reading_a_scan.Goals as goal

pub returns : goal.returns
returns c = record { listed = scan_listed; found = scan_found }
