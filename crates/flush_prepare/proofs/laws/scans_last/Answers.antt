use Rattle.flush_prepare.proofs.Scanning.{scan_lasts, scanned_later}
use Rattle.flush_prepare.proofs.laws.scans_last.Goals as goal

pub returns : goal.returns
returns c = record { scanning = scan_lasts; scanned = scanned_later }
