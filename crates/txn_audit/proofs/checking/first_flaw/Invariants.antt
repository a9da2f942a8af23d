use Rattle.std.proofs.Common.{◌≤◌}
use Rattle.txn_audit.specs.Checks.{HoldBelow}
use Rattle.listed_cells.specs.Listing.{content_of}
use Rattle.txn_audit.proofs.checking.first_flaw.Given as goal

abbrev pub invariant-loop-number : goal.invariant-loop-number
invariant-loop-number l = (1 ≤ l.number) × HoldBelow (content_of l.cells) l.number
