use Rattle.std.proofs.Common.{◌≡◌, drop}
use Rattle.doc_update.specs.Syntax.{fault_of_changes}
use Rattle.doc_update.proofs.read.fault_of_changes.Given as goal

abbrev pub invariant-loop-change : goal.invariant-loop-change
invariant-loop-change l = fault_of_changes l.operator (drop l.change-index l.changes) ≡ fault_of_changes l.operator l.changes
