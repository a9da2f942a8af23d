use Rattle.std.proofs.Common.{◌≡◌, drop}
use Rattle.doc_update.specs.Syntax.{fault_of_operators}
use Rattle.doc_update.proofs.read.fault_of_operators.Given as goal

abbrev pub invariant-loop-operator : goal.invariant-loop-operator
invariant-loop-operator l = fault_of_operators (drop l.operator-index l.operators) ≡ fault_of_operators l.operators
