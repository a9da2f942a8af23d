use Rattle.std.proofs.Common.{◌≡◌, drop}
use Rattle.doc_update.specs.Syntax.{some_empty}
use Rattle.doc_update.proofs.shape.has_empty.Given as goal

abbrev pub invariant-loop-operator : goal.invariant-loop-operator
invariant-loop-operator l = some_empty (drop l.operator-index l.operators) ≡ some_empty l.operators
