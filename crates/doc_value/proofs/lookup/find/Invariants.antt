use Rattle.std.proofs.Common.{◌≡◌, ◌≤◌, ◌-◌, true, take, drop, length}
use Rattle.doc_value.proofs.OrderedNames.{names_pass}
use Rattle.doc_value.proofs.NameOrder.{before, past}
use Rattle.doc_value.proofs.lookup.find.Given as goal

abbrev pub invariant-loop-low : goal.invariant-loop-low
invariant-loop-low l = record { low : names_pass (λ n. before n l.fn.name) (take l.low l.fields) ≡ true; high : names_pass (λ n. past n l.fn.name) (drop l.high l.fields) ≡ true; order : l.low ≤ l.high; within : l.high ≤ length l.fields }

abbrev pub decreases-loop-low : goal.decreases-loop-low
decreases-loop-low l = l.high - l.low
