use Rattle.std.proofs.Common.{◌≡◌, take}
use Rattle.doc_value.proofs.equality.+equality.Given as goal

abbrev pub invariant-are_equal_lists-loop-i : goal.invariant-are_equal_lists-loop-i
invariant-are_equal_lists-loop-i l = take l.i l.items ≡ take l.i l.others

abbrev pub invariant-are_equal_fields-loop-i : goal.invariant-are_equal_fields-loop-i
invariant-are_equal_fields-loop-i l = take l.i l.fields ≡ take l.i l.others
