use Rattle.std.proofs.Common.{◌≡◌, ◌≤◌, drop, length}
use Rattle.std.specs.Cmp.Lexicographic.{slice_cmp}
use Rattle.std.specs.Ordering.{nat_cmp}
use Rattle.doc_update.proofs.path_order.compare_paths.Given as goal

abbrev pub invariant-loop-i : goal.invariant-loop-i
invariant-loop-i l = record { here : slice_cmp (slice_cmp nat_cmp) (drop l.i l.parts) (drop l.i l.others) ≡ slice_cmp (slice_cmp nat_cmp) l.parts l.others; within : l.i ≤ length l.others }
