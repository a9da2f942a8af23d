use Rattle.std.proofs.Common.{◌≡◌, ◌+◌, drop, map}
use Rattle.doc_apply.specs.Groups.{count_head, change_below}
use Rattle.doc_apply.proofs.together.count_head.Given as goal

abbrev pub invariant-loop-change : goal.invariant-loop-change
invariant-loop-change l = record { count : l.count + count_head l.part (map (change_below l.depth) (drop l.change-index l.changes)) ≡ count_head l.part (map (change_below l.depth) l.changes); so_far : l.count ≡ l.change-index }
