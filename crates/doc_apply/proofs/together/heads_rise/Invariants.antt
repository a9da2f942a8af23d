use Rattle.std.proofs.Common.{◌≡◌, drop, map}
use Rattle.doc_apply.specs.Groups.{heads_rise, change_below}
use Rattle.doc_apply.proofs.together.heads_rise.Given as goal

abbrev pub invariant-loop-i : goal.invariant-loop-i
invariant-loop-i l = heads_rise (map (change_below l.depth) (drop l.i l.changes)) ≡ heads_rise (map (change_below l.depth) l.changes)
