use Rattle.std.proofs.Common.{◌≡◌, ◌++◌, drop}
use Rattle.doc_update.specs.Effects.{without_item}
use Rattle.doc_apply.proofs.effect.copy_others.Given as goal

abbrev pub invariant-loop-item : goal.invariant-loop-item
invariant-loop-item l = l.copies ++ without_item l.operand (drop l.item-index l.items) ≡ without_item l.operand l.items
