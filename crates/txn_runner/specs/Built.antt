-- Which transactions can be settled so far.
use Rattle.std.specs.Prelude.{Bool, true, false, List, [], ◌∷◌}
use Rattle.txn_record.specs.declared.op.Change.{Change}
use Rattle.txn_record.specs.declared.op.Change.TheVariants as change
use Rattle.txn_record.specs.declared.op.Op.{Op}

-- neither an insertion nor a removal
abbrev pub is_built_change : Change → Bool
is_built_change change.Nothing = true
is_built_change (change.Insert _) = false
is_built_change (change.Update _) = true
is_built_change change.Remove = false

-- one operation, which only asks or updates
abbrev pub is_built : List Op → Bool
is_built (op ∷ []) = is_built_change op.change
is_built [] = false
is_built (_ ∷ _ ∷ _) = false

abbrev pub is_update : Change → Bool
is_update change.Nothing = false
is_update (change.Insert _) = false
is_update (change.Update _) = true
is_update change.Remove = false

-- its operation makes an update
abbrev pub updates : List Op → Bool
updates (op ∷ []) = is_update op.change
updates [] = false
updates (_ ∷ _ ∷ _) = false
