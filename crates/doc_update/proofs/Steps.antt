-- A change below a part, by its steps.
use Rattle.std.proofs.Common.{◌≡◌, ℕ, List, ◌∷◌, Option, Some, None, option_and_then, refl}
use Rattle.doc_value.specs.declared.value.Value.{Value}
use Rattle.doc_update.specs.Places.{part_of, placed, changed}

abbrev pub Effect : Type 0
Effect = Option Value → Option (Option Value)

-- a change below a part, taken apart
pub by_steps : {G : Type 0} (effect : Effect) (part : List ℕ) (parts : List (List ℕ)) (found g : Option Value) → changed effect (part ∷ parts) found ≡ Some g
    → ((after : Option Value) → changed effect parts (part_of part found) ≡ Some after → placed part found after ≡ Some g → G) → G
by_steps {G} effect part parts found g e more = go (changed effect parts (part_of part found)) refl e
  where
    go : (below : Option (Option Value)) → changed effect parts (part_of part found) ≡ below → option_and_then (placed part found) below ≡ Some g → G
    go None is h = cc
    go (Some after) is h = more after is h
