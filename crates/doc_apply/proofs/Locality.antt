-- Changes whose paths don't conflict don't see one another: what one finds, and so whether it fits, is the same after the other.
use Rattle.std.proofs.Common.{◌≡◌, ℕ, Bool, true, false, ◌&&◌, ◌||◌, List, [], ◌∷◌, Option, Some, None, option_and_then, is_some, is_none, if◌then◌else◌, refl, sym, ap, ap₂, ◌∙◌}
use Rattle.std.specs.Str.{bytes_eq}
use Rattle.std.proofs.lemmas.Bool.{true≢false}
use Rattle.std.proofs.lemmas.Slice.Eq.{bytes_eq-Decides}
use Rattle.doc_value.specs.declared.value.Value.{Value}
use Rattle.doc_update.specs.Conflicts.{paths_conflict}
use Rattle.doc_update.specs.Places.{is_open, part_of, placed, changed}
use Rattle.doc_apply.specs.Fit.{located, is_nothing, fits_in}
use Rattle.doc_update.proofs.PlacedLaws.{put_there, put_fits, shut_part}
use Rattle.doc_update.proofs.Steps.{Effect, by_steps}

pub located_apart : (path other : List (List ℕ)) (effect : Effect) (found g : Option Value) → paths_conflict path other ≡ false → changed effect path found ≡ Some g → located other g ≡ located other found
located_apart [] other effect found g apart e = absurd (true≢false apart)
located_apart (part ∷ parts) [] effect found g apart e = absurd (true≢false apart)
located_apart (part ∷ parts) (name ∷ names) effect found g apart e =
    by_steps effect part parts found g e (λ after below put. by (bytes_eq part name) refl after put (λ rest. located_apart parts names effect (part_of part found) after rest below))
  where
    by : (b : Bool) → bytes_eq part name ≡ b → (after : Option Value) → placed part found after ≡ Some g
        → (paths_conflict parts names ≡ false → located names after ≡ located names (part_of part found)) → located (name ∷ names) g ≡ located (name ∷ names) found
    by true same after put below =
        let facts = put_there found part after g put in
        let named : part ≡ name = (bytes_eq-Decides part name).0 same in
        let rest : paths_conflict parts names ≡ false = sym (ap (λ (b : Bool). b && paths_conflict parts names) same) ∙ apart in
        ap₂ (λ (b : Bool) (o : Option (Option Value)). if b then o else None) (facts.2)
        (ap (λ n. located names (part_of n g)) (sym named) ∙ ap (located names) (facts.0) ∙ below rest ∙ ap (λ n. located names (part_of n found)) named)
    by false differ after put below =
        let facts = put_there found part after g put in
        ap₂ (λ (b : Bool) (o : Option (Option Value)). if b then o else None) (facts.2) (ap (located names) (facts.1 name differ))

-- where nothing is found, nothing stays nothing on the way up
pub nothing_up : (effect : Effect) (parts : List (List ℕ)) → is_nothing (changed effect parts None) ≡ is_nothing (effect None)
nothing_up effect [] = refl
nothing_up effect (part ∷ parts) = step (changed effect parts None) ∙ nothing_up effect parts
  where
    step : (below : Option (Option Value)) → is_nothing (option_and_then (placed part None) below) ≡ is_nothing below
    step None = refl
    step (Some None) = refl
    step (Some (Some after)) = refl

-- a change fits exactly where its effect fits in what is located
pub changed_fits : (effect : Effect) (path : List (List ℕ)) (found : Option Value) → is_some (changed effect path found) ≡ fits_in effect (located path found)
changed_fits effect [] found = refl
changed_fits effect (part ∷ parts) found = by (is_open found) refl (changed_fits effect parts (part_of part found))
  where
    opened : is_open found ≡ true → (below : Option (Option Value)) → is_some (option_and_then (placed part found) below) ≡ is_some below
    opened is None = refl
    opened is (Some after) = put_fits found part after ∙ ap (λ b. is_none after || b) is ∙ either (is_none after)
      where
        either : (b : Bool) → (b || true) ≡ true
        either true = refl
        either false = refl

    shut : is_open found ≡ false → (below : Option (Option Value)) → is_some (option_and_then (placed part found) below) ≡ is_nothing below
    shut is None = refl
    shut is (Some None) = put_fits found part None
    shut is (Some (Some after)) = put_fits found part (Some after) ∙ is

    by : (b : Bool) → is_open found ≡ b → is_some (changed effect parts (part_of part found)) ≡ fits_in effect (located parts (part_of part found))
        → is_some (option_and_then (placed part found) (changed effect parts (part_of part found))) ≡ fits_in effect (if b then located parts (part_of part found) else None)
    by true is below = opened is (changed effect parts (part_of part found)) ∙ below
    by false is below =
        shut is (changed effect parts (part_of part found)) ∙ ap (λ f. is_nothing (changed effect parts f)) (shut_part found part is) ∙ nothing_up effect parts
