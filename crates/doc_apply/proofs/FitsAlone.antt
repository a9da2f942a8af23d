-- An update fits exactly where each of its changes fits the body as it is, none puts too deep, and what is left beside them is not too deep.
use Rattle.std.proofs.Common.{◌≡◌, ℕ, Bool, true, false, ◌&&◌, ◌||◌, not, List, [], ◌∷◌, length, nat_lt, Option, Some, None, option_and_then, is_some, if◌then◌else◌, refl, sym, ap, ap₂, ◌∙◌}
use Rattle.std.specs.List.{list_any, list_all}
use Rattle.std.proofs.lemmas.Bool.{true≢false, and_parts, or_parts, not-true}
use Rattle.std.proofs.lemmas.Option.{same_Some}
use Rattle.doc_value.specs.declared.value.Value.{Value}
use Rattle.doc_value.specs.Depth.{nesting}
use Rattle.doc_update.specs.Changes.{Change, changes_of, fields_of}
use Rattle.doc_update.specs.Conflicts.{conflict, are_apart}
use Rattle.doc_update.specs.Effects.{effect}
use Rattle.doc_apply.specs.Fit.{located, fits_in, puts_below, change_fits, change_is_deep}
use Rattle.doc_update.specs.Places.{changed}
use Rattle.doc_update.specs.Syntax.{is_update}
use Rattle.doc_update.specs.Updates.{after_change, after_changes, if_body, body_after}
use Rattle.doc_update.proofs.Apart.{update_apart, have_paths, has_path}
use Rattle.doc_update.proofs.Commuting.{commute, changed_there}
use Rattle.doc_apply.proofs.Deepening.{leaves_nothing, deep_after}
use Rattle.doc_apply.proofs.Depths.{too_deep}
use Rattle.doc_update.proofs.Steps.{Effect}
use Rattle.doc_apply.proofs.Locality.{located_apart, changed_fits}
use Rattle.doc_update.proofs.Reordering.{paths_conflict-turned}
use Rattle.doc_update.proofs.Facts.{no_some}

abbrev pub effect_of : Change → Effect
effect_of change = effect change.operator change.operand

abbrev pub fits_found : Option Value → Change → Bool
fits_found found change = fits_in (effect_of change) (located change.path found)

abbrev pub deep_found : ℕ → Option Value → Change → Bool
deep_found limit found change = puts_below (effect_of change) limit (length change.path) (located change.path found)

-- ---- cutting out the paths of changes

or_nothing : Option (Option Value) → Option Value
or_nothing None = None
or_nothing (Some found) = found

-- what is found without what stands at the path
pub cut : List (List ℕ) → Option Value → Option Value
cut path found = or_nothing (changed leaves_nothing path found)

fits_nothing : (place : Option (Option Value)) → fits_in leaves_nothing place ≡ true
fits_nothing None = refl
fits_nothing (Some found) = refl

some_of : (o : Option (Option Value)) → is_some o ≡ true → o ≡ Some (or_nothing o)
unfolding or_nothing
some_of None h = absurd (true≢false (sym h))
some_of (Some found) h = refl

pub cut-is : (path : List (List ℕ)) (found : Option Value) → changed leaves_nothing path found ≡ Some (cut path found)
unfolding cut
cut-is path found = some_of (changed leaves_nothing path found) (changed_fits leaves_nothing path found ∙ fits_nothing (located path found))

abbrev pub all_cut : List Change → Option Value → Option Value
all_cut [] found = found
all_cut (change ∷ changes) found = cut change.path (all_cut changes found)

-- ---- one change beside others that don't conflict with it

-- its effect, once the others are cut out
beside_cuts : (change : Change) (changes : List Change) (found g : Option Value) → list_any (conflict change) changes ≡ false → after_change change found ≡ Some g → after_change change (all_cut changes found) ≡ Some (all_cut changes g)
beside_cuts change [] found g apart e = e
beside_cuts change (other ∷ changes) found g apart e =
    let clear = or_parts (conflict change other) (list_any (conflict change) changes) apart in
    let before = beside_cuts change changes found g (clear.1) e in
    sym (ap (option_and_then (after_change change)) (cut-is other.path (all_cut changes found)))
    ∙ sym (commute change.path other.path (effect_of change) leaves_nothing (all_cut changes found) (clear.0))
    ∙ ap (option_and_then (changed leaves_nothing other.path)) before ∙ cut-is other.path (all_cut changes g)

-- what it finds, once the others are cut out
located_beside : (change : Change) (changes : List Change) (found : Option Value) → list_any (conflict change) changes ≡ false → located change.path (all_cut changes found) ≡ located change.path found
located_beside change [] found apart = refl
located_beside change (other ∷ changes) found apart =
    let clear = or_parts (conflict change other) (list_any (conflict change) changes) apart in
    located_apart other.path change.path leaves_nothing (all_cut changes found) (cut other.path (all_cut changes found)) (paths_conflict-turned other.path change.path ∙ clear.0) (cut-is other.path (all_cut changes found))
    ∙ located_beside change changes found (clear.1)

-- what the others find, once it was made
same_deep : (change : Change) (changes : List Change) (limit : ℕ) (found g : Option Value) → list_any (conflict change) changes ≡ false → after_change change found ≡ Some g → list_any (deep_found limit g) changes ≡ list_any (deep_found limit found) changes
same_deep change [] limit found g apart e = refl
same_deep change (other ∷ changes) limit found g apart e =
    let clear = or_parts (conflict change other) (list_any (conflict change) changes) apart in
    ap₂ (λ a b. a || b) (ap (puts_below (effect_of other) limit (length other.path)) (located_apart change.path other.path (effect_of change) found g (clear.0) e)) (same_deep change changes limit found g (clear.1) e)

same_fits : (change : Change) (changes : List Change) (found g : Option Value) → list_any (conflict change) changes ≡ false → after_change change found ≡ Some g → list_all (fits_found g) changes ≡ list_all (fits_found found) changes
same_fits change [] found g apart e = refl
same_fits change (other ∷ changes) found g apart e =
    let clear = or_parts (conflict change other) (list_any (conflict change) changes) apart in
    ap₂ (λ a b. a && b) (ap (fits_in (effect_of other)) (located_apart change.path other.path (effect_of change) found g (clear.0) e)) (same_fits change changes found g (clear.1) e)

-- ---- all changes

pub all_fit : (changes : List Change) (found : Option Value) → are_apart changes ≡ true → is_some (after_changes changes found) ≡ list_all (fits_found found) changes
all_fit [] found apart = refl
all_fit (change ∷ changes) found apart = by (after_change change found) refl (λ g. all_fit changes g)
  where
    by : (o : Option (Option Value)) → after_change change found ≡ o → ((g : Option Value) → are_apart changes ≡ true → is_some (after_changes changes g) ≡ list_all (fits_found g) changes)
        → is_some (option_and_then (after_changes changes) (after_change change found)) ≡ (fits_found found change && list_all (fits_found found) changes)
    by None e rest = ap (λ o. is_some (option_and_then (after_changes changes) o)) e ∙ ap (λ b. b && list_all (fits_found found) changes) (sym (ap is_some e) ∙ changed_fits (effect_of change) change.path found)
    by (Some g) e rest =
        let clear = and_parts (not (list_any (conflict change) changes)) (are_apart changes) apart in
        ap (λ o. is_some (option_and_then (after_changes changes) o)) e ∙ rest g (clear.1) ∙ same_fits change changes found g (not-true _ (clear.0)) e
        ∙ ap (λ b. b && list_all (fits_found found) changes) (sym (ap is_some e) ∙ changed_fits (effect_of change) change.path found)

in_turn : (a p b : Bool) → (a || (p || b)) ≡ ((p || a) || b)
in_turn true true b = refl
in_turn true false b = refl
in_turn false true b = refl
in_turn false false b = refl

pub all_deep : (changes : List Change) (limit : ℕ) (found g : Option Value) → are_apart changes ≡ true → after_changes changes found ≡ Some g
    → too_deep limit g ≡ (list_any (deep_found limit found) changes || too_deep limit (all_cut changes found))
all_deep [] limit found g apart e = ap (too_deep limit) (sym (same_Some found g e))
all_deep (change ∷ changes) limit found g apart e = by (after_change change found) refl (λ g1. all_deep changes limit g1 g)
  where
    by : (o : Option (Option Value)) → after_change change found ≡ o
        → ((g1 : Option Value) → are_apart changes ≡ true → after_changes changes g1 ≡ Some g → too_deep limit g ≡ (list_any (deep_found limit g1) changes || too_deep limit (all_cut changes g1)))
        → too_deep limit g ≡ ((deep_found limit found change || list_any (deep_found limit found) changes) || too_deep limit (cut change.path (all_cut changes found)))
    by None is rest = no_some g (after_changes (change ∷ changes) found) (ap (option_and_then (after_changes changes)) is) e
    by (Some g1) is rest =
        let clear = and_parts (not (list_any (conflict change) changes)) (are_apart changes) apart in
        let alone = not-true _ (clear.0) in
        let later = sym (ap (option_and_then (after_changes changes)) is) ∙ e in
        rest g1 (clear.1) later
        ∙ ap₂ (λ a b. a || b) (same_deep change changes limit found g1 alone is)
        (deep_after change.path limit (effect_of change) (all_cut changes found) (all_cut changes g1) (cut change.path (all_cut changes found)) (beside_cuts change changes found g1 alone is) (cut-is change.path (all_cut changes found))
        ∙ ap (λ place. puts_below (effect_of change) limit (length change.path) place || too_deep limit (cut change.path (all_cut changes found))) (located_beside change changes found alone))
        ∙ in_turn (list_any (deep_found limit found) changes) (deep_found limit found change) (too_deep limit (cut change.path (all_cut changes found)))

-- ---- the body stays there

pub stay_there : (changes : List Change) (found g : Option Value) → list_all has_path changes ≡ true → is_some found ≡ true → after_changes changes found ≡ Some g → is_some g ≡ true
stay_there [] found g paths there e = ap is_some (sym (same_Some found g e)) ∙ there
stay_there (change ∷ changes) found g paths there e = by (after_change change found) refl (λ g1. stay_there changes g1 g)
  where
    kept : (path : List (List ℕ)) → nat_lt 0 (length path) ≡ true → (g1 : Option Value) → changed (effect_of change) path found ≡ Some g1 → is_some g1 ≡ true
    kept [] h g1 is = absurd (true≢false (sym h))
    kept (part ∷ parts) h g1 is = changed_there (effect_of change) part parts found g1 is there

    by : (o : Option (Option Value)) → after_change change found ≡ o → ((g1 : Option Value) → list_all has_path changes ≡ true → is_some g1 ≡ true → after_changes changes g1 ≡ Some g → is_some g ≡ true) → is_some g ≡ true
    by None is rest = no_some g (after_changes (change ∷ changes) found) (ap (option_and_then (after_changes changes)) is) e
    by (Some g1) is rest =
        let parts = and_parts (has_path change) (list_all has_path changes) paths in
        rest g1 (parts.1) (kept change.path (parts.0) g1 is) (sym (ap (option_and_then (after_changes changes)) is) ∙ e)

-- ---- an update

abbrev pub within : List Change → Value → Bool
within changes body = not (list_any (change_is_deep 90 body) changes || too_deep 90 (all_cut changes (Some body)))

pub updated_fits : (update body : Value) → is_update update ≡ true
    → is_some (body_after update body) ≡ (list_all (change_fits body) (changes_of update) && within (changes_of update) body)
updated_fits update body is = by (after_changes (changes_of update) (Some body)) refl
  where
    apart : are_apart (changes_of update) ≡ true
    apart = update_apart update is

    no_fault : (b : Bool) (value : Value) → nat_lt 90 (nesting value) ≡ b → is_some (if_body (Some value)) ≡ not b
    no_fault true value e = ap (λ (b : Bool). is_some (if b then None else Some value)) e
    no_fault false value e = ap (λ (b : Bool). is_some (if b then None else Some value)) e

    there : (g : Option Value) → is_some g ≡ true → is_some (if_body g) ≡ not (too_deep 90 g)
    there None h = absurd (true≢false (sym h))
    there (Some value) h = no_fault (nat_lt 90 (nesting value)) value refl

    by : (o : Option (Option Value)) → after_changes (changes_of update) (Some body) ≡ o → is_some (option_and_then if_body (after_changes (changes_of update) (Some body))) ≡ (list_all (change_fits body) (changes_of update) && within (changes_of update) body)
    by None e = ap (λ o. is_some (option_and_then if_body o)) e ∙ ap (λ b. b && within (changes_of update) body) (sym (ap is_some e) ∙ all_fit (changes_of update) (Some body) apart)
    by (Some g) e =
        ap (λ o. is_some (option_and_then if_body o)) e ∙ there g (stay_there (changes_of update) (Some body) g (have_paths (fields_of update)) refl e)
        ∙ ap not (all_deep (changes_of update) 90 (Some body) g apart e)
        ∙ ap (λ b. b && within (changes_of update) body) (sym (ap is_some e) ∙ all_fit (changes_of update) (Some body) apart)
