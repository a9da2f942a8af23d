-- To a body that isn't too deep an update fits exactly where each of its changes alone is good.
use Rattle.std.proofs.Common.{◌≡◌, ℕ, zero, suc, Bool, true, false, ◌&&◌, ◌||◌, not, List, [], ◌∷◌, Option, Some, None, is_some, refl, sym, ap, ◌∙◌}
use Rattle.std.specs.List.{list_any, list_all}
use Rattle.std.proofs.lemmas.Bool.{true≢false}
use Rattle.doc_value.specs.declared.value.Named.{Named}
use Rattle.doc_value.specs.declared.value.Value.{Value, Object}
use Rattle.doc_update.specs.Changes.{Change, changes_of}
use Rattle.doc_apply.specs.Fit.{change_fits, change_is_deep, change_is_good}
use Rattle.doc_update.specs.Places.{part_of, placed, changed, with_field}
use Rattle.doc_update.specs.Syntax.{is_update, is_object}
use Rattle.doc_update.specs.Updates.{body_after, updated, is_too_deep}
use Rattle.doc_apply.proofs.Deepening.{leaves_nothing, nothing_left}
use Rattle.doc_apply.proofs.Depths.{too_deep, deep_fields, deep-Object, deep-Object-first, deep-with, shallow-named}
use Rattle.doc_apply.proofs.FitsAlone.{cut, cut-is, all_cut, updated_fits}
use Rattle.doc_update.proofs.Steps.{by_steps}
use Rattle.doc_update.proofs.PlacedLaws.{part_of-Object, placed-Object, placed-closed, placed-unfit, by_kind}
use Rattle.doc_update.proofs.Facts.{inner, no_some}
use Rattle.std.proofs.Math.Bool.{or-false}

-- ---- cutting makes nothing deeper

abbrev StaysShallow : Option Value → Type 0
StaysShallow found = (limit : ℕ) (part : List ℕ) (parts : List (List ℕ)) (left h : Option Value) → too_deep limit found ≡ false
    → changed leaves_nothing parts (part_of part found) ≡ Some left → placed part found left ≡ Some h
    → ((lower : ℕ) → too_deep lower (part_of part found) ≡ false → too_deep lower left ≡ false) → too_deep limit h ≡ false

shallow_nothing : StaysShallow None
shallow_nothing limit part parts left h shallow below put rest =
    let gone : left ≡ None = nothing_left parts left below in
    ap (too_deep limit) (sym (inner (placed part None left) h None put (ap (placed part None) gone)))

shallow_object : (fields : List (Named Value)) → StaysShallow (Some (Object fields))
shallow_object fields zero part parts left h shallow below put rest = absurd (true≢false (sym (deep-Object-first fields) ∙ shallow))
shallow_object fields (suc limit) part parts left h shallow below put rest =
    let is : Some (Object (with_field part left fields)) ≡ h = inner _ h _ put (placed-Object part fields left) in
    let level : deep_fields limit fields ≡ false = sym (deep-Object limit fields) ∙ shallow in
    ap (too_deep (suc limit)) (sym is) ∙ deep-Object limit (with_field part left fields) ∙ deep-with limit part left fields level
    ∙ rest limit (ap (too_deep limit) (part_of-Object part fields) ∙ shallow-named limit part fields level)

shallow_closed : (value : Value) → is_object value ≡ false → StaysShallow (Some value)
shallow_closed value closed limit part parts None h shallow below put rest = ap (too_deep limit) (sym (inner _ h _ put (placed-closed part value closed))) ∙ shallow
shallow_closed value closed limit part parts (Some left) h shallow below put rest = no_some h _ (placed-unfit part value left closed) put

shallow_left : (found : Option Value) → StaysShallow found
shallow_left = by_kind StaysShallow shallow_nothing shallow_object shallow_closed

shallow_changed : (path : List (List ℕ)) (limit : ℕ) (found h : Option Value) → too_deep limit found ≡ false → changed leaves_nothing path found ≡ Some h → too_deep limit h ≡ false
shallow_changed [] limit found h shallow e = ap (too_deep limit) (sym (inner _ h None e refl))
shallow_changed (part ∷ parts) limit found h shallow e =
    by_steps leaves_nothing part parts found h e (λ left below put. shallow_left found limit part parts left h shallow below put (λ lower level. shallow_changed parts lower (part_of part found) left level below))

shallow_cut : (changes : List Change) (limit : ℕ) (found : Option Value) → too_deep limit found ≡ false → too_deep limit (all_cut changes found) ≡ false
shallow_cut [] limit found shallow = shallow
shallow_cut (change ∷ changes) limit found shallow =
    shallow_changed change.path limit (all_cut changes found) (cut change.path (all_cut changes found)) (shallow_cut changes limit found shallow) (cut-is change.path (all_cut changes found))

-- ---- all changes are good

all_good : (body : Value) (changes : List Change) → list_all (change_is_good body) changes ≡ (list_all (change_fits body) changes && not (list_any (change_is_deep 90 body) changes))
all_good body [] = refl
all_good body (change ∷ changes) =
    ap (λ b. change_is_good body change && b) (all_good body changes)
    ∙ mixed (change_fits body change) (change_is_deep 90 body change) (list_all (change_fits body) changes) (list_any (change_is_deep 90 body) changes)
  where
    mixed : (a b x y : Bool) → ((a && not b) && (x && not y)) ≡ ((a && x) && not (b || y))
    mixed true true true y = refl
    mixed true true false y = refl
    mixed true false x y = refl
    mixed false b x y = refl

pub fits_shallow : (update body : Value) → is_update update ≡ true → is_too_deep body ≡ false → is_some (updated update body) ≡ list_all (change_is_good body) (changes_of update)
fits_shallow update body is shallow =
    let kept : is_some (updated update body) ≡ is_some (body_after update body) = simp shallow in
    kept ∙ updated_fits update body is
    ∙ ap (λ b. list_all (change_fits body) (changes_of update) && not (list_any (change_is_deep 90 body) (changes_of update) || b)) (shallow_cut (changes_of update) 90 (Some body) shallow)
    ∙ ap (λ b. list_all (change_fits body) (changes_of update) && not b) (or-false (list_any (change_is_deep 90 body) (changes_of update)))
    ∙ sym (all_good body (changes_of update))
