-- The changes of an update, sorted, make of a body what they make in their own order.
use Rattle.std.proofs.Common.{◌≡◌, true, false, List, [], ◌∷◌, map, Option, Some, option_and_then, refl, sym, ap, subst}
use Rattle.std.specs.List.Sorted.{IsPermutation}
use Rattle.std.proofs.lemmas.List.Sorted.{IsPermutation-map}
use Rattle.doc_value.specs.declared.value.Value.{Value}
use Rattle.doc_update.specs.Changes.{Change, changes_of}
use Rattle.doc_update.specs.Conflicts.{are_apart}
use Rattle.doc_update.specs.Listed.{change_listed}
use Rattle.doc_apply.specs.Groups.{change_below}
use Rattle.doc_update.specs.Syntax.{is_update}
use Rattle.doc_update.specs.Updates.{after_changes, if_body, is_too_deep, updated}
use Rattle.doc_update.specs.declared.change.Change.{Change as Listed}
use Rattle.doc_update.proofs.Apart.{update_apart}
use Rattle.doc_update.proofs.Reordering.{IsReordered, reordered}

at_top : (changes : List Listed) → map (change_below 0) changes ≡ map change_listed changes
at_top [] = refl
at_top (change ∷ changes) = ap (λ (cs : List Change). change_listed change ∷ cs) (at_top changes)

in_order : (update : Value) (changes sorted : List Listed) → map change_listed changes ≡ changes_of update → IsPermutation changes sorted → IsReordered (changes_of update) (map (change_below 0) sorted)
in_order update changes sorted is moved =
    subst (λ cs. IsReordered cs (map (change_below 0) sorted)) is
    (subst (λ cs. IsReordered (map change_listed changes) cs) (sym (at_top sorted)) (reordered (map change_listed changes) (map change_listed sorted) (IsPermutation-map change_listed changes sorted moved)))

pub sorted_apart : (update : Value) (changes sorted : List Listed) → is_update update ≡ true → map change_listed changes ≡ changes_of update → IsPermutation changes sorted → are_apart (map (change_below 0) sorted) ≡ true
sorted_apart update changes sorted read is moved = (in_order update changes sorted is moved).apart (update_apart update read)

pub sorted_alike : (update : Value) (changes sorted : List Listed) (found : Option Value) → is_update update ≡ true → map change_listed changes ≡ changes_of update → IsPermutation changes sorted
    → after_changes (map (change_below 0) sorted) found ≡ after_changes (changes_of update) found
sorted_alike update changes sorted found read is moved = (in_order update changes sorted is moved).alike (update_apart update read) found

-- the body after, from what the sorted changes make
pub updated-from : (update body : Value) (after : Option (Option Value)) → is_too_deep body ≡ false → after ≡ after_changes (changes_of update) (Some body) → updated update body ≡ option_and_then if_body after
updated-from update body after shallow is = simp shallow (ap (option_and_then if_body) (sym is))
