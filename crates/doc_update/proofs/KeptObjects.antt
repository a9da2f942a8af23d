-- What an update makes of an object is an object, and of a body no deeper than a body.
use Rattle.std.proofs.Common.{◌≡◌, ℕ, ◌≤◌, Bool, true, false, ◌&&◌, List, [], ◌∷◌, length, nat_lt, Option, Some, None, option_and_then, is_some, IfSome, if◌then◌else◌, refl, sym, ap, ◌∙◌, arith}
use Rattle.std.specs.List.{list_all}
use Rattle.std.proofs.lemmas.Bool.{true≢false, and_parts}
use Rattle.std.proofs.lemmas.Bool.Decides.{nat_tests}
use Rattle.std.proofs.lemmas.Option.{same_Some}
use Rattle.doc_value.specs.declared.value.Value.{Value}
use Rattle.doc_value.specs.Depth.{nesting}
use Rattle.doc_update.specs.Changes.{Change, changes_of, fields_of}
use Rattle.doc_update.specs.Effects.{effect}
use Rattle.doc_update.specs.Places.{is_open, changed}
use Rattle.doc_update.specs.Syntax.{is_object}
use Rattle.doc_update.specs.Updates.{after_change, after_changes, if_body, is_too_deep, body_after, updated}
use Rattle.doc_update.proofs.Apart.{have_paths, has_path}
use Rattle.doc_update.proofs.Commuting.{changed_there}
use Rattle.doc_update.proofs.Facts.{no_some}
use Rattle.doc_update.proofs.Steps.{Effect, by_steps}
use Rattle.doc_update.proofs.PlacedLaws.{put_there}

-- where an object was found, an object is found afterwards
abbrev is_kept : Option Value → Bool
is_kept found = is_some found && is_open found

kept_parts : (found : Option Value) → is_some found ≡ true → is_open found ≡ true → is_kept found ≡ true
kept_parts found h k = ap (λ b. b && is_open found) h ∙ k

one_kept : (effect : Effect) (path : List (List ℕ)) (found g : Option Value) → nat_lt 0 (length path) ≡ true → is_kept found ≡ true → changed effect path found ≡ Some g → is_kept g ≡ true
one_kept effect [] found g h kept e = absurd (true≢false (sym h))
one_kept effect (part ∷ parts) found g h kept e =
    let both = and_parts (is_some found) (is_open found) kept in
    kept_parts g (changed_there effect part parts found g e (both.0)) (by_steps effect part parts found g e (λ after below put. (put_there found part after g put).2 ∙ both.1))

all_kept : (changes : List Change) (found g : Option Value) → list_all has_path changes ≡ true → is_kept found ≡ true → after_changes changes found ≡ Some g → is_kept g ≡ true
all_kept [] found g paths kept e = ap is_kept (sym (same_Some found g e)) ∙ kept
all_kept (change ∷ changes) found g paths kept e = by (after_change change found) refl (λ f. all_kept changes f g)
  where
    by : (o : Option (Option Value)) → after_change change found ≡ o → ((f : Option Value) → list_all has_path changes ≡ true → is_kept f ≡ true → after_changes changes f ≡ Some g → is_kept g ≡ true) → is_kept g ≡ true
    by None is rest = no_some g (after_changes (change ∷ changes) found) (ap (option_and_then (after_changes changes)) is) e
    by (Some f) is rest =
        let parts = and_parts (has_path change) (list_all has_path changes) paths in
        rest f (parts.1) (one_kept (effect change.operator change.operand) change.path found f (parts.0) kept is) (sym (ap (option_and_then (after_changes changes)) is) ∙ e)

pub record IsBodyLike (made : Value) : Type 0 where
  pub object : is_object made ≡ true
  pub nests : nesting made ≤ 90

within : (value : Value) → is_too_deep value ≡ false → nesting value ≤ 90
within value h = grind (arith, nat_tests)

kept_body : (after : Option (Option Value)) → ((g : Option Value) → after ≡ Some g → is_kept g ≡ true) → IfSome (option_and_then if_body after) IsBodyLike
kept_body None h = tt
kept_body (Some None) h = tt
kept_body (Some (Some value)) h = by (is_too_deep value) refl
  where
    by : (b : Bool) → is_too_deep value ≡ b → IfSome (if b then None else Some value) IsBodyLike
    by true e = tt
    by false e = record { object = h (Some value) refl; nests = within value e }

pub kept_updated : (update body : Value) → is_object body ≡ true → IfSome (updated update body) IsBodyLike
kept_updated update body h = by (is_too_deep body)
  where
    by : (b : Bool) → IfSome (if b then None else body_after update body) IsBodyLike
    by true = tt
    by false = kept_body (after_changes (changes_of update) (Some body)) (λ g e. all_kept (changes_of update) (Some body) g (have_paths (fields_of update)) h e)
