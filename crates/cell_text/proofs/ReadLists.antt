-- Lists of which each value is read in turn.
use Rattle.std.proofs.Common.{◌≡◌, ℕ, ◌+◌, List, [], ◌∷◌, ◌++◌, Option, Some, None, refl, ap, sym, ◌∙◌, ◌<◌, length, drop, map, get_or, append_assoc}
use Rattle.std.proofs.lemmas.List.{at_drop_more}
use Rattle.std.specs.Option.{option_map}
use Rattle.cell_text.specs.Parts.{all_read}

-- what was read, and what is read after it
abbrev pub after_those : {A : Type 0} → List A → Option (List A) → Option (List A)
after_those read (Some rest) = Some (read ++ rest)
after_those read None = None

abbrev one_more : {A : Type 0} → Option A → Option (List A) → Option (List A)
one_more (Some first) rest = option_map (λ others. first ∷ others) rest
one_more None rest = None

pub after_none : {A : Type 0} (read : Option (List A)) → after_those [] read ≡ read
after_none (Some rest) = refl
after_none None = refl

after_push : {A : Type 0} (those : List A) (first : A) (read : Option (List A)) → after_those (those ++ first ∷ []) read ≡ after_those those (one_more (Some first) read)
after_push those first (Some rest) = ap Some (append_assoc those (first ∷ []) rest)
after_push those first None = refl

opened : {A B : Type 0} (f : B → Option A) (value : B) (rest : List B) (read : Option A) → f value ≡ read → one_more read (all_read (map f rest)) ≡ all_read (map f (value ∷ rest))
opened {A = A} f value rest (Some first) is = ap (λ (read : Option A). all_read (read ∷ map f rest)) (sym is)
opened {A = A} f value rest None is = ap (λ (read : Option A). all_read (read ∷ map f rest)) (sym is)

-- one more value read
pub after_next : {A B : Type 0} (f : B → Option A) (values : List B) (i : ℕ) (those : List A) (value : B) (first : A) → i < length values → value ≡ get_or values i value → Some first ≡ f value
    → after_those (those ++ first ∷ []) (all_read (map f (drop (i + 1) values))) ≡ after_those those (all_read (map f (drop i values)))
after_next {A = A} {B = B} f values i those value first within here is =
    let run = λ (rest : List B). after_those those (all_read (map f rest)) in
    after_push those first (all_read (map f (drop (i + 1) values)))
    ∙ ap (after_those those) (opened f value (drop (i + 1) values) (Some first) (sym is))
    ∙ sym (at_drop_more run values i value within ∙ ap (λ (one : B). run (one ∷ drop (i + 1) values)) (sym here))
