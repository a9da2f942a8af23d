-- Groups of changes as parts of a slice, at a depth of their paths.
use Rattle.std.proofs.Common.{◌≡◌, ℕ, zero, suc, ◌+◌, ◌-◌, ◌<◌, ◌≤◌, List, [], ◌∷◌, length, take, drop, map, Some, refl, sym, ap, ap₂, ◌∙◌, arith, add-one}
use Rattle.std.proofs.lemmas.List.{drop-map, take-map, drop-drop}
use Rattle.doc_update.specs.Changes.{Change}
use Rattle.doc_apply.specs.Groups.{first_part, first_head, change_below}
use Rattle.doc_update.specs.declared.change.Change.{Change as Listed}
use Rattle.doc_apply.proofs.Grouping.{longest, rest_of, below_head}

rest-drop : (d : ℕ) (parts : List (List ℕ)) → drop (suc d) parts ≡ rest_of (drop d parts)
rest-drop zero [] = refl
rest-drop zero (part ∷ parts) = refl
rest-drop (suc d) [] = refl
rest-drop (suc d) (part ∷ parts) = rest-drop d parts

pub below-next : (d : ℕ) (changes : List Listed) → map (change_below (d + 1)) changes ≡ map below_head (map (change_below d) changes)
below-next d [] = refl
below-next d (change ∷ changes) =
    ap₂ (λ (c : Change) (cs : List Change). c ∷ cs)
    (ap (λ (path : List (List ℕ)). record { operator = change.operator; name = change.field.now.name; path = path; operand = change.field.now.value }) (ap (λ n. drop n change.parts) (add-one d) ∙ rest-drop d change.parts))
    (below-next d changes)

pub group-below : (d n : ℕ) (changes : List Listed) → map (change_below (d + 1)) (take n changes) ≡ map below_head (take n (map (change_below d) changes))
group-below d n changes = below-next d (take n changes) ∙ ap (map below_head) (sym (take-map (change_below d) n changes))

drop-more : (s k : ℕ) (changes : List Listed) → drop (s + k) changes ≡ drop k (drop s changes)
drop-more s k changes = sym (drop-drop k s changes)

pub others-left : (d s k : ℕ) (changes : List Listed) → map (change_below d) (drop (s + k) changes) ≡ drop k (map (change_below d) (drop s changes))
others-left d s k changes = ap (map (change_below d)) (drop-more s k changes) ∙ sym (drop-map (change_below d) k (drop s changes))

-- ---- how far a path goes on

some_left : (d : ℕ) (parts : List (List ℕ)) (name : List ℕ) → first_part (drop d parts) ≡ Some name → d < length parts
some_left zero [] name h = cc
some_left zero (part ∷ parts) name h = omega arith
some_left (suc d) [] name h = cc
some_left (suc d) (part ∷ parts) name h = let more = some_left d parts name h in omega arith

pub first_goes_on : (d : ℕ) (changes : List Listed) (change : Listed) (rest : List Listed) (name : List ℕ) → changes ≡ change ∷ rest → first_head (map (change_below d) changes) ≡ Some name → d < length change.parts
first_goes_on d changes change rest name is h = some_left d change.parts name (sym (ap (λ cs. first_head (map (change_below d) cs)) is) ∙ h)

pub longest-first : (change : Listed) (rest : List Listed) → length change.parts ≤ longest (change ∷ rest)
longest-first change rest = omega arith

pub longest-take : (n : ℕ) (changes : List Listed) → longest (take n changes) ≤ longest changes
longest-take zero changes = omega arith
longest-take (suc n) [] = omega arith
longest-take (suc n) (change ∷ changes) = let rest = longest-take n changes in omega arith

pub longest-drop : (n : ℕ) (changes : List Listed) → longest (drop n changes) ≤ longest changes
longest-drop zero changes = omega arith
longest-drop (suc n) [] = omega arith
longest-drop (suc n) (change ∷ changes) = let rest = longest-drop n changes in omega arith

pub measure_falls : (d s k : ℕ) (changes : List Listed) (first : Listed) (rest : List Listed) → drop s changes ≡ first ∷ rest → d < length first.parts → longest (take k (drop s changes)) - (d + 1) < longest changes - d
measure_falls d s k changes first rest is deep =
    let taken = longest-take k (drop s changes) in
    let left = longest-drop s changes in
    let own = longest-first first rest in
    let same : longest (drop s changes) ≡ longest (first ∷ rest) = ap longest is in
    omega arith
