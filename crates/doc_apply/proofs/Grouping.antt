-- Changes grouped by the part that their paths begin with: each group is made below its part, and put in turn.
use Rattle.std.proofs.Common.{◌≡◌, ℕ, Bool, true, false, ◌&&◌, ◌||◌, not, List, [], ◌∷◌, length, map, Option, Some, None, option_and_then, refl, sym, ap, ap₂, ◌∙◌}
use Rattle.std.specs.List.{list_any, list_all}
use Rattle.std.proofs.lemmas.Bool.{true≢false, and_parts, and_from, or_parts, not-true}
use Rattle.doc_value.specs.declared.value.Value.{Value}
use Rattle.doc_value.specs.Depth.{deepest}
use Rattle.doc_update.specs.Changes.{Change}
use Rattle.doc_update.specs.Conflicts.{paths_conflict, conflict, are_apart}
use Rattle.doc_update.specs.Effects.{effect}
use Rattle.doc_apply.specs.Groups.{first_head, begins_with, has_head}
use Rattle.doc_update.specs.Places.{part_of, placed, changed}
use Rattle.doc_update.specs.Updates.{after_change, after_changes}
use Rattle.doc_update.specs.declared.change.Change.{Change as Listed}
use Rattle.doc_apply.specs.declared.put.Put.{Put}
use Rattle.doc_update.proofs.Commuting.{fused}
use Rattle.doc_update.proofs.Steps.{Effect}
use Rattle.doc_value.proofs.NameOrder.{before, equal-name, bytes_eq-itself}
use Rattle.doc_update.proofs.Reordering.{then_then}

abbrev pub longest : List Listed → ℕ
longest changes = deepest (map (λ change. length change.parts) changes)

-- the parts put so far stand before the part that the next change's path begins with
abbrev pub puts_before_part : List Put → Option (List ℕ) → Bool
puts_before_part puts None = true
puts_before_part puts (Some part) = list_all (λ put. before put.part part) puts

abbrev pub puts_before : List Put → List Change → Bool
puts_before puts changes = puts_before_part puts (first_head changes)

-- ---- a path without its first part

abbrev pub rest_of : List (List ℕ) → List (List ℕ)
rest_of [] = []
rest_of (part ∷ parts) = parts

abbrev pub below_head : Change → Change
below_head change = record { operator = change.operator; name = change.name; path = rest_of change.path; operand = change.operand }

-- the path of a change in a group
headed : (name : List ℕ) (path : List (List ℕ)) → begins_with name path ≡ true → path ≡ name ∷ rest_of path
headed name [] h = absurd (true≢false (sym h))
headed name (part ∷ parts) h = ap (λ (p : List ℕ). p ∷ parts) (equal-name part name h)

conflict_below : (name : List ℕ) (a b : List (List ℕ)) → begins_with name a ≡ true → begins_with name b ≡ true → paths_conflict (rest_of a) (rest_of b) ≡ paths_conflict a b
conflict_below name a b h k =
    ap (λ (t : Bool). t && paths_conflict (rest_of a) (rest_of b)) (sym (bytes_eq-itself name)) ∙ sym (ap₂ paths_conflict (headed name a h) (headed name b k))

-- ---- groups are apart below their part

none_below : (name : List ℕ) (change : Change) (group : List Change) → has_head name change ≡ true → list_all (has_head name) group ≡ true → list_any (conflict (below_head change)) (map below_head group) ≡ list_any (conflict change) group
none_below name change [] h k = refl
none_below name change (other ∷ group) h k =
    let parts = and_parts (has_head name other) (list_all (has_head name) group) k in
    ap₂ (λ a b. a || b) (conflict_below name change.path other.path h (parts.0)) (none_below name change group h (parts.1))

pub apart_below : (name : List ℕ) (group : List Change) → list_all (has_head name) group ≡ true → are_apart group ≡ true → are_apart (map below_head group) ≡ true
apart_below name [] h apart = refl
apart_below name (change ∷ group) h apart =
    let heads = and_parts (has_head name change) (list_all (has_head name) group) h in
    let clear = and_parts (not (list_any (conflict change) group)) (are_apart group) apart in
    and_from (not (list_any (conflict (below_head change)) (map below_head group))) (are_apart (map below_head group)) (ap not (none_below name change group (heads.0) (heads.1)) ∙ clear.0) (apart_below name group (heads.1) (clear.1))

-- ---- a group is one put

then_some : (o : Option (Option Value)) → option_and_then (λ (g : Option Value). Some g) o ≡ o
then_some None = refl
then_some (Some g) = refl

then_id : (change : Change) (found : Option Value) → after_changes (change ∷ []) found ≡ after_change change found
then_id change found = same (after_change change found)
  where
    same : (o : Option (Option Value)) → option_and_then (after_changes []) o ≡ o
    same None = refl
    same (Some g) = refl

-- further changes of the group, once something was put there
fused_group : (name : List ℕ) (change : Change) (group : List Change) (found : Option Value) (below : Option (Option Value)) → has_head name change ≡ true → list_all (has_head name) group ≡ true → list_any (conflict change) group ≡ false
    → option_and_then (after_changes group) (option_and_then (placed name found) below) ≡ option_and_then (placed name found) (option_and_then (after_changes (map below_head group)) below)
fused_group name change [] found below h k apart = then_empty (option_and_then (placed name found) below) ∙ sym (ap (option_and_then (placed name found)) (then_empty below))
  where
    then_empty : (o : Option (Option Value)) → option_and_then (after_changes []) o ≡ o
    then_empty None = refl
    then_empty (Some g) = refl
fused_group name change (other ∷ group) found below h k apart =
    let heads = and_parts (has_head name other) (list_all (has_head name) group) k in
    let clear = or_parts (conflict change other) (list_any (conflict change) group) apart in
    then_then (after_change other) (after_changes group) (option_and_then (placed name found) below)
    ∙ ap (option_and_then (after_changes group)) (one (rest_of other.path) (headed name other.path (heads.0)) (conflict_below name change.path other.path h (heads.0) ∙ clear.0))
    ∙ fused_group name change group found (option_and_then (after_change (below_head other)) below) h (heads.1) (clear.1)
    ∙ ap (option_and_then (placed name found)) (sym (then_then (after_change (below_head other)) (after_changes (map below_head group)) below))
  where
    eff : Effect
    eff = effect other.operator other.operand

    one : (rest : List (List ℕ)) → other.path ≡ name ∷ rest → paths_conflict (rest_of change.path) rest ≡ false
        → option_and_then (after_change other) (option_and_then (placed name found) below) ≡ option_and_then (placed name found) (option_and_then (changed (effect other.operator other.operand) rest) below)
    one [] is clear = absurd (true≢false (sym (to_none (rest_of change.path)) ∙ clear))
      where
        to_none : (parts : List (List ℕ)) → paths_conflict parts [] ≡ true
        to_none [] = refl
        to_none (p ∷ ps) = refl
    one (part ∷ parts) is clear =
        ap (λ (path : List (List ℕ)). option_and_then (changed (effect other.operator other.operand) path) (option_and_then (placed name found) below)) is
        ∙ fused (effect other.operator other.operand) name part parts found below

pub group_is : (name : List ℕ) (change : Change) (group : List Change) (found : Option Value) → list_all (has_head name) (change ∷ group) ≡ true → are_apart (change ∷ group) ≡ true
    → after_changes (change ∷ group) found ≡ option_and_then (placed name found) (after_changes (map below_head (change ∷ group)) (part_of name found))
group_is name change group found h apart =
    let heads = and_parts (has_head name change) (list_all (has_head name) group) h in
    let clear = and_parts (not (list_any (conflict change) group)) (are_apart group) apart in
    ap (λ (path : List (List ℕ)). option_and_then (after_changes group) (changed (effect change.operator change.operand) path found)) (headed name change.path (heads.0))
    ∙ fused_group name change group found (changed (effect change.operator change.operand) (rest_of change.path) (part_of name found)) (heads.0) (heads.1) (not-true _ (clear.0))
