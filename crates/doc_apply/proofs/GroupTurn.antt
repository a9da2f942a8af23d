-- One turn of the pass over the groups of a slice of changes.
use Rattle.std.proofs.Common.{◌≡◌, ℕ, ◌+◌, ◌-◌, ◌<◌, true, List, [], ◌∷◌, ◌++◌, length, get_or, take, drop, map, Option, Some, None, option_and_then, sym, ap, ◌∙◌}
use Rattle.std.proofs.lemmas.List.{at_drop_more}
use Rattle.doc_value.specs.declared.value.Value.{Value}
use Rattle.doc_update.specs.Changes.{Change}
use Rattle.doc_update.specs.Conflicts.{are_apart}
use Rattle.doc_apply.specs.Groups.{first_head, count_head, heads_rise, change_below}
use Rattle.doc_update.specs.Places.{part_of}
use Rattle.doc_apply.specs.Puts.{placed_all}
use Rattle.doc_update.specs.Updates.{after_changes}
use Rattle.doc_update.specs.declared.change.Change.{Change as Listed}
use Rattle.doc_apply.specs.declared.put.Put.{Put}
use Rattle.doc_apply.proofs.GroupedSlices.{group-below, others-left, first_goes_on, measure_falls}
use Rattle.doc_apply.proofs.Grouping.{puts_before, below_head, apart_below, longest}
use Rattle.doc_apply.proofs.GroupSteps.{group, others, group_heads, parts_apart, rest_rises, group_unfit, group_put, put_before}

-- the changes that are left, at their depth
abbrev pub left_at : ℕ → ℕ → List Listed → List Change
left_at depth start changes = map (change_below depth) (drop start changes)

-- what holds before a turn, of the part that the next group goes on with
pub record IsReady (depth start count : ℕ) (changes : List Listed) (puts : List Put) (name : List ℕ) : Type 0 where
  pub head : first_head (left_at depth start changes) ≡ Some name
  pub apart : are_apart (left_at depth start changes) ≡ true
  pub rise : heads_rise (left_at depth start changes) ≡ true
  pub before : puts_before puts (left_at depth start changes) ≡ true
  pub counted : count ≡ count_head name (left_at depth start changes)

-- the group, below its part
below_part : (d s k : ℕ) (changes : List Listed) (name : List ℕ) → k ≡ count_head name (left_at d s changes) → map (change_below (d + 1)) (take k (drop s changes)) ≡ map below_head (group name (left_at d s changes))
below_part d s k changes name is = group-below d k (drop s changes) ∙ ap (λ n. map below_head (take n (left_at d s changes))) is

left_over : (d s k : ℕ) (changes : List Listed) (name : List ℕ) → k ≡ count_head name (left_at d s changes) → left_at d (s + k) changes ≡ others name (left_at d s changes)
left_over d s k changes name is = others-left d s k changes ∙ ap (λ n. drop n (left_at d s changes)) is

pub group_apart : (d s k : ℕ) (changes : List Listed) (puts : List Put) (name : List ℕ) → IsReady d s k changes puts name → are_apart (map (change_below (d + 1)) (take k (drop s changes))) ≡ true
group_apart d s k changes puts name ready =
    ap are_apart (below_part d s k changes name (ready.counted))
    ∙ apart_below name (group name (left_at d s changes)) (group_heads name (left_at d s changes)) ((parts_apart (count_head name (left_at d s changes)) (left_at d s changes) (ready.apart)).0)

pub turn_unfit : (d s k : ℕ) (changes : List Listed) (puts : List Put) (name : List ℕ) (found : Option Value) → IsReady d s k changes puts name
    → after_changes (map (change_below (d + 1)) (take k (drop s changes))) (part_of name found) ≡ None → option_and_then (after_changes (left_at d s changes)) (placed_all puts found) ≡ None
turn_unfit d s k changes puts name found ready is =
    group_unfit name (left_at d s changes) puts found (ready.head) (ready.apart) (ready.before) (sym (ap (λ cs. after_changes cs (part_of name found)) (below_part d s k changes name (ready.counted))) ∙ is)

pub record IsTurned (depth start : ℕ) (changes : List Listed) (puts : List Put) (found : Option Value) (before : Option (Option Value)) : Type 0 where
  pub all : option_and_then (after_changes (left_at depth start changes)) (placed_all puts found) ≡ before
  pub apart : are_apart (left_at depth start changes) ≡ true
  pub rise : heads_rise (left_at depth start changes) ≡ true
  pub early : puts_before puts (left_at depth start changes) ≡ true

pub turn_put : (d s k : ℕ) (changes : List Listed) (puts : List Put) (name : List ℕ) (found after : Option Value) → IsReady d s k changes puts name
    → after_changes (map (change_below (d + 1)) (take k (drop s changes))) (part_of name found) ≡ Some after
    → IsTurned d (s + k) changes (puts ++ record { part = name; after = after } ∷ []) found (option_and_then (after_changes (left_at d s changes)) (placed_all puts found))
turn_put d s k changes puts name found after ready is =
    let cs = left_at d s changes in
    let over = left_over d s k changes name (ready.counted) in
    let more = puts ++ record { part = name; after = after } ∷ [] in
    record {
      all = ap (λ rest. option_and_then (after_changes rest) (placed_all more found)) over
          ∙ group_put name cs puts found after (ready.head) (ready.apart) (ready.before) (sym (ap (λ group. after_changes group (part_of name found)) (below_part d s k changes name (ready.counted))) ∙ is);
      apart = ap are_apart over ∙ (parts_apart (count_head name cs) cs (ready.apart)).1;
      rise = ap heads_rise over ∙ rest_rises (count_head name cs) cs (ready.rise);
      early = ap (puts_before more) over ∙ put_before name cs puts after (ready.head) (ready.rise) (ready.before);
    }

-- the path goes on, and the call below is a smaller one
pub record GoesOn (depth start count : ℕ) (changes : List Listed) (first : Listed) : Type 0 where
  pub deep : depth < length first.parts
  pub falls : longest (take count (drop start changes)) - (depth + 1) < longest changes - depth

pub goes_on : (d s k : ℕ) (changes : List Listed) (first : Listed) (name : List ℕ) → s < length changes → first ≡ get_or changes s first → first_head (left_at d s changes) ≡ Some name → GoesOn d s k changes first
goes_on d s k changes first name within is head =
    let whole : drop s changes ≡ first ∷ drop (s + 1) changes = at_drop_more (λ (cs : List Listed). cs) changes s first within ∙ ap (λ (c : Listed). c ∷ drop (s + 1) changes) (sym is) in
    let deep = first_goes_on d (drop s changes) first (drop (s + 1) changes) name whole head in
    record { deep = deep; falls = measure_falls d s k changes first (drop (s + 1) changes) whole deep }
