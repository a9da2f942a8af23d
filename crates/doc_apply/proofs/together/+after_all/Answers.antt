use Rattle.std.proofs.Common.{◌≡◌, ℕ, ◌+◌, ◌-◌, ◌<◌, ◌≤◌, ◌++◌, [], ◌∷◌, true, List, Option, Some, length, take, drop, map, option_and_then, sym, ap, ap₂, ◌∙◌, subst, arith, length-drop}
use Rattle.std.specs.Option.{option_copied}
use Rattle.doc_value.specs.declared.value.Value.{Value}
use Rattle.doc_update.specs.Conflicts.{are_apart}
use Rattle.doc_apply.specs.Groups.{first_head, count_head, heads_rise, change_below}
use Rattle.doc_update.specs.Places.{part_of}
use Rattle.doc_apply.specs.Puts.{placed_all}
use Rattle.doc_update.specs.Updates.{after_changes}
use Rattle.doc_update.specs.declared.change.Change.{Change as Listed}
use Rattle.doc_apply.specs.declared.put.Put.{Put}
use Rattle.doc_apply.proofs.GroupTurn.{left_at, IsReady, group_apart, turn_unfit, turn_put, goes_on}
use Rattle.doc_apply.proofs.Grouping.{longest, puts_before}
use Rattle.doc_apply.proofs.together.+after_all.Goals as goal

-- the slices of a turn, as parts of all changes
ready : (d s k : ℕ) (changes rest : List Listed) (puts : List Put) (name : List ℕ) → rest ≡ drop s changes → Some name ≡ first_head (map (change_below d) rest) → k ≡ count_head name (map (change_below d) rest)
    → are_apart (left_at d s changes) ≡ true → heads_rise (left_at d s changes) ≡ true → puts_before puts (left_at d s changes) ≡ true → IsReady d s k changes puts name
ready d s k changes rest puts name is head counted apart rise before =
    record { head = ap (λ cs. first_head (map (change_below d) cs)) (sym is) ∙ sym head; apart = apart; rise = rise; before = before; counted = counted ∙ ap (λ cs. count_head name (map (change_below d) cs)) is }

-- what the group makes, as what its changes make below their part
made : (d k next : ℕ) (rest group : List Listed) (part found : Option Value) (below : Option (Option Value)) → next ≡ d + 1 → group ≡ take k rest → found ≡ part
    → below ≡ after_changes (map (change_below next) group) found → after_changes (map (change_below (d + 1)) (take k rest)) part ≡ below
made d k next rest group part found below n g f is =
    sym (is ∙ ap₂ (λ (m : ℕ) (cs : List Listed). after_changes (map (change_below m) cs) found) n g ∙ ap (after_changes (map (change_below (d + 1)) (take k rest))) f)

pub after_all-requires : goal.after_all-requires
after_all-requires t c =
    let d = c.args.depth in
    let s = c.loop-start.start in
    let k = c.count_head-count.result in
    let changes = c.args.changes.now in
    let name = c.in-Some.part.now in
    let back = c.split_at.ensures.back in
    let at = ready d s k changes c.split_at.result.1.now c.loop-start.puts.items name back (c.in-Some.ensures) (c.count_head-count.ensures.count) (c.loop-start.invariant.apart) (c.loop-start.invariant.rise) (c.loop-start.invariant.before) in
    let on = goes_on d s k changes c.index-changes-start.result name (omega arith) c.index-changes-start.is (at.head) in
    let next = c.depth_below-next.ensures (on.deep) in
    let group : c.split_at-in-loop-start.result.0.now ≡ take k (drop s changes) = c.split_at-in-loop-start.ensures.front ∙ ap (take k) back in
    let falls : longest c.split_at-in-loop-start.result.0.now - c.depth_below-next.result < longest changes - d = subst (λ n. longest c.split_at-in-loop-start.result.0.now - n < longest changes - d) (sym next) (subst (λ (g : List Listed). longest g - (d + 1) < longest changes - d) (sym group) (on.falls)) in
    let apart = ap₂ (λ (n : ℕ) (g : List Listed). are_apart (map (change_below n) g)) next group ∙ group_apart d s k changes c.loop-start.puts.items name at in
    (omega (arith, falls), apart)

pub returns-in_default-2 : goal.returns-in_default-2
returns-in_default-2 t c =
    let d = c.args.depth in
    let s = c.loop-start.start in
    let k = c.count_head-count.result in
    let changes = c.args.changes.now in
    let name = c.in-Some.part.now in
    let found = option_copied c.args.found in
    let back = c.split_at.ensures.back in
    let at = ready d s k changes c.split_at.result.1.now c.loop-start.puts.items name back (c.in-Some.ensures) (c.count_head-count.ensures.count) (c.loop-start.invariant.apart) (c.loop-start.invariant.rise) (c.loop-start.invariant.before) in
    let on = goes_on d s k changes c.index-changes-start.result name (omega arith) c.index-changes-start.is (at.head) in
    let group : c.split_at-in-loop-start.result.0.now ≡ take k (drop s changes) = c.split_at-in-loop-start.ensures.front ∙ ap (take k) back in
    let below = made d k c.depth_below-next.result (drop s changes) c.split_at-in-loop-start.result.0.now (part_of name found) (option_copied c.as_ref.result) c.in_ok-after.field-0 (c.depth_below-next.ensures (on.deep)) group (c.as_ref.ensures.value ∙ c.part_of-below.ensures ∙ ap (λ (n : List ℕ). part_of n found) c.as_bytes.ensures.value) (c.in_ok-after.ensures) in
    sym (turn_unfit d s k changes c.loop-start.puts.items name found at (below ∙ c.in_default-2.is)) ∙ c.loop-start.invariant.all

pub loop-start-preserved : goal.loop-start-preserved
loop-start-preserved t c =
    let d = c.args.depth in
    let s = c.loop-start.start in
    let k = c.count_head-count.result in
    let changes = c.args.changes.now in
    let name = c.in-Some.part.now in
    let puts = c.loop-start.puts.items in
    let found = option_copied c.args.found in
    let back = c.split_at.ensures.back in
    let at = ready d s k changes c.split_at.result.1.now puts name back (c.in-Some.ensures) (c.count_head-count.ensures.count) (c.loop-start.invariant.apart) (c.loop-start.invariant.rise) (c.loop-start.invariant.before) in
    let on = goes_on d s k changes c.index-changes-start.result name (omega arith) c.index-changes-start.is (at.head) in
    let group : c.split_at-in-loop-start.result.0.now ≡ take k (drop s changes) = c.split_at-in-loop-start.ensures.front ∙ ap (take k) back in
    let below = made d k c.depth_below-next.result (drop s changes) c.split_at-in-loop-start.result.0.now (part_of name found) (option_copied c.as_ref.result) c.in_ok-after.field-0 (c.depth_below-next.ensures (on.deep)) group (c.as_ref.ensures.value ∙ c.part_of-below.ensures ∙ ap (λ (n : List ℕ). part_of n found) c.as_bytes.ensures.value) (c.in_ok-after.ensures) in
    let turned = turn_put d s k changes puts name found c.in-Some-2.after at (below ∙ c.in-Some-2.is) in
    let pushed : c.push.new.self.items ≡ puts ++ record { part = name; after = c.in-Some-2.after } ∷ [] =
    c.in_ok-push.ensures.items ∙ ap (λ (n : List ℕ). puts ++ record { part = n; after = c.in-Some-2.after } ∷ []) c.in_ok-part.ensures in
    let fits : k ≤ length (drop s changes) = subst (λ (cs : List Listed). k ≤ length cs) back (c.count_head-count.ensures.within) in
    record {
      all = ap (λ (ps : List Put). option_and_then (after_changes (left_at d (s + k) changes)) (placed_all ps found)) pushed ∙ turned.all ∙ c.loop-start.invariant.all;
      apart = turned.apart;
      rise = turned.rise;
      before = ap (λ (ps : List Put). puts_before ps (left_at d (s + k) changes)) pushed ∙ turned.early;
      within = omega (arith, fits, length-drop s changes);
    }
