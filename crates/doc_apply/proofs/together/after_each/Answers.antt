use Rattle.std.proofs.Common.{◌≡◌, ℕ, ◌+◌, ◌<◌, List, ◌∷◌, length, get_or, drop, map, Option, Some, option_and_then, sym, ap, ◌∙◌, arith}
use Rattle.std.proofs.lemmas.List.{at_drop_more}
use Rattle.doc_value.specs.declared.value.Value.{Value}
use Rattle.doc_apply.specs.Groups.{change_below}
use Rattle.doc_update.specs.Updates.{after_change, after_changes}
use Rattle.doc_update.specs.declared.change.Change.{Change as Listed}
use Rattle.doc_apply.proofs.together.after_each.Goals as goal

-- one change more
next_change : (depth : ℕ) (changes : List Listed) (n : ℕ) (change : Listed) (made next : Option Value) → n < length changes → change ≡ get_or changes n change → Some next ≡ after_change (change_below depth change) made
    → after_changes (map (change_below depth) (drop (n + 1) changes)) next ≡ after_changes (map (change_below depth) (drop n changes)) made
next_change depth changes n change made next within here is =
    let run = λ (rest : List Listed). after_changes (map (change_below depth) rest) made in
    ap (option_and_then (after_changes (map (change_below depth) (drop (n + 1) changes)))) is
    ∙ sym (at_drop_more run changes n change within ∙ ap (λ (one : Listed). run (one ∷ drop (n + 1) changes)) (sym here))

pub loop-change-preserved : goal.loop-change-preserved
loop-change-preserved c =
    let before : Some c.in-Some.next ≡ after_change (change_below c.args.depth c.change-item.result) c.loop-change.made = cc (c.in_ok-next.ensures, c.as_ref.ensures.value, c.parts_below-parts.ensures) in
    next_change c.args.depth c.args.changes.now c.loop-change.change-index c.change-item.result c.loop-change.made c.in-Some.next (omega arith) c.change-item.is before ∙ c.loop-change.invariant
