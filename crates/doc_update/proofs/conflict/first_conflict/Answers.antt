use Rattle.std.proofs.Common.{◌≡◌, suc, length, take, sym, ap, ◌∙◌, arith}
use Rattle.std.proofs.lemmas.List.{length-map}
use Rattle.doc_update.specs.Changes.{changes_in}
use Rattle.doc_update.specs.Conflicts.{are_apart}
use Rattle.doc_update.specs.Listed.{change_listed}
use Rattle.doc_update.proofs.FirstConflict.{first_listed, no_conflict}
use Rattle.doc_update.proofs.conflict.first_conflict.Goals as goal

pub returns-then-branch : goal.returns-then-branch
returns-then-branch c =
    sym (no_conflict c.len-conflicting.result c.in_ok-changes.changes.items (changes_in c.args.operators.now) c.in_ok-changes.ensures (omega (arith, c.len-conflicting.ensures)) (sym c.in_ok-are_apart.ensures ∙ c.if-branch.true))

pub returns : goal.returns
returns c =
    let changes = changes_in c.args.operators.now in
    let listed = c.in_ok-changes.changes.items in
    let apart = c.loop-conflicting.apart in
    let count : length changes ≡ length listed = ap length (sym c.in_ok-changes.ensures) ∙ length-map listed change_listed in
    let next : c.loop-conflicting.conflicting ≡ suc apart = omega arith in
    sym (first_listed apart listed changes c.index.result.now c.in_ok-changes.ensures (omega (arith, count)) c.index.ensures c.loop-conflicting.invariant.apart (ap (λ n. are_apart (take n changes)) (sym next) ∙ c.loop-conflicting.invariant.conflicting))
