use Rattle.std.proofs.Common.{◌≡◌, List, Some, None, map, sym, ap, ◌∙◌}
use Rattle.doc_value.specs.declared.value.Value.{Value}
use Rattle.doc_update.specs.Changes.{changes_in, changes_of, fields_of}
use Rattle.doc_update.specs.Conflicts.{are_apart}
use Rattle.doc_update.specs.Listed.{change_listed}
use Rattle.doc_apply.specs.Groups.{change_below}
use Rattle.doc_update.specs.Updates.{after_changes}
use Rattle.doc_update.specs.declared.change.Change.{Change as Listed}
use Rattle.doc_apply.proofs.SortedChanges.{sorted_apart, sorted_alike, updated-from}
use Rattle.doc_apply.proofs.applying.apply.Goals as goal

pub after_all-requires : goal.after_all-requires
after_all-requires c =
    let listed : map change_listed c.in_ok-changes.changes.items ≡ changes_of c.args.update.now = c.in_ok-changes.ensures ∙ ap changes_in (c.fields_of.ensures ∙ ap fields_of c.source.ensures.value) in
    ap (λ (changes : List Listed). are_apart (map (change_below 0) changes)) c.as_slice.ensures.value
    ∙ sorted_apart c.args.update.now c.in_ok-changes.changes.items c.sort_by_path.new.changes.items (c.source.ensures.update) listed c.sort_by_path.ensures.moved

pub returns-in-Some : goal.returns-in-Some
returns-in-Some c =
    let listed : map change_listed c.in_ok-changes.changes.items ≡ changes_of c.args.update.now = c.in_ok-changes.ensures ∙ ap changes_in (c.fields_of.ensures ∙ ap fields_of c.source.ensures.value) in
    let made : Some c.in-Some.after ≡ after_changes (changes_of c.args.update.now) (Some c.args.body.now) =
    sym c.in-Some.is ∙ c.in_ok-after.ensures ∙ ap (λ (changes : List Listed). after_changes (map (change_below 0) changes) (Some c.halving.result)) c.as_slice.ensures.value ∙ ap (λ (body : Value). after_changes (map (change_below 0) c.sort_by_path.new.changes.items) (Some body)) c.halving.ensures
    ∙ sorted_alike c.args.update.now c.in_ok-changes.changes.items c.sort_by_path.new.changes.items (Some c.args.body.now) (c.source.ensures.update) listed c.sort_by_path.ensures.moved in
    c.if_body.ensures ∙ sym (updated-from c.args.update.now c.args.body.now (Some c.in-Some.after) (sym c.is_deeper_than.ensures ∙ c.if-is_deeper_than.false) made)

pub returns : goal.returns
returns c =
    let listed : map change_listed c.in_ok-changes.changes.items ≡ changes_of c.args.update.now = c.in_ok-changes.ensures ∙ ap changes_in (c.fields_of.ensures ∙ ap fields_of c.source.ensures.value) in
    let made : None ≡ after_changes (changes_of c.args.update.now) (Some c.args.body.now) =
    sym c.in-None.is ∙ c.in_ok-after.ensures ∙ ap (λ (changes : List Listed). after_changes (map (change_below 0) changes) (Some c.halving.result)) c.as_slice.ensures.value ∙ ap (λ (body : Value). after_changes (map (change_below 0) c.sort_by_path.new.changes.items) (Some body)) c.halving.ensures
    ∙ sorted_alike c.args.update.now c.in_ok-changes.changes.items c.sort_by_path.new.changes.items (Some c.args.body.now) (c.source.ensures.update) listed c.sort_by_path.ensures.moved in
    sym (updated-from c.args.update.now c.args.body.now None (sym c.is_deeper_than.ensures ∙ c.if-is_deeper_than.false) made)
