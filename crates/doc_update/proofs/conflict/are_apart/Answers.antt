use Rattle.std.proofs.Common.{◌≡◌, List, map, take, sym, ap, ◌∙◌}
use Rattle.std.proofs.lemmas.List.{take-map}
use Rattle.doc_update.specs.Changes.{changes_in}
use Rattle.doc_update.specs.Conflicts.{are_apart, neighbours_apart}
use Rattle.doc_update.specs.Listed.{change_listed}
use Rattle.doc_update.specs.declared.change.Change.{Change as Listed}
use Rattle.doc_update.proofs.FirstConflict.{sorted_neighbours}
use Rattle.doc_update.proofs.conflict.are_apart.Goals as goal

pub returns : goal.returns
returns c =
    let front : map change_listed c.truncate.new.self.items ≡ take c.args.count (changes_in c.args.operators.now) =
    ap (map change_listed) c.truncate.ensures.items ∙ sym (take-map change_listed c.args.count c.in_ok-changes.changes.items) ∙ ap (take c.args.count) c.in_ok-changes.ensures in
    c.neighbours_apart.ensures ∙ ap (λ (changes : List Listed). neighbours_apart (map change_listed changes)) c.as_slice.ensures.value
    ∙ sorted_neighbours c.truncate.new.self.items c.sort_by_path.new.changes.items (c.in_ok-sort_by_path.ensures.moved) (c.in_ok-sort_by_path.ensures.sorted) ∙ ap are_apart front
