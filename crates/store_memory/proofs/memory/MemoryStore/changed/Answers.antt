use Rattle.std.proofs.Common.{Option, IfOk, ◌≡◌, ap, ◌∙◌, subst}
use Rattle.std.specs.Option.{option_copied}
use Rattle.std.specs.FinMap.{get}
use Rattle.std.specs.FinMap.Entries.{find as value_of}
use Rattle.std.specs.FinMap.Entries.{is_sorted}
use Rattle.store_trait.specs.Names.{name_cmp}
use Rattle.store_trait.specs.Edits.{hit}
use Rattle.store_trait.specs.Changes.{as_hit}
use Rattle.store_trait.specs.declared.cell.Cell.{Cell}
use Rattle.store_trait.proofs.HitKinds.{hit_may_leave}
use Rattle.store_memory.specs.Told.{Told, content_of}
use Rattle.store_memory.proofs.Keeping.{told_of, in_order, found_there, kind_there, held_kind, left_kind}
use Rattle.store_memory.proofs.memory.MemoryStore.changed.Goals as goal

pub look-requires : goal.look-requires
look-requires c = ap (is_sorted name_cmp) c.deref.ensures.value ∙ in_order c.self.inside.cells.items (told_of c.self.inside.log.items c.self.inside.fails.items c.self.inside.calls c.self.inside.faults) c.self.invariant

pub returns-clause-hit : goal.returns-clause-hit
returns-clause-hit c =
    let name = c.args.name.now in
    let found = c.look.ensures ∙ ap (value_of name_cmp name) c.deref.ensures.value ∙ found_there c.self.inside.cells.items (told_of c.self.inside.log.items c.self.inside.fails.items c.self.inside.calls c.self.inside.faults) name c.self.invariant ∙ ap (λ (t : Told). get (content_of t) name) c.self.view_is in
    subst (λ (o : Option Cell). IfOk c.change.result (λ changed. as_hit changed ≡ hit c.args.edit.now name o)) found c.change.ensures

pub returns-clause-kind : goal.returns-clause-kind
returns-clause-kind c =
    let name = c.args.name.now in
    let found = option_copied c.look.result in
    let kind = kind_there c.self.inside.cells.items (told_of c.self.inside.log.items c.self.inside.fails.items c.self.inside.calls c.self.inside.faults) name found c.self.invariant (c.look.ensures ∙ ap (value_of name_cmp name) c.deref.ensures.value) in
    left_kind name c.change.result (hit c.args.edit.now name found) c.change.ensures (hit_may_leave c.args.edit.now name found (held_kind name found kind))
