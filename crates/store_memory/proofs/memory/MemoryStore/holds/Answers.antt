use Rattle.std.proofs.Common.{ap, ◌∙◌}
use Rattle.std.specs.FinMap.{get}
use Rattle.std.specs.FinMap.Entries.{find as value_of}
use Rattle.std.specs.FinMap.Entries.{is_sorted}
use Rattle.store_trait.specs.Names.{name_cmp}
use Rattle.store_memory.specs.Told.{Told, content_of, is_held}
use Rattle.store_memory.proofs.Keeping.{told_of, in_order, found_there}
use Rattle.store_memory.proofs.memory.MemoryStore.holds.Goals as goal

pub holds-requires : goal.holds-requires
holds-requires c = ap (is_sorted name_cmp) c.deref.ensures.value ∙ in_order c.self.inside.cells.items (told_of c.self.inside.log.items c.self.inside.fails.items c.self.inside.calls c.self.inside.faults) c.self.invariant

pub returns : goal.returns
returns c =
    let name = c.args.name.now in
    let told = told_of c.self.inside.log.items c.self.inside.fails.items c.self.inside.calls c.self.inside.faults in
    c.holds.ensures ∙ ap (is_held c.args.cell.now) (ap (value_of name_cmp name) c.deref.ensures.value ∙ found_there c.self.inside.cells.items told name c.self.invariant ∙ ap (λ (t : Told). get (content_of t) name) c.self.view_is)
