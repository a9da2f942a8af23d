use Rattle.std.proofs.Common.{refl, ap, ◌∙◌}
use Rattle.std.specs.FinMap.Entries.{find as value_of}
use Rattle.std.specs.FinMap.Entries.{is_sorted}
use Rattle.store_trait.specs.Names.{name_cmp}
use Rattle.std.specs.FinMap.{get}
use Rattle.store_memory.specs.Told.{Told, content_of}
use Rattle.store_memory.proofs.Keeping.{told_of, in_order, found_there, kind_there}
use Rattle.store_memory.proofs.memory.MemoryStore.miss.Goals as goal

pub copy_under-requires : goal.copy_under-requires
copy_under-requires c = ap (is_sorted name_cmp) c.deref.ensures.value ∙ in_order c.self.inside.cells.items (told_of c.self.inside.log.items c.self.inside.fails.items c.self.inside.calls c.self.inside.faults) c.self.invariant

pub returns : goal.returns
returns c =
    let name = c.args.name.now in
    let told = told_of c.self.inside.log.items c.self.inside.fails.items c.self.inside.calls c.self.inside.faults in
    record {
      hit_is = refl;
      cell = c.in_ok-cell.ensures ∙ ap (value_of name_cmp name) c.deref.ensures.value ∙ found_there c.self.inside.cells.items told name c.self.invariant ∙ ap (λ (t : Told). get (content_of t) name) c.self.view_is;
      kind = kind_there c.self.inside.cells.items told name c.in_ok-cell.cell c.self.invariant (c.in_ok-cell.ensures ∙ ap (value_of name_cmp name) c.deref.ensures.value);
    }
