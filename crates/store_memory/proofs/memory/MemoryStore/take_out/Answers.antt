use Rattle.std.proofs.Common.{refl, sym, ap, ◌∙◌}
use Rattle.std.specs.FinMap.{get}
use Rattle.store_trait.specs.Edits.{hit}
use Rattle.store_memory.specs.Told.{Told, content_of}
use Rattle.store_memory.proofs.Keeping.{told_of, in_order, kept_out, out_found}
use Rattle.store_memory.proofs.memory.MemoryStore.take_out.Goals as goal

pub erase-requires : goal.erase-requires
erase-requires c = in_order c.self.inside.cells.items (told_of c.self.inside.log.items c.self.inside.fails.items c.self.inside.calls c.self.inside.faults) c.self.invariant

pub invariant_of-self-2 : goal.invariant_of-self-2
invariant_of-self-2 c =
    let it = c.self.inside in
    let hits = ap (λ (t : Told). hit c.args.edit.now c.args.name.now (get (content_of t) c.args.name.now)) c.self.view_is ∙ c.requires.hits in
    kept_out it.cells.items c.erase.new.cells.items it.log.items c.erase.new.log.items it.fails.items it.calls it.faults c.args.name.now c.args.edit.now c.self.invariant hits c.in_ok-erase.ensures.cells c.in_ok-erase.ensures.log

pub returns-clause-done : goal.returns-clause-done
returns-clause-done c =
    let it = c.self.inside in
    let hits = ap (λ (t : Told). hit c.args.edit.now c.args.name.now (get (content_of t) c.args.name.now)) c.self.view_is ∙ c.requires.hits in
    let kept = kept_out it.cells.items c.erase.new.cells.items it.log.items c.erase.new.log.items it.fails.items it.calls it.faults c.args.name.now c.args.edit.now c.self.invariant hits c.in_ok-erase.ensures.cells c.in_ok-erase.ensures.log in
    record {
      hit_is = refl;
      cell = sym (out_found it.cells.items c.erase.new.cells.items (told_of c.erase.new.log.items it.fails.items it.calls it.faults) c.args.name.now kept c.in_ok-erase.ensures.cells);
      kind = tt;
    }
