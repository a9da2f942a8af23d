use Rattle.std.proofs.Common.{◌≡◌, true, Some, refl, sym, ap, ◌∙◌, subst}
use Rattle.std.specs.FinMap.{get}
use Rattle.store_trait.specs.Edits.{hit}
use Rattle.store_trait.specs.Names.{may_stand}
use Rattle.store_trait.specs.declared.cell.Cell.{Cell}
use Rattle.store_memory.specs.Told.{Told, content_of}
use Rattle.store_memory.proofs.Keeping.{told_of, in_order, kept_put, put_found}
use Rattle.store_memory.proofs.memory.MemoryStore.put_other.Goals as goal

pub write-requires : goal.write-requires
write-requires c = in_order c.self.inside.cells.items (told_of c.self.inside.log.items c.self.inside.fails.items c.self.inside.calls c.self.inside.faults) c.self.invariant

pub invariant_of-self-2 : goal.invariant_of-self-2
invariant_of-self-2 c =
    let it = c.self.inside in
    let hits = ap (λ (t : Told). hit c.args.edit.now c.args.name.now (get (content_of t) c.args.name.now)) c.self.view_is ∙ c.requires.hits in
    kept_put it.cells.items c.write.new.cells.items it.log.items c.write.new.log.items it.fails.items it.calls it.faults c.args.name.now c.args.edit.now c.args.after c.self.invariant c.requires.kind hits c.in_ok-write.ensures.cells c.in_ok-write.ensures.log

pub returns-clause-done : goal.returns-clause-done
returns-clause-done c =
    let it = c.self.inside in
    let hits = ap (λ (t : Told). hit c.args.edit.now c.args.name.now (get (content_of t) c.args.name.now)) c.self.view_is ∙ c.requires.hits in
    let kept = kept_put it.cells.items c.write.new.cells.items it.log.items c.write.new.log.items it.fails.items it.calls it.faults c.args.name.now c.args.edit.now c.args.after c.self.invariant c.requires.kind hits c.in_ok-write.ensures.cells c.in_ok-write.ensures.log in
    record {
      hit_is = refl;
      cell = ap Some c.in_ok-cell.ensures ∙ sym (put_found it.cells.items c.write.new.cells.items (told_of c.write.new.log.items it.fails.items it.calls it.faults) c.args.name.now c.args.after kept c.in_ok-write.ensures.cells);
      kind = subst (λ (cell : Cell). may_stand c.args.name.now cell ≡ true) (sym c.in_ok-cell.ensures) c.requires.kind;
    }
