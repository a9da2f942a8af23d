use Rattle.std.proofs.Common.{refl, sym, ◌∙◌}
use Rattle.store_memory.proofs.Trail.{stands_so}
use Rattle.store_memory.proofs.memory.MemoryStore.put.Goals as goal

pub returns-then-holds-clause-done : goal.returns-then-holds-clause-done
returns-then-holds-clause-done c = record {
  hit_is = refl;
  cell = sym (stands_so c.args.after _ (sym c.holds.ensures ∙ c.if-holds.true));
  kind = c.requires.kind;
}
