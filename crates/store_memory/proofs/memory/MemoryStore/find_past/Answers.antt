use Rattle.std.proofs.Common.{List, find, option_map, ap, ◌∙◌, arith}
use Rattle.std.specs.Option.{option_copied}
use Rattle.std.specs.FinMap.Entries.{is_sorted}
use Rattle.store_trait.specs.Names.{name_cmp}
use Rattle.store_trait.specs.Contents.{is_past, named}
use Rattle.store_memory.proofs.Keeping.{Entry, told_of, in_order, past_there, kind_listed, kept_later}
use Rattle.store_memory.proofs.memory.MemoryStore.find_past.Goals as goal

pub copy_past-requires : goal.copy_past-requires
copy_past-requires c = ap (is_sorted name_cmp) c.deref.ensures.value ∙ in_order c.self.inside.cells.items _ c.self.invariant

pub invariant_of-self : goal.invariant_of-self
invariant_of-self c = kept_later c.self.inside.cells.items c.self.inside.log.items c.self.inside.fails.items c.self.inside.calls c.self.inside.faults _ _ c.self.invariant (omega arith) c.self.invariant.counted.faults

pub invariant_of-self-2 : goal.invariant_of-self-2
invariant_of-self-2 c = kept_later c.self.inside.cells.items c.self.inside.log.items c.self.inside.fails.items c.self.inside.calls c.self.inside.faults _ _ c.self.invariant (omega arith) c.self.invariant.counted.faults

pub returns-clause-past : goal.returns-clause-past
returns-clause-past c = past_there (option_copied c.args.after) c.deref.result.now c.in_ok-found.found c.in_ok-found.ensures

pub returns-clause-kind : goal.returns-clause-kind
returns-clause-kind c =
    let after = option_copied c.args.after in
    kind_listed c.self.inside.cells.items (told_of c.self.inside.log.items c.self.inside.fails.items c.self.inside.calls c.self.inside.faults) after c.in_ok-found.found c.self.invariant (c.in_ok-found.ensures ∙ ap (λ (cells : List Entry). option_map named (find (λ entry. is_past after entry.0) cells)) c.deref.ensures.value)
