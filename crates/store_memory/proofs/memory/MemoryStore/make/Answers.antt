use Rattle.std.proofs.Common.{ap, is_some, rules, arith}
use Rattle.std.specs.FinMap.{get}
use Rattle.store_trait.specs.Contents.{Content}
use Rattle.store_trait.specs.Edits.{hit}
use Rattle.store_memory.proofs.Keeping.{kept_later, counted_content}
use Rattle.store_memory.proofs.CallLaws.{answers_so, edit_called}
use Rattle.store_memory.proofs.memory.MemoryStore.make.Goals as goal

pub invariant_of-self : goal.invariant_of-self
invariant_of-self c = kept_later c.self.inside.cells.items c.self.inside.log.items c.self.inside.fails.items c.self.inside.calls c.self.inside.faults _ _ c.self.invariant (omega arith) c.self.invariant.counted.faults

pub returns-clause-done : goal.returns-clause-done
returns-clause-done c =
    let answer = c.in_ok-apply.ensures.done in
    answers_so _ _ _ _ _ answer (ap (λ (held : Content). is_some (hit c.args.edit.now c.args.name.now (get held c.args.name.now))) (counted_content c.self.inside.log.items c.self.inside.fails.items c.self.inside.calls c.self.inside.faults c.args.self.now c.self.view_is c.self.invariant.counted))

pub returns-clause-call : goal.returns-clause-call
returns-clause-call c = edit_called c.self.inside.log.items c.self.inside.fails.items c.self.inside.calls c.self.inside.faults c.args.self.now _ c.args.name.now c.args.edit.now _ c.self.view_is (search rules) c.self.invariant.counted c.in_ok-apply.ensures.told
