use Rattle.std.proofs.Common.{rules, ◌∙◌, ap}
use Rattle.txn_io.proofs.Pieces.{copied_all}
use Rattle.txn_io.proofs.memory_source.MemorySourceSource.take.Goals as goal

pub returns-clause-bytes : goal.returns-clause-bytes
returns-clause-bytes c _ =
    copied_all c.self.inside.bytes.items _ _ _ c.self.inside.at c.min-count.result (search rules) c.copy_from_slice.ensures.after c.deref-2.ensures.value
    ∙ ap (λ v. v.rest) c.self.view_is
