use Rattle.store_laws.proofs.steps.EntryEdits.{add_entry_quiet, added_entry_waits}
use Rattle.store_laws.proofs.entries.adding_to_an_entry.Goals as goal

pub returns : goal.returns
returns c = record {
  quiet = λ c key token s has below other alone. add_entry_quiet c key token s has below other alone;
  waits = λ c key token s has below other alone hits. added_entry_waits c key token s has below other alone hits;
}
