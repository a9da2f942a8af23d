use Rattle.std.specs.Prelude.{ℕ, zero, suc, ◌+◌, ℤ, ◌&&◌, not, Option, Some, None, unwrap_or, option_and_then, List, [], ◌++◌, if◌then◌else◌}
use Rattle.std.specs.List.{filter_map}
use Rattle.std.specs.FinMap.{entries}
use Rattle.txn_record.specs.States.{was_decided_state}
use Rattle.txn_record.specs.declared.record.Record.{Record}
use Rattle.txn_record.specs.declared.state.State.{State}
use Rattle.txn_record.specs.declared.state.State.TheVariants as state
use Rattle.txn_record.specs.declared.entry.Entry.{Entry}
use Rattle.txn_record.specs.declared.entry.Outcome.{Outcome}
use Rattle.txn_record.specs.declared.entry.Outcome.TheVariants as outcome
use Rattle.store_trait.specs.Contents.{Content}
use Rattle.store_laws.specs.View.{look, was_decided}
use Rattle.store_trait.specs.Cells.{as_record}
use Rattle.store_trait.specs.declared.cell.Cell.{Cell}

abbrev pub outcome_of : State → Outcome
outcome_of state.Applying = outcome.Applied
outcome_of state.Applied = outcome.Applied
outcome_of _ = outcome.Aborted

abbrev pub applied_revnos : Outcome → Record → List ℤ
applied_revnos outcome.Applied rec = unwrap_or rec.revnos []
applied_revnos outcome.Aborted rec = []

-- the entry of a record that was decided by this call
abbrev pub entry_at : ℕ → Record → Entry
entry_at at rec = record {
  id = rec.id;
  ops = rec.ops;
  outcome = outcome_of rec.state;
  revnos = applied_revnos (outcome_of rec.state) rec;
  at = at;
}

-- a record that is aborting, applying, aborted or applied, and was none of these before
abbrev pub decision : Content → ℕ → Cell → Option Entry
decision old at after =
    option_and_then
    (λ rec. if was_decided_state rec.state && not (was_decided (look old) rec.id)
    then Some (entry_at at rec) else None)
    (as_record after)

-- the decisions that a call makes, of which one call makes at most one
abbrev pub decided_by : Content → Content → ℕ → List Entry
decided_by old new at = filter_map (λ entry. decision old at entry.1) (entries new)

-- the decisions of the n calls after a mark
abbrev pub decisions : (ℕ → Content) → ℕ → ℕ → List Entry
decisions trail mark zero = []
decisions trail mark (suc n) =
    decisions trail mark n ++ decided_by (trail (mark + n)) (trail (mark + n + 1)) (mark + n + 1)
