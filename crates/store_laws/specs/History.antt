use Rattle.std.specs.Prelude.{◌≡◌, ℕ, ◌+◌, ◌≤◌, Some}
use Rattle.txn_key.specs.Documents.{Docs}
use Rattle.txn_key.specs.declared.id.TxnId.{TxnId}
use Rattle.txn_record.specs.Orders.{after}
use Rattle.txn_record.specs.declared.record.Record.{Record}
use Rattle.store_trait.specs.Contents.{Content}
use Rattle.store_laws.specs.View.{record_at}
use Rattle.store_laws.specs.Soundness.{IsSound}
use Rattle.store_laws.specs.Meaning.{meaning}
use Rattle.store_laws.specs.Decisions.{decisions}

-- the same operations and info
pub record SameTransaction (old new : Record) : Type 0 where
  pub ops : new.ops ≡ old.ops
  pub info : new.info ≡ old.info

-- The n places after a mark tell a history: every place is sound and means the opening documents after
-- the decisions so far, and a record keeps its operations and info.
pub record IsFaithful (trail : ℕ → Content) (mark n : ℕ) (base : Docs) : Type 0 where
  pub sound : (k : ℕ) → k ≤ n → IsSound (trail (mark + k))
  pub means : (k : ℕ) → k ≤ n → meaning (trail (mark + k)) ≡ after base (decisions trail mark k)
  pub kept : (j k : ℕ) (id : TxnId) (old new : Record) → j ≤ n → k ≤ n
      → record_at (trail (mark + j)) id ≡ Some old → record_at (trail (mark + k)) id ≡ Some new
      → SameTransaction old new
