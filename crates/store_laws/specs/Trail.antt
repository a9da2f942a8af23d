-- The history of a store's content, call by call.
use Rattle.std.specs.Prelude.{◌≡◌, ℕ, ◌+◌, ◌<◌, true, Some, List, [], ◌∷◌, ◌⊎◌}
use Rattle.txn_key.specs.Documents.{Docs}
use Rattle.txn_record.specs.declared.entry.Entry.{Entry}
use Rattle.txn_record.specs.declared.record.Record.{Record}
use Rattle.store_trait.specs.Contents.{Content}
use Rattle.store_laws.specs.Decisions.{outcome_of}
use Rattle.store_laws.specs.Meaning.{meaning}
use Rattle.store_laws.specs.Soundness.{IsSound}
use Rattle.txn_record.specs.States.{was_decided_state}
use Rattle.store_laws.specs.View.{record_at}
use Rattle.store_laws.specs.Steps.{IsQuiet, Applies, Aborts}

-- what a call may come to: it decides nothing, or it is the decision on one transaction
pub data IsCall (old new : Content) : Type 0 where
  Quiet : IsQuiet old new → IsCall old new
  Applying : (rec : Record) → Applies old new rec → IsCall old new
  Aborting : (rec : Record) → Aborts old new rec → IsCall old new

-- The n calls after a mark, over sound content that meant the base then. Their decisions are what the
-- trail itself shows (`decisions`); whoever keeps an order of its own says beside that it is the same.
pub record IsTrail (trail : ℕ → Content) (mark n : ℕ) (base : Docs) : Type 0 where
  pub opens : IsSound (trail mark)
  pub base_is : meaning (trail mark) ≡ base
  pub calls : (k : ℕ) → k < n → IsCall (trail (mark + k)) (trail (mark + k + 1))

-- an entry tells of a record: its transaction, and which way it was decided
pub record Tells (entry : Entry) (rec : Record) : Type 0 where
  pub id : entry.id ≡ rec.id
  pub ops : entry.ops ≡ rec.ops
  pub outcome : entry.outcome ≡ outcome_of rec.state

abbrev pub IsRecorded : List Entry → Record → Type 0
IsRecorded [] rec = ⊥
IsRecorded (entry ∷ entries) rec = Tells entry rec ⊎ IsRecorded entries rec

-- an entry tells of a record that is there, and was decided
pub record IsKept (c : Content) (entry : Entry) : Type 0 where
  pub rec : Record
  pub there : record_at c entry.id ≡ Some rec
  pub chose : was_decided_state rec.state ≡ true
  pub tells : Tells entry rec
