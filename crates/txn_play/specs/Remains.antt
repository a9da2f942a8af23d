-- What a refusal leaves.
use Rattle.std.specs.Prelude.{◌≡◌, ◌⊎◌, ℕ, Bool, true, false, List, [], ◌∷◌, ◌++◌, length}
use Rattle.std.specs.List.{list_all}
use Rattle.txn_key.specs.declared.id.TxnId.{TxnId}
use Rattle.store_trait.specs.Contents.{Content}
use Rattle.store_laws.specs.Meaning.{meaning}
use Rattle.store_laws.specs.View.{record_at}
use Rattle.txn_runner.specs.Numbers.{Uses}
use Rattle.txn_runner.specs.Settling.{has_ended}
use Rattle.txn_runner.specs.declared.waiting.Waiting.{Waiting}
use Rattle.txn_play.specs.Batches.{Every, HasOwnOperations, are_recorded, waits}
use Rattle.txn_play.specs.declared.refusal.Refusal.{Refusal}
use Rattle.txn_play.specs.declared.refusal.Refusal.TheVariants as refusal
use Rattle.txn_play.specs.declared.run.Run.{Run}

-- what a store holds, how many calls on it were counted, and the Runs that were made over it
pub record Holding : Type 0 where
  pub content : Content
  pub calls : ℕ
  pub runs : List Run

-- the store holds what it held, and the Runs are those that there were
pub record Stays (old new : Holding) : Type 0 where
  pub holds : new.content ≡ old.content
  pub runs : new.runs ≡ old.runs

-- A batch is on its way: there is one Run more, which begins with what the store then held, and has
-- decided none but the transactions of the batch, and none before each of them has its record. Their
-- records have their operations; no other record was touched, and no more was used than the batch may.
pub record HasBegun (waiting : List Waiting) (trail : ℕ → Content) (old new : Holding) : Type 0 where
  pub run : Run
  pub kept : new.runs ≡ old.runs ++ run ∷ []
  pub opens : trail run.mark ≡ old.content
  pub base : run.base ≡ meaning old.content
  pub only : list_all (λ entry. waits waiting entry.id) run.order ≡ true
  pub others : (id : TxnId) → waits waiting id ≡ false
      → record_at new.content id ≡ record_at old.content id
  pub own : Every (HasOwnOperations new.content) waiting
  pub whole : (run.order ≡ []) ⊎ (are_recorded new.content waiting ≡ true)
  pub uses : Uses old.content new.content (length waiting) (length waiting) 0 0
  pub turns : run.turns ≡ []

-- some transaction of the batch hasn't come to its end
abbrev pub IsUnfinished : Content → List Waiting → Type 0
IsUnfinished c waiting = list_all (λ txn. has_ended c txn.id) waiting ≡ false

-- the same, unless memory was wanting
abbrev pub LeavesUnfinished : Content → List Waiting → Refusal → Type 0
LeavesUnfinished c waiting refusal.OutOfMemory = Unit {0}
LeavesUnfinished c waiting _ = IsUnfinished c waiting

-- What a refusal leaves: all as it was, unless a batch was on its way, and unfinished. Memory alone may be
-- wanting behind one that was finished.
abbrev pub HasLeft : Bool → List Waiting → (ℕ → Content) → Holding → Holding → Refusal → Type 0
HasLeft may_run waiting trail old new (refusal.Objected _) = Stays old new
HasLeft may_run waiting trail old new (refusal.Found _) = Stays old new
HasLeft may_run waiting trail old new refusal.OutOfMemory =
    Stays old new ⊎ ((may_run ≡ true) × HasBegun waiting trail old new)
HasLeft may_run waiting trail old new _ =
    Stays old new ⊎ ((may_run ≡ true) × HasBegun waiting trail old new × IsUnfinished new.content waiting)
