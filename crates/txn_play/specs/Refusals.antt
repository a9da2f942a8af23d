-- Why a statement is refused.
use Rattle.std.specs.Prelude.{◌≡◌, ◌≤◌, ◌⊎◌, Err, IsErrOf, OnErr, Result}
use Rattle.store_trait.specs.Calls.{Rose}
use Rattle.store_trait.specs.Contents.{Content}
use Rattle.store_trait.specs.Edits.{nonce_limit}
use Rattle.store_trait.specs.Exchanges.{Exchanged}
use Rattle.store_trait.specs.Stores.{CallsGoOn}
use Rattle.store_trait.specs.declared.store.Store.{Ghosts}
use Rattle.store_trait.specs.declared.store.StoreError.{StoreError}
use Rattle.store_trait.specs.declared.store.StoreError.TheVariants as store_error
use Rattle.store_laws.specs.View.{counter}
use Rattle.txn_audit.specs.declared.error.AuditError.{AuditError}
use Rattle.txn_audit.specs.declared.error.AuditError.TheVariants as audit
use Rattle.txn_runner.specs.Causes.{LastShows, ShowsClash, ShowsNoNonce, ShowsRepeated, ShowsSpentRevno}
use Rattle.txn_runner.specs.Settling.{IsRevnoSpent}
use Rattle.txn_runner.specs.declared.error.StepError.{StepError}
use Rattle.txn_runner.specs.declared.error.StepError.TheVariants as step
use Rattle.txn_play.specs.Readings.{HasFound, ShowsFinding}
use Rattle.txn_play.specs.declared.finding.Finding.{Finding}
use Rattle.txn_play.specs.declared.finding.Finding.TheVariants as finding
use Rattle.txn_play.specs.declared.refusal.Refusal.{Refusal}
use Rattle.txn_play.specs.declared.refusal.Refusal.TheVariants as refusal

-- how a store's refusal refuses a statement
abbrev pub refusal_of_store : StoreError → Refusal
refusal_of_store store_error.Failed = refusal.Store
refusal_of_store store_error.OutOfMemory = refusal.OutOfMemory

-- how what ends an audit does
abbrev pub refusal_of_audit : AuditError → Refusal
refusal_of_audit (audit.Unsound rule at) = refusal.Found (finding.Unsound rule at)
refusal_of_audit audit.TooMany = refusal.Found finding.TooManyCells
refusal_of_audit audit.StoreFault = refusal.Store
refusal_of_audit audit.OutOfMemory = refusal.OutOfMemory

-- how the refusal of a step does
abbrev pub refusal_of_step : StepError → Refusal
refusal_of_step step.StoreFault = refusal.Store
refusal_of_step step.OutOfMemory = refusal.OutOfMemory
refusal_of_step step.NoncesSpent = refusal.Spent step.NoncesSpent
refusal_of_step (step.RevnoSpent key) = refusal.Spent (step.RevnoSpent key)
refusal_of_step (step.Lost token) = refusal.Broken (step.Lost token)
refusal_of_step (step.Clash id at) = refusal.Broken (step.Clash id at)

-- nothing stands against the statement
abbrev pub IsNoObjection : Refusal → Type 0
IsNoObjection (refusal.Objected _) = ⊥
IsNoObjection _ = Unit {0}

-- no audit found anything
abbrev pub IsUnfound : Refusal → Type 0
IsUnfound (refusal.Found _) = ⊥
IsUnfound _ = Unit {0}

-- the refusals that the steps of a batch may end with
abbrev pub IsOfSteps : Refusal → Type 0
IsOfSteps (refusal.Objected _) = ⊥
IsOfSteps (refusal.Found _) = ⊥
IsOfSteps _ = Unit {0}

-- neither a nonce nor a number was wanting
abbrev pub IsUnspent : Refusal → Type 0
IsUnspent (refusal.Spent _) = ⊥
IsUnspent _ = Unit {0}

-- nonces, or the numbers of a document, are used up
abbrev pub IsUsedUp : Content → StepError → Type 0
IsUsedUp c step.NoncesSpent = nonce_limit ≤ counter c
IsUsedUp c (step.RevnoSpent key) = IsRevnoSpent c key
IsUsedUp c _ = ⊥

-- Why a statement may be refused, over a store that tells what it holds: what an audit finds is so, and it is
-- never that a record was missing, or another one than was written.
abbrev pub HasReason : Content → Refusal → Type 0
HasReason c (refusal.Found found) = HasFound c (refusal.Found found)
HasReason c (refusal.Spent error) = IsUsedUp c error
HasReason c (refusal.Broken error) = ⊥
HasReason c (refusal.Repeated id) = ⊥
HasReason c _ = Unit {0}

-- what an audit finds is so of what the last calls on the store listed, all of them made since then
pub record WasFound {S : Type 0} (store : Ghosts S) (old new : S) (found : Finding) : Type 0 where
  pub before : S
  pub since : Exchanged store old before
  pub shows : ShowsFinding store before new found

-- Why a statement is refused over a store that tells nothing too: the last call on it, or the last ones where an
-- audit finds something, were made since then, and the answers show it.
abbrev pub HasCause : {S : Type 0} → Ghosts S → S → S → Refusal → Type 0
HasCause store old new (refusal.Found found) = WasFound store old new found
HasCause store old new (refusal.Spent step.NoncesSpent) = LastShows store old new ShowsNoNonce
HasCause store old new (refusal.Spent (step.RevnoSpent key)) = LastShows store old new (ShowsSpentRevno key)
HasCause store old new (refusal.Spent _) = ⊥
HasCause store old new (refusal.Broken (step.Clash id at)) = LastShows store old new (ShowsClash id at)
HasCause store old new (refusal.Broken _) = ⊥
HasCause store old new (refusal.Repeated id) = LastShows store old new (ShowsRepeated id)
HasCause store old new _ = Unit {0}

-- What a few calls on a store keep: they go on, and are refused only where the store failed or memory was
-- wanting.
pub record CallsAlone {S T : Type 0} (store : Ghosts S) (old new : S) (result : Result T Refusal)
    : Type 0 where
  pub calls : CallsGoOn store old new
  pub fault : IsErrOf result refusal.Store → Rose (store.faults old) (store.faults new)
  pub other : OnErr result ((result ≡ Err refusal.Store) ⊎ (result ≡ Err refusal.OutOfMemory))
