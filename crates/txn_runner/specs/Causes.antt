-- Why a step is refused, by what the store answered.
use Rattle.std.specs.Prelude.{◌≡◌, ◌<◌, ◌≤◌, ◌+◌, ◌-◌, ℕ, nat_lt, nat_le, true, false, Bool, Option, Some, None, option_and_then, Result, Ok, Err, if◌then◌else◌, unsigned_abs}
use Rattle.txn_key.specs.declared.id.TxnId.{TxnId}
use Rattle.txn_key.specs.declared.key.Key.{Key}
use Rattle.store_trait.specs.Calls.{Exchange, Reads, Edits}
use Rattle.store_trait.specs.Exchanges.{Exchanged}
use Rattle.store_trait.specs.Cells.{as_counter}
use Rattle.store_trait.specs.declared.cell.Cell.{Cell}
use Rattle.store_trait.specs.Edits.{nonce_limit}
use Rattle.store_trait.specs.declared.cell.Cell.TheVariants as cell
use Rattle.store_trait.specs.declared.edit.Edit.{Edit}
use Rattle.store_trait.specs.declared.edit.Edit.TheVariants as edit
use Rattle.store_trait.specs.declared.name.Name.{Name}
use Rattle.store_trait.specs.declared.name.Name.TheVariants as name
use Rattle.store_trait.specs.declared.store.StoreError.{StoreError}
use Rattle.store_trait.specs.declared.store.StoreError.TheVariants as store_error
use Rattle.txn_record.specs.declared.entry.Outcome.{Outcome}
use Rattle.txn_runner.specs.Settling.{last_revno, settled_state}
use Rattle.txn_runner.specs.declared.stage.Stage.{Stage}
use Rattle.txn_runner.specs.declared.stage.Stage.TheVariants as stage
use Rattle.txn_runner.specs.declared.error.StepError.{StepError}
use Rattle.txn_runner.specs.declared.error.StepError.TheVariants as step
use Rattle.store_trait.specs.declared.store.Store.{Ghosts}

-- how a store refuses a call
abbrev pub step_error_of : StoreError → StepError
step_error_of store_error.Failed = step.StoreFault
step_error_of store_error.OutOfMemory = step.OutOfMemory

-- a refusal by the store itself
abbrev pub IsOfStore : StepError → Type 0
IsOfStore step.StoreFault = Unit {0}
IsOfStore step.OutOfMemory = Unit {0}
IsOfStore _ = ⊥

-- the store answered an edit with that hit or miss
pub record AnsweredEdit {S : Type 0} (store : Ghosts S) (old : S) (name : Name) (edit : Edit) (hit : Bool) (new : S) : Type 0 where
  pub found : Option Cell
  pub counted : store.calls new ≡ store.calls old + 1
  pub answer : store.answered old (Edits name edit (Ok (record { hit = hit; cell = found }))) new

-- Besides the store's own refusals there is one: a record and the cell of a name disagree, where the
-- edit of it missed.
abbrev pub IsMissed : {S : Type 0} → Ghosts S → S → TxnId → Name → Edit → S → StepError → Type 0
IsMissed store old id name edit new (step.Clash who at) = (who ≡ id) × (at ≡ name) × AnsweredEdit store old name edit false new
IsMissed store old id name edit new error = IsOfStore error

-- the cell that a store answered is no document
abbrev pub is_no_document : Option Cell → Bool
is_no_document (Some (cell.Doc _)) = false
is_no_document _ = true

-- The nonce that a draw gives, by whether it hit and by the counter after it: the number before a hit.
-- A miss at the last counter says that no nonce is left.
abbrev pub drawn_of : TxnId → Bool → Option ℕ → Result ℕ StepError
drawn_of id true (Some counter) = if nat_lt 0 counter then Ok (counter - 1) else Err (step.Clash id name.Nonce)
drawn_of id false (Some counter) = if nat_le nonce_limit counter then Err step.NoncesSpent else Err (step.Clash id name.Nonce)
drawn_of id _ None = Err (step.Clash id name.Nonce)

-- ---- what an answer shows

-- no nonce was drawn, and the counter stands at its end
abbrev pub NoneLeft : Bool → Option Cell → Type 0
NoneLeft false (Some (cell.Nonce counter)) = nonce_limit ≤ counter
NoneLeft _ _ = ⊥

abbrev pub ShowsNoNonce : Exchange → Type 0
ShowsNoNonce (Edits name.Nonce edit.DrawNonce (Ok done)) = NoneLeft done.hit done.cell
ShowsNoNonce _ = ⊥

-- the document of that key stands past the last number
abbrev pub ShowsSpentRevno : Key → Exchange → Type 0
ShowsSpentRevno key (Reads (name.Doc at) (Ok (Some (cell.Doc doc)))) = (at ≡ key) × (last_revno < unsigned_abs doc.revno)
ShowsSpentRevno _ _ = ⊥

-- An edit for a transaction, of its record or of a queue that its token is put into, missed; or what
-- was drawn for it is no nonce.
abbrev pub ShowsMiss : TxnId → Name → Edit → Bool → Option Cell → Type 0
ShowsMiss id at (edit.Move _ _ _ _) hit found = (at ≡ name.Record id) × (hit ≡ false)
ShowsMiss id at (edit.AddToken token) hit found = (token.id ≡ id) × (hit ≡ false)
ShowsMiss id at edit.DrawNonce hit found = drawn_of id hit (option_and_then as_counter found) ≡ Err (step.Clash id at)
ShowsMiss _ _ _ _ _ = ⊥

-- the record of a transaction and what the store answered at a name disagree
abbrev pub ShowsClash : TxnId → Name → Exchange → Type 0
ShowsClash id at (Edits name edit (Ok done)) = (name ≡ at) × ShowsMiss id at edit done.hit done.cell
ShowsClash id at (Reads (name.Doc key) (Ok found)) = (at ≡ name.Doc key) × (is_no_document found ≡ true)
ShowsClash _ _ _ = ⊥

-- a record of that id is there, so that none was put
abbrev pub ShowsRepeated : TxnId → Exchange → Type 0
ShowsRepeated id (Edits at (edit.InsertRecord _) (Ok done)) =
    (at ≡ name.Record id) × (done.hit ≡ false)
ShowsRepeated _ _ = ⊥

-- the record of that id came to that end
abbrev pub ShowsEnd : TxnId → Outcome → Exchange → Type 0
ShowsEnd id outcome (Edits at (edit.Move from to _ _) (Ok done)) =
    (at ≡ name.Record id) × (to ≡ settled_state outcome) × (done.hit ≡ true)
ShowsEnd id outcome _ = ⊥

-- ---- why a step is refused, over a store that tells nothing too

-- Calls were made since then, of which the last was answered in a way that shows this.
pub record LastShows {S : Type 0} (store : Ghosts S) (old new : S) (Shows : Exchange → Type 0) : Type 0 where
  pub before : S
  pub exchange : Exchange
  pub since : Exchanged store old before
  pub last : store.calls new ≡ store.calls before + 1
  pub answer : store.answered before exchange new
  pub shows : Shows exchange

-- No nonce is left, or a number is past the last, or a record and a cell disagree: each only where the
-- last call was answered so. A record is never found missing.
abbrev pub HasCause : {S : Type 0} → Ghosts S → S → S → TxnId → StepError → Type 0
HasCause store old new id step.NoncesSpent = LastShows store old new ShowsNoNonce
HasCause store old new id (step.RevnoSpent key) = LastShows store old new (ShowsSpentRevno key)
HasCause store old new id (step.Clash who at) = (who ≡ id) × LastShows store old new (ShowsClash id at)
HasCause store old new id (step.Lost _) = ⊥
HasCause store old new id error = IsOfStore error

-- ---- how a transaction ended, over any store

-- where it came to its end, the last call on the store was answered so
abbrev pub EndIsShown : {S : Type 0} → Ghosts S → S → S → TxnId → Stage → Type 0
EndIsShown store old new id (stage.Settled outcome) = LastShows store old new (ShowsEnd id outcome)
EndIsShown store old new id _ = Unit {0}
