-- Why a step is refused, by what the store answered in this call, be it a store that tells nothing.
use Rattle.std.specs.Prelude.{◌≡◌, ◌≤◌, true, false, Bool, Option, Some, None, is_some, unwrap_or, Ok, ◌⊎◌}
use Rattle.txn_key.specs.declared.id.TxnId.{TxnId}
use Rattle.store_trait.specs.Calls.{Exchange, Edits}
use Rattle.store_trait.specs.Edits.{hit, nonce_limit}
use Rattle.store_trait.specs.Names.{may_hold}
use Rattle.store_trait.specs.declared.cell.Cell.{Cell}
use Rattle.store_trait.specs.declared.cell.Cell.TheVariants as cell
use Rattle.store_trait.specs.declared.edit.Edit.{Edit}
use Rattle.store_trait.specs.declared.edit.Edit.TheVariants as edit
use Rattle.store_trait.specs.declared.edit.Edited.{Edited}
use Rattle.store_trait.specs.declared.name.Name.{Name}
use Rattle.store_trait.specs.declared.name.Name.TheVariants as name
use Rattle.store_trait.specs.declared.store.Store.{Ghosts}
use Rattle.flush_prepare.specs.Refusals.{IsOfStore}
use Rattle.flush_prepare.specs.declared.error.StepError.{StepError}
use Rattle.flush_prepare.specs.declared.error.StepError.TheVariants as step

-- the call was answered in a way that shows this
pub record IsShown {S : Type 0} (store : Ghosts S) (old new : S) (Shows : Exchange → Type 0)
    : Type 0 where
  pub exchange : Exchange
  pub answer : store.answered old exchange new
  pub shows : Shows exchange

-- no nonce was drawn, and the counter stands at its end
abbrev pub NoneLeft : Bool → Option Cell → Type 0
NoneLeft false (Some (cell.Nonce counter)) = nonce_limit ≤ counter
NoneLeft _ _ = ⊥

abbrev pub ShowsNoNonce : Exchange → Type 0
ShowsNoNonce (Edits name.Nonce edit.DrawNonce (Ok done)) = NoneLeft done.hit done.cell
ShowsNoNonce _ = ⊥

-- no state of the name, with a cell of its kind or none, makes the edit answer so
abbrev pub IsImpossible : Name → Edit → Edited → Type 0
IsImpossible n change done =
    (found : Option Cell) → may_hold n found ≡ true → done.hit ≡ is_some (hit change n found)
    → done.cell ≡ unwrap_or (hit change n found) found → ⊥

-- the record is gone, or an edit was answered as no store answers it
abbrev pub ShowsClash : TxnId → Name → Exchange → Type 0
ShowsClash id at (Edits n change (Ok done)) =
    (n ≡ at) × (IsImpossible n change done ⊎ (at ≡ name.Record id) × (done.cell ≡ None))
ShowsClash id at _ = ⊥

-- No nonce is left, or the record and what was answered disagree. A record is never found missing by its
-- token, and no revision number is looked at.
abbrev pub HasCause : {S : Type 0} → Ghosts S → S → S → TxnId → StepError → Type 0
HasCause store old new id step.NoncesSpent = IsShown store old new ShowsNoNonce
HasCause store old new id (step.Clash who at) =
    (who ≡ id) × IsShown store old new (ShowsClash id at)
HasCause store old new id error = IsOfStore error
