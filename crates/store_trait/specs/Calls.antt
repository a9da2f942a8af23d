use Rattle.std.specs.Prelude.{◌≡◌, ℕ, ◌+◌, ◌<◌, ◌≤◌, ◌⊎◌, nat_le, if◌then◌else◌, IsTrue, Option, Result, OnOk, IsErrOf, IfSome, is_some}
use Rattle.std.specs.FinMap.{get}
use Rattle.store_trait.specs.Contents.{Content}
use Rattle.store_trait.specs.Edits.{hit, edited}
use Rattle.store_trait.specs.Names.{may_stand}
use Rattle.store_trait.specs.declared.name.Name.{Name}
use Rattle.store_trait.specs.declared.cell.Cell.{Cell}
use Rattle.store_trait.specs.declared.cell.Named.{Named}
use Rattle.store_trait.specs.declared.edit.Edit.{Edit}
use Rattle.store_trait.specs.declared.edit.Edited.{Edited}
use Rattle.store_trait.specs.declared.store.StoreError.{StoreError}
use Rattle.store_trait.specs.declared.store.StoreError.TheVariants.{Failed}

-- a call on a store with its arguments and its answer, which may be a refusal
pub data Exchange : Type 0 where
  Reads : Name → Result (Option Cell) StoreError → Exchange
  Edits : Name → Edit → Result Edited StoreError → Exchange
  Lists : Option Name → Result (Option Named) StoreError → Exchange

-- how many calls a store counts at most
abbrev pub call_limit : ℕ
call_limit = 9223372036854775808

-- the count of calls after one more, whatever that answered
abbrev pub counted_call : ℕ → ℕ
counted_call calls = if nat_le call_limit calls then calls else calls + 1

-- a count of faults rose, or stands at its last value
abbrev pub Rose : ℕ → ℕ → Type 0
Rose old new = (old < new) ⊎ (new ≡ 18446744073709551615)

-- The trail of contents goes on: what stood on it so far stays, and the present content stands at the
-- present call.
pub record GoesOn (old new : ℕ → Content) (old_calls new_calls : ℕ) (content : Content) : Type 0 where
  pub before : (n : ℕ) → n ≤ old_calls → new n ≡ old n
  pub here : new new_calls ≡ content

abbrev pub Extends : {S : Type 0} → (S → Content) → (S → ℕ → Content) → (S → ℕ) → S → S → Type 0
Extends content trail calls old new =
    GoesOn (trail old) (trail new) (calls old) (calls new) (content new)

-- A call is counted, whatever it answers. It fails only where the count of faults rose, which never
-- falls, and stays where the call didn't fail; and always once no further call is counted.
pub record IsCounted {S A : Type 0} (calls faults : S → ℕ) (old new : S) (result : Result A StoreError)
    : Type 0 where
  pub once : calls new ≡ counted_call (calls old)
  pub made : OnOk result (calls new ≡ calls old + 1)
  pub later : faults old ≤ faults new
  pub fault : IsErrOf result Failed → Rose (faults old) (faults new)
  pub still : IsErrOf result Failed ⊎ (faults new ≡ faults old)
  pub spent : call_limit ≤ calls old → IsErrOf result Failed

-- an edit was made where its guard held, and the answer says so, with the cell after it
pub record IsMade (old : Content) (name : Name) (edit : Edit) (new : Content) (done : Edited)
    : Type 0 where
  pub made : new ≡ edited old name edit
  pub hit : done.hit ≡ is_some (hit edit name (get old name))
  pub cell : done.cell ≡ get new name

-- a cell that is answered for a name may stand under it
abbrev pub IsOfKind : Name → Option Cell → Type 0
IsOfKind name found = IfSome found (λ cell. IsTrue (may_stand name cell))
