-- What one call makes of what a store in memory tells.
use Rattle.std.specs.Prelude.{◌≡◌, ◌↔◌, Bool, true, IsTrue, List, [], Result, IfOk, OnOk, IsErrOf, option_map}
use Rattle.std.specs.List.{list_all}
use Rattle.std.specs.FinMap.{get, entries}
use Rattle.store_trait.specs.Names.{may_stand}
use Rattle.store_trait.specs.Contents.{named, first_past}
use Rattle.store_trait.specs.Calls.{Exchange, Reads, Edits, Lists, IsMade, IsOfKind}
use Rattle.store_trait.specs.declared.name.Name.{Name}
use Rattle.store_trait.specs.declared.cell.Cell.{Cell}
use Rattle.store_trait.specs.declared.edit.Edited.{Edited}
use Rattle.store_trait.specs.declared.store.StoreError.{StoreError}
use Rattle.store_trait.specs.declared.store.StoreError.TheVariants.{Failed, OutOfMemory}
use Rattle.store_memory.specs.declared.log.Logged.{Logged}
use Rattle.store_memory.specs.Told.{Told, content_of, IsWithinCounts, fails_next, failed, called, changes_of}

-- The cells are the present content, each of its name's kind, and what is told is within its
-- counts.
pub record IsKept (cells : List (Name × Cell)) (told : Told) : Type 0 where
  pub present : entries (content_of told) ≡ cells
  pub kinds : list_all (λ entry. may_stand entry.0 entry.1) cells ≡ true
  pub counted : IsWithinCounts told

-- What a call makes of what is told. It fails exactly where it is to. One that doesn't is counted,
-- and its changes are in the log; where it is refused for memory there are none.
pub record IsCall {A : Type 0} (old new : Told) (changes : List Logged)
    (result : Result A StoreError) : Type 0 where
  pub fails : IsErrOf result Failed ↔ IsTrue (fails_next old)
  pub failure : IsErrOf result Failed → new ≡ failed old
  pub memory : IsErrOf result OutOfMemory → new ≡ called old []
  pub success : OnOk result (new ≡ called old changes)
  pub counted : IsWithinCounts old

-- an answer to an edit: whether it hit, and the cell that then stands under the name
pub record IsAnswer (hit : Bool) (name : Name) (new : Told) (done : Edited) : Type 0 where
  pub hit_is : done.hit ≡ hit
  pub cell : done.cell ≡ get (content_of new) name
  pub kind : IsOfKind name done.cell

-- What the store says of a call: its answer is that of the content, it is refused exactly where it
-- is to fail or for memory, and this is told afterwards.
abbrev pub Answered : Told → Exchange → Told → Type 0
Answered old (Reads name result) new =
    IfOk result (λ found. found ≡ get (content_of old) name) × IsCall old new [] result
Answered old (Edits name edit result) new =
    IfOk result (IsMade (content_of old) name edit (content_of new))
    × IsCall old new (changes_of old name edit) result
Answered old (Lists after result) new =
    IfOk result (λ found. found ≡ option_map named (first_past after (content_of old)))
    × IsCall old new [] result
