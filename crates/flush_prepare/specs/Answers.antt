-- What a store answered to one call. A store that tells its content answered truly.
use Rattle.std.specs.Prelude.{◌≡◌, Option, Ok, IsTrue}
use Rattle.std.specs.FinMap.{get}
use Rattle.store_trait.specs.Calls.{Reads, Edits, IsMade}
use Rattle.store_trait.specs.declared.cell.Cell.{Cell}
use Rattle.store_trait.specs.declared.edit.Edit.{Edit}
use Rattle.store_trait.specs.declared.edit.Edited.{Edited}
use Rattle.store_trait.specs.declared.name.Name.{Name}
use Rattle.store_trait.specs.declared.store.Store.{Ghosts}

-- a read was answered so, and changed nothing
pub record HasRead {S : Type 0} (store : Ghosts S) (old : S) (name : Name) (found : Option Cell)
    (new : S) : Type 0 where
  pub answer : store.answered old (Reads name (Ok found)) new
  pub told : IsTrue store.tells → found ≡ get (store.content old) name
  pub same : IsTrue store.tells → store.content new ≡ store.content old

-- an edit was answered so, and made
pub record HasEdited {S : Type 0} (store : Ghosts S) (old : S) (name : Name) (edit : Edit)
    (done : Edited) (new : S) : Type 0 where
  pub answer : store.answered old (Edits name edit (Ok done)) new
  pub told : IsTrue store.tells → IsMade (store.content old) name edit (store.content new) done
