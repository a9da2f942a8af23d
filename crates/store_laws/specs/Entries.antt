-- What stays of a key's two cells, be they its owner or not.
use Rattle.std.specs.Prelude.{◌≡◌, ℕ, ◌<◌, ◌≤◌, Option, Some, None, ◌⊎◌}
use Rattle.txn_key.specs.declared.id.Token.{Token}
use Rattle.txn_key.specs.declared.key.Key.{Key}
use Rattle.store_trait.specs.Contents.{Content}
use Rattle.store_trait.specs.Owners.{epoch, owner_of}
use Rattle.store_trait.specs.declared.cell.DocCell.{DocCell}
use Rattle.store_trait.specs.declared.cell.StashCell.{StashCell}
use Rattle.store_trait.specs.declared.side.Side.TheVariants as side
use Rattle.store_laws.specs.View.{doc_at, stash_at}

-- the epoch of a stash entry, 0 where there is none
abbrev pub entry_epoch : Option StashCell → ℕ
entry_epoch None = 0
entry_epoch (Some entry) = epoch entry.revno

abbrev pub stash_epoch : Content → Key → ℕ
stash_epoch c key = entry_epoch (stash_at c key)

-- a document as it was read stands there still, or the key's stash entry is past it
abbrev pub DocStays : Content → Key → DocCell → Type 0
DocStays c key doc = (doc_at c key ≡ Some doc) ⊎ (epoch doc.revno < stash_epoch c key)

-- a stash entry as it was read stands there still, or a later one does
abbrev pub EntryStays : Content → Key → StashCell → Type 0
EntryStays c key entry = (stash_at c key ≡ Some entry) ⊎ (epoch entry.revno < stash_epoch c key)

-- Stash entries stay, and their epochs don't fall. No document comes to a key with neither cell.
-- And a marked cell stays as it is, until a stash entry is past it.
pub record CellsStay (old new : Content) : Type 0 where
  pub epochs : (key : Key) → stash_epoch old key ≤ stash_epoch new key
  pub docs : (key : Key) → doc_at old key ≡ None → stash_at old key ≡ None
      → stash_at new key ≡ None → doc_at new key ≡ None
  pub marked_doc : (key : Key) (doc : DocCell) (mark : Token) → doc_at old key ≡ Some doc
      → doc.remove ≡ Some mark → DocStays new key doc
  pub marked_entry : (key : Key) (entry : StashCell) (mark : Token) → stash_at old key ≡ Some entry
      → entry.insert ≡ Some mark → EntryStays new key entry

-- an absent entry counts as unmarked
abbrev pub IsUnmarked : Option StashCell → Type 0
IsUnmarked None = Unit {0}
IsUnmarked (Some entry) = entry.insert ≡ None

-- the key's stash entry owns it, and was unmarked before or is a later one
pub record OwnsByEntry (old new : Content) (key : Key) : Type 0 where
  pub owner : owner_of (doc_at new key) (stash_at new key) ≡ side.Stash
  pub newer : IsUnmarked (stash_at old key) ⊎ (stash_epoch old key < stash_epoch new key)

-- Of one call alone, since it isn't kept by two in turn: a stash entry that changes owns its key
-- afterwards.
abbrev pub StaysOrOwns : Content → Content → Key → Type 0
StaysOrOwns old new key = (stash_at new key ≡ stash_at old key) ⊎ OwnsByEntry old new key
