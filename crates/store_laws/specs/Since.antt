-- Chains of calls, and what two reads, one after the other, show of a key.
use Rattle.std.specs.Prelude.{◌≡◌, Option}
use Rattle.txn_key.specs.declared.key.Key.{Key}
use Rattle.store_trait.specs.Contents.{Content}
use Rattle.store_trait.specs.Owners.{owner_of}
use Rattle.store_trait.specs.declared.cell.DocCell.{DocCell}
use Rattle.store_trait.specs.declared.cell.StashCell.{StashCell}
use Rattle.store_trait.specs.declared.side.Side.TheVariants as side
use Rattle.store_laws.specs.Soundness.{IsSound}
use Rattle.store_laws.specs.Trail.{IsCall}
use Rattle.store_laws.specs.View.{doc_at, stash_at}

-- what a chain consists of: calls of runners, and nothing else so far
pub data Link (old new : Content) : Type 0 where
  Call : IsCall old new → Link old new

-- links lead from one content to another
pub data Since : Content → Content → Type 0 where
  Nothing : (c : Content) → Since c c
  Then : (c d e : Content) → Since c d → Link d e → Since c e

-- the owner of a key is the one that two cells show, cell for cell
pub record IsOwnedAs (c : Content) (key : Key) (doc : Option DocCell) (stash : Option StashCell)
    : Type 0 where
  pub owner : owner_of (doc_at c key) (stash_at c key) ≡ owner_of doc stash
  pub by_doc : owner_of doc stash ≡ side.Document → doc_at c key ≡ doc
  pub by_stash : owner_of doc stash ≡ side.Stash → stash_at c key ≡ stash

-- a moment on the way from one content to another at which a key was owned as two cells show
pub record IsMoment (first last : Content) (key : Key) (doc : Option DocCell)
    (stash : Option StashCell) : Type 0 where
  pub at : Content
  pub sound : IsSound at
  pub before : Since first at
  pub after : Since at last
  pub shows : IsOwnedAs at key doc stash
