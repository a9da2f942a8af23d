-- What an audit answers.
use Rattle.std.specs.Prelude.{◌≡◌, ◌<◌, ◌≤◌, ℕ, List, length, map, Result, Ok, Err}
use Rattle.std.specs.FinMap.{entries}
use Rattle.txn_key.specs.Documents.{Docs}
use Rattle.store_trait.specs.Contents.{Content, named}
use Rattle.store_trait.specs.declared.cell.Named.{Named}
use Rattle.store_trait.specs.declared.name.Name.{Name}
use Rattle.store_trait.specs.declared.store.Store.{Ghosts}
use Rattle.listed_cells.specs.Listing.{IsListing, content_of}
use Rattle.store_laws.specs.Meaning.{meaning}
use Rattle.store_laws.specs.Soundness.{IsSound}
use Rattle.txn_audit.specs.Flaws.{IsFirstBroken}
use Rattle.txn_audit.specs.Reading.{ListsMany, WasListed}
use Rattle.txn_audit.specs.declared.checked.Checked.{Checked}
use Rattle.txn_audit.specs.declared.error.AuditError.{AuditError}
use Rattle.txn_audit.specs.declared.error.AuditError.TheVariants as error

-- a content is sound, and means these documents
pub record Means (c : Content) (docs : Docs) : Type 0 where
  pub sound : IsSound c
  pub docs_are : docs ≡ meaning c

-- a content passes an audit: it is sound, and has no more cells than an audit reads
pub record PassesAudit (c : Content) : Type 0 where
  pub sound : IsSound c
  pub few : length (entries c) ≤ 200000

-- it passes, and these are all its cells and the documents that it means
pub record IsAudited (c : Content) (checked : Checked) : Type 0 where
  pub passes : PassesAudit c
  pub cells : checked.cells ≡ map named (entries c)
  pub docs_are : checked.docs ≡ meaning c

-- what judging listed cells is refused for: the first flaw, or want of memory
abbrev pub IsFlawOf : Content → AuditError → Type 0
IsFlawOf c (error.Unsound rule at) = IsFirstBroken c rule at
IsFlawOf c error.TooMany = ⊥
IsFlawOf c error.StoreFault = ⊥
IsFlawOf c error.OutOfMemory = Unit {0}

-- what an audit that doesn't pass answers: the first flaw, where all cells were read; that there are more; or that
-- the store failed
abbrev pub HasFault : Content → AuditError → Type 0
HasFault c (error.Unsound rule at) = (length (entries c) ≤ 200000) × IsFirstBroken c rule at
HasFault c error.TooMany = 200000 < length (entries c)
HasFault c error.StoreFault = Unit {0}
HasFault c error.OutOfMemory = Unit {0}

-- a store was listed, and the cells have this first flaw
pub record ShowsFlaw {S : Type 0} (store : Ghosts S) (old new : S) (rule : ℕ) (at : Name)
    : Type 0 where
  pub cells : List Named
  pub listed : WasListed store old new cells
  pub ordered : IsListing cells
  pub flaw : IsFirstBroken (content_of cells) rule at

-- What an answer rests on, over a store that tells nothing too: it is so of the cells that were listed.
abbrev pub IsShownAs : {S : Type 0} → Ghosts S → S → S → Result Checked AuditError → Type 0
IsShownAs store old new (Ok checked) =
    WasListed store old new checked.cells × Means (content_of checked.cells) checked.docs
IsShownAs store old new (Err (error.Unsound rule at)) = ShowsFlaw store old new rule at
IsShownAs store old new (Err error.TooMany) = ListsMany store old new
IsShownAs store old new (Err _) = Unit {0}
