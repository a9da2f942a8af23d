-- What is read of a whole store, and how that is refused.
use Rattle.std.specs.Prelude.{◌≡◌, ◌<◌, ◌≤◌, Option, Some, None, Result, IfErr, IsErrOf, IsTrue, length}
use Rattle.std.specs.FinMap.{entries}
use Rattle.txn_key.specs.Documents.{Docs}
use Rattle.store_trait.specs.Calls.{Rose}
use Rattle.store_trait.specs.Contents.{Content}
use Rattle.store_trait.specs.Stores.{CallsGoOn}
use Rattle.store_trait.specs.declared.store.Store.{Ghosts}
use Rattle.store_laws.specs.Meaning.{meaning}
use Rattle.store_laws.specs.Reads.{OnlyReads}
use Rattle.txn_audit.specs.Audits.{PassesAudit, ShowsFlaw}
use Rattle.txn_audit.specs.Flaws.{IsFirstBroken}
use Rattle.txn_audit.specs.Reading.{ListsMany}
use Rattle.txn_play.specs.declared.finding.Finding.{Finding}
use Rattle.txn_play.specs.declared.finding.Finding.TheVariants as finding
use Rattle.txn_play.specs.declared.refusal.Refusal.{Refusal}
use Rattle.txn_play.specs.declared.refusal.Refusal.TheVariants as refusal

-- a content passes an audit, and means these documents
pub record IsMeaning (c : Content) (docs : Docs) : Type 0 where
  pub passes : PassesAudit c
  pub docs_are : docs ≡ meaning c

-- an audit finds this of a content: the first rule that fails, and where; or more cells than it reads
abbrev pub IsFound : Content → Finding → Type 0
IsFound c (finding.Unsound rule at) = (length (entries c) ≤ 200000) × IsFirstBroken c rule at
IsFound c finding.TooManyCells = 200000 < length (entries c)

-- an audit passes a content, or finds something against it
abbrev pub IsVerdict : Content → Option Finding → Type 0
IsVerdict c None = PassesAudit c
IsVerdict c (Some found) = IsFound c found

-- what reading a whole store may be refused for: what is found, the store's failure, or want of memory
abbrev pub IsOfReading : Refusal → Type 0
IsOfReading (refusal.Found found) = Unit {0}
IsOfReading refusal.Store = Unit {0}
IsOfReading refusal.OutOfMemory = Unit {0}
IsOfReading _ = ⊥

-- where it is refused for what is found, that is so
abbrev pub HasFound : Content → Refusal → Type 0
HasFound c (refusal.Found found) = IsFound c found
HasFound c _ = Unit {0}

-- over any store: it is so of the cells that these calls listed, and no others were made
abbrev pub ShowsFinding : {S : Type 0} → Ghosts S → S → S → Finding → Type 0
ShowsFinding store old new (finding.Unsound rule at) = ShowsFlaw store old new rule at
ShowsFinding store old new finding.TooManyCells = ListsMany store old new

abbrev pub IsShownFor : {S : Type 0} → Ghosts S → S → S → Refusal → Type 0
IsShownFor store old new (refusal.Found found) = ShowsFinding store old new found
IsShownFor store old new _ = Unit {0}

-- Reading a whole store changes nothing, and is refused for such a cause.
pub record ReadsAlone {S T : Type 0} (store : Ghosts S) (old new : S) (result : Result T Refusal)
    : Type 0 where
  pub only : IsTrue store.tells → OnlyReads store old new
  pub calls : CallsGoOn store old new
  pub fault : IsErrOf result refusal.Store → Rose (store.faults old) (store.faults new)
  pub kind : IfErr result IsOfReading
  pub found : IsTrue store.tells → IfErr result (HasFound (store.content old))
  pub shown : IfErr result (IsShownFor store old new)
