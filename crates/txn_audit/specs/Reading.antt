-- How a whole store is read: which calls are made, and what they were answered.
use Rattle.std.specs.Prelude.{◌≡◌, ◌+◌, ◌≤◌, ◌⊎◌, IsTrue, List, [], ◌∷◌, ◌++◌, length, Option, Some, None, Result, Ok, Err, IsErrOf}
use Rattle.std.specs.FinMap.{entries}
use Rattle.store_laws.specs.Reads.{OnlyReads}
use Rattle.store_trait.specs.Calls.{Exchange, Rose}
use Rattle.store_trait.specs.Exchanges.{IsExchange}
use Rattle.store_trait.specs.Stores.{CallsGoOn}
use Rattle.store_trait.specs.declared.cell.Named.{Named}
use Rattle.store_trait.specs.declared.name.Name.{Name}
use Rattle.store_trait.specs.declared.store.Store.{Ghosts}
use Rattle.txn_audit.specs.declared.error.AuditError.{AuditError}
use Rattle.txn_audit.specs.declared.error.AuditError.TheVariants as error

-- Calls that only read a whole store: at most one for each cell and one more, and never more than 200,001. They
-- are refused as failed exactly where one of them failed.
pub record ReadsWhole {S T : Type 0} (store : Ghosts S) (old new : S) (result : Result T AuditError)
    : Type 0 where
  pub only : IsTrue store.tells → OnlyReads store old new
  pub go_on : CallsGoOn store old new
  pub each : IsTrue store.tells
      → store.calls new ≤ store.calls old + length (entries (store.content old)) + 1
  pub most : store.calls new ≤ store.calls old + 200001
  pub fault : IsErrOf result error.StoreFault → Rose (store.faults old) (store.faults new)
  pub still : IsErrOf result error.StoreFault ⊎ (store.faults new ≡ store.faults old)

-- Calls that list a store: each asked for the first cell past the last one's name, and was answered so.
pub data Lists {S : Type 0} (store : Ghosts S) (old : S) : S → Option Name → List Named → Type 0
  where
    Nothing : Lists store old old None []
    Then : (now new : S) (after : Option Name) (cells : List Named) (found : Named)
        → Lists store old now after cells
        → IsExchange store now (Exchange.Lists after (Ok (Some found))) new
        → Lists store old new (Some found.name) (cells ++ found ∷ [])

-- a store was listed from its first cell to its last, by these calls alone
pub record WasListed {S : Type 0} (store : Ghosts S) (old new : S) (cells : List Named) : Type 0
  where
    pub last : S
    pub after : Option Name
    pub lists : Lists store old last after cells
    pub ended : IsExchange store last (Exchange.Lists after (Ok None)) new

-- so many cells were listed, by these calls alone
pub record ListsMany {S : Type 0} (store : Ghosts S) (old new : S) : Type 0 where
  pub after : Option Name
  pub cells : List Named
  pub lists : Lists store old new after cells
  pub many : length cells ≡ 200001

-- What a list of cells rests on, over a store that tells nothing too: these were listed, or one too many.
abbrev pub IsShown : {S : Type 0} → Ghosts S → S → S → Result (List Named) AuditError → Type 0
IsShown store old new (Ok cells) = WasListed store old new cells
IsShown store old new (Err error.TooMany) = ListsMany store old new
IsShown store old new (Err _) = Unit {0}
