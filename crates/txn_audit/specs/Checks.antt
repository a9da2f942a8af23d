-- The rules at the cells of a list, one after the other.
use Rattle.std.specs.Prelude.{◌≡◌, ℕ, ◌<◌, true, Option, Some, None, List, length, slice_index_or}
use Rattle.std.specs.FinMap.{get}
use Rattle.store_trait.specs.Contents.{Content}
use Rattle.store_trait.specs.Names.{may_stand}
use Rattle.store_trait.specs.declared.cell.Named.{Named}
use Rattle.store_laws.specs.Soundness.{Rule, Holds, rule_number}
use Rattle.store_laws.specs.View.{counter}
use Rattle.txn_audit.specs.Flaws.{HoldsAtAll, IsFirstBroken}
use Rattle.listed_cells.specs.Listing.{content_of}
use Rattle.listed_cells.specs.Standing.{AreQueues}
use Rattle.listed_cells.specs.Orders.{IsOrder}
use Rattle.txn_audit.specs.declared.checking.Facts.{Facts}
use Rattle.txn_audit.specs.declared.checking.Flaw.{Flaw}

-- what the rules look up is as the cells have it
pub record AreFacts (cells : List Named) (facts : Facts) : Type 0 where
  pub counts : facts.counter ≡ counter (content_of cells)
  pub stand : AreQueues cells facts.standing.queues.items
  pub ordered : IsOrder (content_of cells) facts.order.graph facts.order.unsealed.items

-- a cell stands under its name in a content, and is of its name's kind
pub record IsCellOf (c : Content) (x : Named) : Type 0 where
  pub there : get c x.name ≡ Some x.cell
  pub kind : may_stand x.name x.cell ≡ true

-- the rules of lesser numbers hold at all names
abbrev pub HoldBelow : Content → ℕ → Type 0
HoldBelow c number = (rule : Rule) → rule_number rule < number → HoldsAtAll c rule

-- of a rule at the cell of a place
abbrev pub HoldsAtPlace : Rule → List Named → ℕ → Type 0
HoldsAtPlace rule cells k =
    (d : Named) → Holds rule (content_of cells) (slice_index_or cells k d).name

-- a rule fails at the cell of a place, and at none before it
pub record FailsFirst (rule : Rule) (cells : List Named) (place : ℕ) : Type 0 where
  pub within : place < length cells
  pub fails : HoldsAtPlace rule cells place → ⊥
  pub before : (k : ℕ) → k < place → HoldsAtPlace rule cells k

-- the first place at which a rule fails, if there is one
abbrev pub IsFirstPlace : Rule → List Named → Option ℕ → Type 0
IsFirstPlace rule cells None = (k : ℕ) → k < length cells → HoldsAtPlace rule cells k
IsFirstPlace rule cells (Some place) = FailsFirst rule cells place

-- the first rule below 10 that fails, and the first cell at whose name it does; or all of them hold
abbrev pub IsFirstFlaw : List Named → Option Flaw → Type 0
IsFirstFlaw cells None = HoldBelow (content_of cells) 10
IsFirstFlaw cells (Some flaw) =
    (flaw.place < length cells)
    × ((d : Named) →
    IsFirstBroken (content_of cells) flaw.rule (slice_index_or cells flaw.place d).name)
