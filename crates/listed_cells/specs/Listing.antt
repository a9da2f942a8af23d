-- The cells of a store as they are listed.
use Rattle.std.specs.Prelude.{◌≡◌, ℕ, ◌<◌, true, Option, Some, None, List, length, map, slice_index_or, All}
use Rattle.std.specs.FinMap.{from_sorted, get, is_sorted}
use Rattle.store_trait.specs.Contents.{Content}
use Rattle.store_trait.specs.Names.{name_cmp, may_stand}
use Rattle.store_trait.specs.declared.cell.Cell.{Cell}
use Rattle.store_trait.specs.declared.cell.Named.{Named}
use Rattle.store_trait.specs.declared.name.Name.{Name}

abbrev pub entries_of : List Named → List (Name × Cell)
entries_of cells = map (λ (x : Named). (x.name, x.cell)) cells

-- what a store holds that lists these cells
abbrev pub content_of : List Named → Content
content_of cells = from_sorted (entries_of cells)

-- in the order of names, each name once, and each cell of its name's kind
pub record IsListing (cells : List Named) : Type 0 where
  pub rises : is_sorted name_cmp (entries_of cells) ≡ true
  pub kinds : All (λ x. may_stand x.name x.cell ≡ true) cells

-- the place among the cells of what stands under a name, if something does
abbrev pub StandsAt : List Named → Name → Option ℕ → Type 0
StandsAt cells n None = get (content_of cells) n ≡ None
StandsAt cells n (Some place) =
    (place < length cells)
    × ((d : Named) → get (content_of cells) n ≡ Some (slice_index_or cells place d).cell)
