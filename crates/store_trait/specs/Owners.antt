use Rattle.std.specs.Prelude.{ℕ, nat_lt, unsigned_abs, ℤ, Option, Some, None, if◌then◌else◌}
use Rattle.store_trait.specs.declared.cell.DocCell.{DocCell}
use Rattle.store_trait.specs.declared.cell.StashCell.{StashCell}
use Rattle.store_trait.specs.declared.side.Side.{Side}
use Rattle.store_trait.specs.declared.side.Side.TheVariants as side

-- how often a key's document has changed, its insertions and removals included
abbrev pub epoch : ℤ → ℕ
epoch revno = unsigned_abs revno

-- the owner of a key is the cell of the greater epoch, the document on a tie, the only one where
-- one is there
abbrev pub owner_of : Option DocCell → Option StashCell → Side
owner_of None None = side.Neither
owner_of (Some doc) None = side.Document
owner_of None (Some stash) = side.Stash
owner_of (Some doc) (Some stash) =
    if nat_lt (epoch doc.revno) (epoch stash.revno) then side.Stash else side.Document
