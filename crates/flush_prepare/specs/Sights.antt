-- What a key's two cells show of a token that is to wait on it.
use Rattle.std.specs.Prelude.{ℤ, Bool, false, not, ◌&&◌, nat_lt, Option, Some, None, if◌then◌else◌}
use Rattle.txn_key.specs.declared.id.Token.{Token}
use Rattle.store_trait.specs.Edits.{has_token}
use Rattle.store_trait.specs.Owners.{owner_of, epoch}
use Rattle.store_trait.specs.declared.cell.DocCell.{DocCell}
use Rattle.store_trait.specs.declared.cell.StashCell.{StashCell}
use Rattle.store_trait.specs.declared.side.Side.{Side}
use Rattle.store_laws.specs.View.{by_side, owner_queue}
use Rattle.flush_prepare.specs.declared.sight.Sight.{Sight}
use Rattle.flush_prepare.specs.declared.sight.Sight.TheVariants.{Queued, Marked, Free}

abbrev pub doc_mark : Option DocCell → Option Token
doc_mark None = None
doc_mark (Some doc) = doc.remove

abbrev pub stash_mark : Option StashCell → Option Token
stash_mark None = None
stash_mark (Some stash) = stash.insert

-- the mark of the cell that owns the key
abbrev pub owner_mark : Option DocCell → Option StashCell → Option Token
owner_mark doc stash = by_side (owner_of doc stash) None (doc_mark doc) (stash_mark stash)

abbrev pub marked_or_free : Option Token → Side → Sight
marked_or_free (Some mark) side = Marked mark
marked_or_free None side = Free side

-- it waits in the owner queue, or the owner is marked, or it can be added
abbrev pub sight : Token → Option DocCell → Option StashCell → Sight
sight token doc stash =
    if has_token token (owner_queue doc stash) then Queued
    else marked_or_free (owner_mark doc stash) (owner_of doc stash)

-- a stash entry is past a document at that number, and lacks the token
abbrev pub is_outdated : ℤ → Token → Option StashCell → Bool
is_outdated revno token None = false
is_outdated revno token (Some stash) =
    nat_lt (epoch revno) (epoch stash.revno) && not (has_token token stash.queue)
