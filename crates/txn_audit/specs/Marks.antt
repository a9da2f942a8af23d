-- Marks, taken apart as they are tested.
use Rattle.std.specs.Prelude.{◌≡◌, true, false, Bool, ℕ, ℤ, ◌&&◌, Option, Some, None, List}
use Rattle.std.specs.List.{list_any, zip}
use Rattle.std.specs.Ordering.{int_eq}
use Rattle.txn_key.specs.Keys.{same_key}
use Rattle.txn_key.specs.declared.id.Token.{Token}
use Rattle.txn_key.specs.declared.key.Key.{Key}
use Rattle.txn_record.specs.declared.op.Op.{Op}
use Rattle.txn_record.specs.declared.op.Change.{Change}
use Rattle.txn_record.specs.declared.record.Record.{Record}
use Rattle.txn_record.specs.declared.state.State.TheVariants as state
use Rattle.store_trait.specs.Contents.{Content}
use Rattle.store_trait.specs.Owners.{owner_of}
use Rattle.store_trait.specs.declared.cell.DocCell.{DocCell}
use Rattle.store_trait.specs.declared.cell.StashCell.{StashCell}
use Rattle.store_trait.specs.declared.side.Side.{Side}
use Rattle.store_trait.specs.declared.side.Side.TheVariants as side
use Rattle.store_laws.specs.Chains.{IsAt}
use Rattle.store_laws.specs.Soundness.{IsMarkOf, is_removal, is_insertion}
use Rattle.store_laws.specs.View.{look, doc_at, stash_at}

-- the mark of a document, if it is there and has one
abbrev pub doc_mark : Option DocCell → Option Token
doc_mark None = None
doc_mark (Some doc) = doc.remove

-- the mark of a stash entry, if it is there and has one
abbrev pub stash_mark : Option StashCell → Option Token
stash_mark None = None
stash_mark (Some stash) = stash.insert

-- cells of a side are marked for changes of this kind
abbrev pub is_marking : Side → Change → Bool
is_marking side.Neither change = false
is_marking side.Document change = is_removal change
is_marking side.Stash change = is_insertion change

-- a key's mark on a side, if there is one, is sound where the side owns the key
abbrev pub IsMarkIfOwner : Content → Key → Side → Option Token → Type 0
IsMarkIfOwner c key owner found =
    (mark : Token) → found ≡ Some mark → owner_of (doc_at c key) (stash_at c key) ≡ owner
    → IsMarkOf (look c) key mark (is_marking owner)

-- a record is being applied under a nonce
pub record IsAppliedAs (rec : Record) (nonce : ℕ) : Type 0 where
  pub applies : rec.state ≡ state.Applying
  pub drawn : rec.nonce ≡ Some nonce

-- an operation on a key, of a kind, stands at a number
pub record HasMarking (ops : List Op) (numbers : List ℤ) (key : Key) (number : ℤ)
    (is_kind : Change → Bool) : Type 0 where
  pub op : Op
  pub stands : IsAt op number ops numbers
  pub on : op.key ≡ key
  pub kind : is_kind op.change ≡ true

-- the same of one operation at its number, as a test that computes
abbrev pub is_marked_by : Op → ℤ → Key → ℤ → Side → Bool
is_marked_by op found key number side =
    int_eq found number && same_key op.key key && is_marking side op.change

-- of some operations, each at its number
abbrev pub some_mark : List Op → List ℤ → Key → ℤ → Side → Bool
some_mark ops numbers key number side =
    list_any (λ pair. is_marked_by pair.0 pair.1 key number side) (zip ops numbers)

-- an operation marks a key in a record that is being applied under a nonce
pub record IsMarkAt (rec : Record) (nonce : ℕ) (key : Key) (number : ℤ) (is_kind : Change → Bool)
    : Type 0 where
  pub applied : IsAppliedAs rec nonce
  pub numbers : List ℤ
  pub numbered : rec.revnos ≡ Some numbers
  pub marking : HasMarking rec.ops numbers key number is_kind

-- the same of a record that may be there
pub record MarksIn (found : Option Record) (nonce : ℕ) (key : Key) (number : ℤ)
    (is_kind : Change → Bool) : Type 0 where
  pub rec : Record
  pub there : found ≡ Some rec
  pub at : IsMarkAt rec nonce key number is_kind
