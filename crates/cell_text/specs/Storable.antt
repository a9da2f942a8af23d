-- What a cell is when its text gives it back: each part as it may be, under the name that it belongs to.
use Rattle.std.specs.Prelude.{◌≡◌, ◌<◌, ◌≤◌, ◌^◌, ℕ, true, Option, Some, None, List, length}
use Rattle.std.specs.List.{All}
use Rattle.hex.specs.Hex.{IsBytes}
use Rattle.doc_value.specs.Depth.{nesting}
use Rattle.doc_value.specs.declared.value.Value.{Value}
use Rattle.txn_key.specs.Syntax.{is_collection}
use Rattle.txn_key.specs.declared.id.Token.{Token}
use Rattle.txn_key.specs.declared.id.TxnId.{TxnId}
use Rattle.txn_key.specs.declared.key.Key.{Key}
use Rattle.txn_record.specs.Transactions.{IsBody, IsTransaction, is_doc_id}
use Rattle.txn_record.specs.declared.record.Record.{Record}
use Rattle.store_trait.specs.declared.cell.Cell.{Cell}
use Rattle.store_trait.specs.declared.cell.Cell.TheVariants as cell
use Rattle.store_trait.specs.declared.cell.DocCell.{DocCell}
use Rattle.store_trait.specs.declared.cell.Named.{Named}
use Rattle.store_trait.specs.declared.cell.StashCell.{StashCell}
use Rattle.store_trait.specs.declared.name.Name.{Name}
use Rattle.store_trait.specs.declared.name.Name.TheVariants as name

-- where there is one
abbrev pub IfThere : {A : Type 0} → (A → Type 0) → Option A → Type 0
IfThere Is (Some value) = Is value
IfThere Is None = Unit {0}

abbrev pub IsId : TxnId → Type 0
IsId id = (length id.0 ≡ 12) × IsBytes id.0

abbrev pub IsNonce : ℕ → Type 0
IsNonce nonce = nonce < 2 ^ 32

abbrev pub IsToken : Token → Type 0
IsToken token = IsId token.id × IsNonce token.nonce

abbrev pub IsInfo : Value → Type 0
IsInfo info = nesting info ≤ 90

pub record IsKey (key : Key) : Type 0 where
  pub collection : is_collection key.c ≡ true
  pub id : is_doc_id key.d ≡ true

pub record IsRecord (rec : Record) : Type 0 where
  pub id : IsId rec.id
  pub info : IfThere IsInfo rec.info
  pub nonce : IfThere IsNonce rec.nonce
  pub ops : IsTransaction rec.ops

pub record IsDocument (key : Key) (doc : DocCell) : Type 0 where
  pub names : IsKey key
  pub body : IsBody doc.body
  pub queue : All IsToken doc.queue
  pub remove : IfThere IsToken doc.remove

pub record IsEntry (key : Key) (stash : StashCell) : Type 0 where
  pub names : IsKey key
  pub queue : All IsToken stash.queue
  pub insert : IfThere IsToken stash.insert

-- a record stands under its own id, and each cell under a name of its kind
abbrev pub StoredUnder : Name → Cell → Type 0
StoredUnder (name.Record id) (cell.Record rec) = (id ≡ rec.id) × IsRecord rec
StoredUnder (name.Doc key) (cell.Doc doc) = IsDocument key doc
StoredUnder (name.Stash key) (cell.Stash stash) = IsEntry key stash
StoredUnder name.Nonce (cell.Nonce next) = IsNonce next
StoredUnder _ _ = ⊥

abbrev pub IsStorable : Named → Type 0
IsStorable named = StoredUnder named.name named.cell
