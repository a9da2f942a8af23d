use Rattle.std.specs.Prelude.{◌≡◌, ℕ, Bool, true, false, ℤ, negsuc, unsigned_abs, Option, Some, None, option_and_then, unwrap_or, List, [], ◌∷◌, ◌⊎◌, if◌then◌else◌}
use Rattle.std.specs.FinMap.{get}
use Rattle.doc_value.specs.declared.value.Value.{Value}
use Rattle.txn_key.specs.declared.id.TxnId.{TxnId}
use Rattle.txn_key.specs.declared.id.Token.{Token}
use Rattle.txn_key.specs.declared.key.Key.{Key}
use Rattle.txn_record.specs.declared.op.Op.{Op}
use Rattle.txn_record.specs.declared.record.Record.{Record}
use Rattle.txn_record.specs.declared.state.State.{State}
use Rattle.txn_record.specs.declared.state.State.TheVariants as state
use Rattle.txn_record.specs.States.{was_prepared_state, is_settled_state, was_decided_state}
use Rattle.store_trait.specs.Names.{same_state}
use Rattle.store_trait.specs.Contents.{Content}
use Rattle.store_trait.specs.Owners.{owner_of}
use Rattle.store_trait.specs.Cells.{as_record, as_doc, as_stash, as_counter}
use Rattle.store_trait.specs.declared.cell.DocCell.{DocCell}
use Rattle.store_trait.specs.declared.cell.StashCell.{StashCell}
use Rattle.store_trait.specs.declared.name.Name.TheVariants as name
use Rattle.store_trait.specs.declared.side.Side.{Side}
use Rattle.store_trait.specs.declared.side.Side.TheVariants as side

-- Look-ups in a content.

unfoldable pub record_at : Content → TxnId → Option Record
record_at content id = option_and_then as_record (get content (name.Record id))

unfoldable pub doc_at : Content → Key → Option DocCell
doc_at content key = option_and_then as_doc (get content (name.Doc key))

unfoldable pub stash_at : Content → Key → Option StashCell
stash_at content key = option_and_then as_stash (get content (name.Stash key))

-- the nonce that is drawn next
unfoldable pub counter : Content → ℕ
counter content = unwrap_or (option_and_then as_counter (get content name.Nonce)) 0

-- What the owner of a key holds: a document's number and body, or a stash entry's number. A key
-- with no cell stands at -1.
pub data Held : Type 0 where
  Body : ℤ → Value → Held
  Number : ℤ → Held

abbrev pub held_number : Held → ℤ
held_number (Body revno body) = revno
held_number (Number revno) = revno

abbrev pub doc_held : Option DocCell → Held
doc_held None = Number (negsuc 0)
doc_held (Some doc) = Body doc.revno doc.body

abbrev pub stash_held : Option StashCell → Held
stash_held None = Number (negsuc 0)
stash_held (Some stash) = Number stash.revno

abbrev pub doc_queue : Option DocCell → List Token
doc_queue None = []
doc_queue (Some doc) = doc.queue

abbrev pub stash_queue : Option StashCell → List Token
stash_queue None = []
stash_queue (Some stash) = stash.queue

abbrev pub by_side : {A : Type 0} → Side → A → A → A → A
by_side side.Neither neither doc stash = neither
by_side side.Document neither doc stash = doc
by_side side.Stash neither doc stash = stash

abbrev pub owner_queue : Option DocCell → Option StashCell → List Token
owner_queue doc stash = by_side (owner_of doc stash) [] (doc_queue doc) (stash_queue stash)

abbrev pub owner_held : Option DocCell → Option StashCell → Held
owner_held doc stash =
    by_side (owner_of doc stash) (Number (negsuc 0)) (doc_held doc) (stash_held stash)

-- All that precedence, readiness and pending operations read of a content. Whatever keeps the
-- cells, these words read them through this record alone.
pub record View : Type 0 where
  pub record_at : TxnId → Option Record
  pub queue_at : Key → List Token
  pub held_at : Key → Held
  pub counter : ℕ

unfoldable pub look : Content → View
look content = record {
  record_at = record_at content;
  queue_at = λ key. owner_queue (doc_at content key) (stash_at content key);
  held_at = λ key. owner_held (doc_at content key) (stash_at content key);
  counter = counter content;
}

-- the epoch of a key's owner
abbrev pub epoch_at : View → Key → ℕ
epoch_at view key = unsigned_abs (held_number (view.held_at key))

-- How far a record has come. An absent record passes no test.

abbrev pub state_passes : (State → Bool) → Option Record → Bool
state_passes test None = false
state_passes test (Some rec) = test rec.state

unfoldable pub was_prepared : View → TxnId → Bool
was_prepared view id = state_passes was_prepared_state (view.record_at id)

unfoldable pub settled : View → TxnId → Bool
settled view id = state_passes is_settled_state (view.record_at id)

unfoldable pub was_decided : View → TxnId → Bool
was_decided view id = state_passes was_decided_state (view.record_at id)

unfoldable pub applying : View → TxnId → Bool
applying view id = state_passes (same_state state.Applying) (view.record_at id)

abbrev pub is_queued_state : State → Bool
is_queued_state state.Prepared = true
is_queued_state state.Applying = true
is_queued_state _ = false

-- prepared or applying
unfoldable pub is_queued : View → TxnId → Bool
is_queued view id = state_passes is_queued_state (view.record_at id)

-- the nonce of a record that was prepared; a token of it with this nonce is valid, one with
-- another is stale
abbrev pub nonce_if_prepared : Record → Option ℕ
nonce_if_prepared rec = if was_prepared_state rec.state then rec.nonce else None

unfoldable pub valid_nonce : View → TxnId → Option ℕ
valid_nonce view id = option_and_then nonce_if_prepared (view.record_at id)

-- some operation is on the key
abbrev pub IsOn : Key → List Op → Type 0
IsOn key [] = ⊥
IsOn key (op ∷ ops) = (op.key ≡ key) ⊎ IsOn key ops

-- a record that is present and has an operation on the key
pub record HasKey (view : View) (id : TxnId) (key : Key) : Type 0 where
  pub rec : Record
  pub there : view.record_at id ≡ Some rec
  pub on : IsOn key rec.ops
