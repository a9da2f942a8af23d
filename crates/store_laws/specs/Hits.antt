-- What an edit found where it hit, and what it left.
use Rattle.std.specs.Prelude.{◌≡◌, ℕ, ◌+◌, ◌<◌, ℤ, pos, ◌+ℤ◌, true, Option, Some, None, List}
use Rattle.doc_value.specs.declared.value.Value.{Value}
use Rattle.doc_update.specs.Updates.{updated}
use Rattle.txn_key.specs.declared.id.TxnId.{TxnId}
use Rattle.txn_key.specs.declared.id.Token.{Token}
use Rattle.txn_key.specs.declared.key.Key.{Key}
use Rattle.txn_record.specs.declared.record.Record.{Record}
use Rattle.txn_record.specs.declared.state.State.{State}
use Rattle.store_trait.specs.Contents.{Content}
use Rattle.store_trait.specs.Edits.{moved, with_token, is_updatable, nonce_limit}
use Rattle.store_laws.specs.View.{record_at, doc_at, counter}
use Rattle.store_trait.specs.declared.cell.DocCell.{DocCell}

-- no record was there, and now the one is
pub record HasInserted (old new : Content) (id : TxnId) (rec : Record) : Type 0 where
  pub absent : record_at old id ≡ None
  pub now : record_at new id ≡ Some rec

-- a record was in the one state, and is moved on now
pub record HasMoved (old new : Content) (id : TxnId) (from to : State) (nonce : Option ℕ)
    (revnos : Option (List ℤ))
    : Type 0 where
  pub was : Record
  pub there : record_at old id ≡ Some was
  pub state : was.state ≡ from
  pub now : record_at new id ≡ Some (moved to nonce revnos was)

-- an unmarked document was there, and has the token now
pub record HasAdded (old new : Content) (key : Key) (token : Token) : Type 0 where
  pub doc : DocCell
  pub there : doc_at old key ≡ Some doc
  pub unmarked : doc.remove ≡ None
  pub now : doc_at new key ≡ Some (record doc { queue = with_token token doc.queue })

-- a document was there that the update fits, and has the next number and body now
pub record HasUpdated (old new : Content) (key : Key) (revno : ℤ) (token : Token) (update : Value)
    : Type 0 where
  pub doc : DocCell
  pub body : Value
  pub there : doc_at old key ≡ Some doc
  pub updatable : is_updatable doc revno token ≡ true
  pub fits : updated update doc.body ≡ Some body
  pub now : doc_at new key ≡ Some (record doc { body = body; revno = doc.revno +ℤ pos 1 })

-- a nonce was left, and one less is now
pub record HasDrawn (old new : Content) : Type 0 where
  pub left : counter old < nonce_limit
  pub now : counter new ≡ counter old + 1
