-- The revision numbers that a decision to apply writes down, and the record that they stand in.
use Rattle.std.specs.Prelude.{◌≡◌, true, ℤ, Some, List, [], ◌∷◌, ◌⊎◌}
use Rattle.txn_key.specs.declared.key.Key.{Key}
use Rattle.txn_key.specs.declared.id.TxnId.{TxnId}
use Rattle.txn_record.specs.Revnos.{follows, stays_within, first_on}
use Rattle.txn_record.specs.declared.op.Op.{Op}
use Rattle.txn_record.specs.declared.op.Change.TheVariants.{Update}
use Rattle.txn_record.specs.declared.record.Record.{Record}
use Rattle.txn_record.specs.declared.state.State.TheVariants as state
use Rattle.doc_value.specs.declared.value.Value.{Value}
use Rattle.store_trait.specs.Contents.{Content}
use Rattle.store_laws.specs.View.{View, record_at, IsOn, held_number}

-- the number that each operation finds, begun where the owner of its key stands
pub record IsChainFrom (view : View) (ops : List Op) (revnos : List ℤ) : Type 0 where
  pub in_turn : follows ops revnos ≡ true
  pub within : stays_within ops revnos ≡ true
  pub begins : (key : Key) → IsOn key ops
      → first_on key ops revnos ≡ Some (held_number (view.held_at key))

-- an operation stands in a transaction at a number
abbrev pub IsAt : Op → ℤ → List Op → List ℤ → Type 0
IsAt op revno (o ∷ ops) (r ∷ revnos) = ((o ≡ op) × (r ≡ revno)) ⊎ IsAt op revno ops revnos
IsAt op revno [] _ = ⊥
IsAt op revno _ [] = ⊥

-- an applying record with an operation among its own, at its number
pub record AppliesAt (c : Content) (id : TxnId) (rec : Record) (op : Op) (revno : ℤ) : Type 0 where
  pub there : record_at c id ≡ Some rec
  pub applies : rec.state ≡ state.Applying
  pub numbers : List ℤ
  pub numbered : rec.revnos ≡ Some numbers
  pub stands : IsAt op revno rec.ops numbers

-- the same of an update
pub record AppliesUpdate (c : Content) (id : TxnId) (rec : Record) (op : Op) (revno : ℤ)
    (update : Value) : Type 0 where
  pub at : AppliesAt c id rec op revno
  pub change : op.change ≡ Update update
