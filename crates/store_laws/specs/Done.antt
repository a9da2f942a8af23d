-- How far operations have come, and that they stay so.
use Rattle.std.specs.Prelude.{◌≡◌, ◌<◌, false, ℤ, unsigned_abs, Some, List, [], ◌∷◌, ◌⊎◌}
use Rattle.txn_key.specs.declared.id.TxnId.{TxnId}
use Rattle.txn_key.specs.declared.key.Key.{Key}
use Rattle.txn_record.specs.Revnos.{has_effect, number_after}
use Rattle.txn_record.specs.declared.op.Op.{Op}
use Rattle.txn_record.specs.declared.record.Record.{Record}
use Rattle.txn_record.specs.declared.state.State.TheVariants as state
use Rattle.store_laws.specs.View.{View, held_number, epoch_at}

-- a key's owner stands at a number, or past it
abbrev pub HasCome : View → Key → ℤ → Type 0
HasCome view key number =
    (held_number (view.held_at key) ≡ number) ⊎ (unsigned_abs number < epoch_at view key)

-- an operation has nothing left to do at its number: it does nothing there, or its key has come to
-- the number that it leads to
abbrev pub HasPassed : View → Op → ℤ → Type 0
HasPassed view op revno =
    (has_effect op.change revno ≡ false) ⊎ HasCome view op.key (number_after op.change revno)

abbrev pub AllPassed : View → List Op → List ℤ → Type 0
AllPassed view (op ∷ ops) (revno ∷ revnos) = HasPassed view op revno × AllPassed view ops revnos
AllPassed view [] _ = Unit {0}
AllPassed view _ [] = Unit {0}

-- an operation stands in a transaction at a number, and all before it have passed
abbrev pub IsTurn : View → Op → ℤ → List Op → List ℤ → Type 0
IsTurn view op revno (o ∷ ops) (r ∷ revnos) =
    ((o ≡ op) × (r ≡ revno)) ⊎ (HasPassed view o r × IsTurn view op revno ops revnos)
IsTurn view op revno [] _ = ⊥
IsTurn view op revno _ [] = ⊥

-- The number of a key's owner stays, or its epoch rises. And a record is applied only once all its
-- operations have passed.
pub record StaysDone (old new : View) : Type 0 where
  pub forward : (key : Key) → HasCome new key (held_number (old.held_at key))
  pub closes : (id : TxnId) (rec now : Record) (revnos : List ℤ) → old.record_at id ≡ Some rec
      → rec.state ≡ state.Applying → rec.revnos ≡ Some revnos
      → new.record_at id ≡ Some now → now.state ≡ state.Applied → AllPassed new rec.ops revnos
