-- A runner that settles one transaction at a time.
use Rattle.std.specs.Prelude.{◌≡◌, ◌≢◌, true}
use Rattle.txn_key.specs.declared.id.TxnId.{TxnId}
use Rattle.txn_key.specs.declared.id.Token.{Token}
use Rattle.txn_key.specs.declared.key.Key.{Key}
use Rattle.store_laws.specs.View.{View, settled}
use Rattle.store_laws.specs.Readiness.{In}

-- every token in an owner queue is of a settled record, but for those of one record
pub record IsAlone (view : View) (id : TxnId) : Type 0 where
  pub others : (key : Key) (x : Token) → In x (view.queue_at key) → x.id ≢ id
      → settled view x.id ≡ true

-- every token in an owner queue is of a settled record
pub record IsAtRest (view : View) : Type 0 where
  pub all : (key : Key) (x : Token) → In x (view.queue_at key) → settled view x.id ≡ true
