-- What a runner finds in queues, and what it may still say of it while others go on.
use Rattle.std.specs.Prelude.{List, ◌⊎◌}
use Rattle.txn_key.specs.declared.id.TxnId.{TxnId}
use Rattle.txn_key.specs.declared.id.Token.{Token}
use Rattle.txn_key.specs.declared.key.Key.{Key}
use Rattle.store_laws.specs.View.{View}
use Rattle.store_laws.specs.Readiness.{In, StandsAt, IsSpent}

-- A token that was found before a record's valid token stands there still, or it may be taken out.
abbrev pub IsFoundAt : View → Key → Token → TxnId → Type 0
IsFoundAt view key x id = StandsAt view key x id ⊎ IsSpent view x

-- all that stand before a record in the owner queue of a key are among those listed
pub record IsListed (view : View) (key : Key) (id : TxnId) (found : List Token) : Type 0 where
  pub all : (x : Token) → StandsAt view key x id → In x found
