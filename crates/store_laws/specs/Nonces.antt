-- Where a nonce comes from that a record comes to have.
use Rattle.std.specs.Prelude.{◌≡◌, ℕ, Option, Some, ◌⊎◌}
use Rattle.txn_key.specs.declared.id.TxnId.{TxnId}
use Rattle.store_laws.specs.View.{View, valid_nonce}

-- each record has the nonce that it had, but for one that may have been given this one
pub record NoncesCome (old new : View) (id : TxnId) (given : Option ℕ) : Type 0 where
  pub from : (other : TxnId) (nonce : ℕ) → valid_nonce new other ≡ Some nonce
      → (valid_nonce old other ≡ Some nonce) ⊎ (given ≡ Some nonce) × (other ≡ id)

-- each record has the nonce that it had
pub record NoncesStay (old new : View) : Type 0 where
  pub same : (id : TxnId) → valid_nonce new id ≡ valid_nonce old id
