-- What one call changes of owner queues.
use Rattle.std.specs.Prelude.{◌≡◌, ◌≢◌, List, [], ◌∷◌, ◌++◌, ◌⊎◌}
use Rattle.txn_key.specs.declared.id.Token.{Token}
use Rattle.txn_key.specs.declared.key.Key.{Key}
use Rattle.store_laws.specs.View.{View}

-- none changed
pub record QueuesStay (old new : View) : Type 0 where
  pub same : (key : Key) → new.queue_at key ≡ old.queue_at key

-- a token came to the end of the one of a key, or none changed
pub record AddsAtEnd (old new : View) (key : Key) (token : Token) : Type 0 where
  pub others : (other : Key) → other ≢ key → new.queue_at other ≡ old.queue_at other
  pub here : (new.queue_at key ≡ old.queue_at key)
      ⊎ (new.queue_at key ≡ old.queue_at key ++ token ∷ [])
