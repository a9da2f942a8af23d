-- Chains of calls on a store, each with what the store says of its answer, which may be a refusal.
use Rattle.std.specs.Prelude.{◌≡◌}
use Rattle.store_trait.specs.Calls.{Exchange, counted_call}
use Rattle.store_trait.specs.declared.store.Store.{Ghosts}

-- one call was made, and was answered so
pub record IsExchange {S : Type 0} (store : Ghosts S) (old : S) (exchange : Exchange) (new : S)
    : Type 0 where
  pub counted : store.calls new ≡ counted_call (store.calls old)
  pub answer : store.answered old exchange new

-- exchanges lead from a store before to a store after
pub data Exchanged {S : Type 0} (store : Ghosts S) : S → S → Type 0 where
  Nothing : (s : S) → Exchanged store s s
  Then : (first old new : S) (exchange : Exchange) → Exchanged store first old
      → IsExchange store old exchange new → Exchanged store first new
