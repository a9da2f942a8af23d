-- What calls on a store keep, whatever store it is: the words of `Calls`, at a bound `S: Store`.
use Rattle.std.specs.Prelude.{◌≡◌, ◌+◌, ◌≤◌, ◌⊎◌, IsTrue, Result, OnOk, OnErr, IsErrOf}
use Rattle.store_trait.specs.Calls.{Extends, Rose}
use Rattle.store_trait.specs.Exchanges.{Exchanged}
use Rattle.store_trait.specs.declared.store.Store.{Ghosts}

-- What one call on a store keeps, whatever it answers: the trail, the count of calls, what the store says
-- of it, the count of faults, and that it fails only where that count rose, which stays where the call
-- didn't fail. A step of one call at most keeps it too: one that is refused before its call counts none.
pub record OneCall {S T E : Type 0} (store : Ghosts S) (old new : S) (result : Result T E) (failed : E)
    : Type 0 where
  pub trail : IsTrue store.tells → Extends store.content store.trail store.calls old new
  pub counted : OnOk result (store.calls new ≡ store.calls old + 1)
  pub counted_err : OnErr result
      ((store.calls new ≡ store.calls old + 1) ⊎ (store.calls new ≡ store.calls old))
  pub chain : Exchanged store old new
  pub later : store.faults old ≤ store.faults new
  pub fault : IsErrOf result failed → Rose (store.faults old) (store.faults new)
  pub still : IsErrOf result failed ⊎ (store.faults new ≡ store.faults old)

-- what any number of calls on a store keep
pub record CallsGoOn {S : Type 0} (store : Ghosts S) (old new : S) : Type 0 where
  pub trail : IsTrue store.tells → Extends store.content store.trail store.calls old new
  pub counted : store.calls old ≤ store.calls new
  pub chain : Exchanged store old new
  pub later : store.faults old ≤ store.faults new

-- the same of a call that makes them, which fails only where the count of faults rose
pub record Calls {S T E : Type 0} (store : Ghosts S) (old new : S) (result : Result T E) (failed : E)
    : Type 0 where
  pub go_on : CallsGoOn store old new
  pub fault : IsErrOf result failed → Rose (store.faults old) (store.faults new)
