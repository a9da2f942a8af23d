-- Chains of calls on any store.
use Rattle.std.proofs.Common.{◌≡◌, ℕ, ◌+◌, ◌≤◌, Bool, true, false, nat_le, cond, refl, arith}
use Rattle.store_trait.specs.Calls.{Exchange, call_limit, counted_call}
use Rattle.store_trait.specs.Exchanges.{IsExchange, Exchanged}
use Rattle.store_trait.specs.declared.store.Store.{Ghosts}

not_less : (b : Bool) (calls : ℕ) → calls ≤ cond b calls (calls + 1)
not_less true calls = omega arith
not_less false calls = omega arith

counts_on : (old new : ℕ) → new ≡ counted_call old → old ≤ new
counts_on old new is = omega (arith, is, not_less (nat_le call_limit old) old)

module _ {S : Type 0} (store : Ghosts S) where
  pub joined : (first between last : S) → Exchanged store first between → Exchanged store between last → Exchanged store first last
  joined first _ _ chain (Exchanged.Nothing between) = chain
  joined first _ _ chain (Exchanged.Then between old new exchange more call) =
      Exchanged.Then first old new exchange (joined first between old chain more) call

  pub later : (first last : S) → Exchanged store first last → store.calls first ≤ store.calls last
  later _ _ (Exchanged.Nothing s) = omega arith
  later _ _ (Exchanged.Then first old new exchange more call) =
      omega (arith, later first old more, counts_on (store.calls old) (store.calls new) call.counted)
