-- What each call of a store keeps, as its clauses say it.
use Rattle.std.proofs.Common.{◌≡◌, ℕ, ◌+◌, Bool, true, false, cond, nat_le, ◌⊎◌, inl, inr, Result, Ok, Err, OnErr, IsTrue, refl, sym, subst}
use Rattle.store_trait.specs.Calls.{Exchange, Extends, IsCounted, call_limit}
use Rattle.store_trait.specs.Exchanges.{Exchanged}
use Rattle.store_trait.specs.Stores.{OneCall}
use Rattle.store_trait.specs.declared.store.Store.{Ghosts}
use Rattle.store_trait.specs.declared.store.StoreError.{StoreError}
use Rattle.store_trait.specs.declared.store.StoreError.TheVariants.{Failed}

one_more : (b : Bool) (calls : ℕ) → (cond b calls (calls + 1) ≡ calls + 1) ⊎ (cond b calls (calls + 1) ≡ calls)
one_more true calls = inr refl
one_more false calls = inl refl

on_err : {A E : Type 0} {P : Type 0} (result : Result A E) → P → OnErr result P
on_err (Ok answer) p = tt
on_err (Err error) p = p

-- a chain of that call alone
pub chain_of_one : {S A : Type 0} (store : Ghosts S) (old new : S) (exchange : Exchange)
    (result : Result A StoreError) → store.answered old exchange new
    → IsCounted store.calls store.faults old new result → Exchanged store old new
chain_of_one store old new exchange result answered counted =
    Exchanged.Then old old new exchange (Exchanged.Nothing old)
    (record { counted = counted.once; answer = answered })

-- the call is one call, whatever it answered
pub one_call : {S A : Type 0} (store : Ghosts S) (old new : S) (exchange : Exchange)
    (result : Result A StoreError)
    → (IsTrue store.tells → Extends store.content store.trail store.calls old new)
    → store.answered old exchange new
    → IsCounted store.calls store.faults old new result → OneCall store old new result Failed
one_call store old new exchange result trail answered counted = record {
  chain = chain_of_one store old new exchange result answered counted;
  trail = trail;
  counted = counted.made;
  counted_err = on_err result
      (subst (λ (n : ℕ). (n ≡ store.calls old + 1) ⊎ (n ≡ store.calls old)) (sym counted.once)
      (one_more (nat_le call_limit (store.calls old)) (store.calls old)));
  later = counted.later;
  fault = counted.fault;
  still = counted.still;
}
