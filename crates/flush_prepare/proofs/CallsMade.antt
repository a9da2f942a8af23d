-- What one call on a store keeps, handed on by whoever made it.
use Rattle.std.proofs.Common.{◌≡◌, ◌⊎◌, inl, inr, Ok, Err, IsErrOf, IsTrue, refl, arith}
use Rattle.store_trait.specs.Exchanges.{Exchanged}
use Rattle.store_trait.specs.Stores.{OneCall}
use Rattle.store_trait.specs.declared.store.Store.{Ghosts}
use Rattle.store_trait.specs.declared.store.StoreError.{StoreError}
use Rattle.store_trait.specs.declared.store.StoreError.TheVariants.{Failed, OutOfMemory}
use Rattle.flush_prepare.specs.Refusals.{step_error_of}
use Rattle.flush_prepare.specs.declared.error.StepError.{StepError}
use Rattle.flush_prepare.specs.declared.error.StepError.TheVariants as step

module _ {S : Type 0} (store : Ghosts S) where
  -- an answer that was made something of
  pub answered_on : {T U E F : Type 0} (old new : S) (x : T) (y : U) (failed : E) (failing : F) → OneCall store old new (Ok x) failed → OneCall store old new (Ok y) failing
  answered_on {T = T} {U = U} old new x y failed failing one = record {
    trail = one.trail;
    counted = one.counted;
    counted_err = tt;
    chain = one.chain;
    later = one.later;
    fault = λ fails. absurd (cc fails);
    still = stays one.still;
  }
    where
      stays : {P : Type 0} → IsErrOf {T = T} (Ok x) failed ⊎ P → IsErrOf {T = U} (Ok y) failing ⊎ P
      stays (inl fails) = absurd (cc fails)
      stays (inr p) = inr p

  -- a store's refusal, as a step's
  pub refused_on : {T U : Type 0} (old new : S) (error : StoreError) → OneCall {T = T} store old new (Err error) Failed → OneCall {T = U} store old new (Err (step_error_of error)) step.StoreFault
  refused_on old new Failed one = record {
    trail = one.trail;
    counted = tt;
    counted_err = one.counted_err;
    chain = one.chain;
    later = one.later;
    fault = λ fails. one.fault refl;
    still = inl refl;
  }
  refused_on {T = T} {U = U} old new OutOfMemory one = record {
    trail = one.trail;
    counted = tt;
    counted_err = one.counted_err;
    chain = one.chain;
    later = one.later;
    fault = λ fails. absurd (cc fails);
    still = stays one.still;
  }
    where
      stays : {P : Type 0} → IsErrOf {T = T} (Err OutOfMemory) Failed ⊎ P → IsErrOf {T = U} (Err step.OutOfMemory) step.StoreFault ⊎ P
      stays (inl fails) = absurd (cc fails)
      stays (inr p) = inr p

  -- a step's refusal after its call, for want of memory or by what was answered
  pub refused_after : {T U : Type 0} (old new : S) (x : T) (error : StepError) → (error ≡ step.StoreFault → ⊥) → OneCall store old new (Ok x) step.StoreFault → OneCall {T = U} store old new (Err error) step.StoreFault
  refused_after {T = T} {U = U} old new x error other one = record {
    trail = one.trail;
    counted = tt;
    counted_err = inl one.counted;
    chain = one.chain;
    later = one.later;
    fault = λ fails. absurd (other (cc fails));
    still = stays one.still;
  }
    where
      stays : {P : Type 0} → IsErrOf {T = T} (Ok x) step.StoreFault ⊎ P → IsErrOf {T = U} (Err error) step.StoreFault ⊎ P
      stays (inl fails) = absurd (cc fails)
      stays (inr p) = inr p

  -- a refusal that was handed on as it is
  pub refused_again : {T U E : Type 0} (old new : S) (error failed : E) → OneCall {T = T} store old new (Err error) failed → OneCall {T = U} store old new (Err error) failed
  refused_again {T = T} {U = U} old new error failed one = record {
    trail = one.trail;
    counted = tt;
    counted_err = one.counted_err;
    chain = one.chain;
    later = one.later;
    fault = λ fails. one.fault (cc fails);
    still = stays one.still;
  }
    where
      stays : {P : Type 0} → IsErrOf {T = T} (Err error) failed ⊎ P → IsErrOf {T = U} (Err error) failed ⊎ P
      stays (inl fails) = inl (cc fails)
      stays (inr p) = inr p

  -- a step that is refused for want of memory before its call
  pub refused_before : {T : Type 0} (s : S) → (IsTrue store.tells → store.trail s (store.calls s) ≡ store.content s) → OneCall {T = T} store s s (Err step.OutOfMemory) step.StoreFault
  refused_before s present = record {
    trail = λ told. record { before = λ n le. refl; here = present told };
    counted = tt;
    counted_err = inr refl;
    chain = Exchanged.Nothing s;
    later = omega arith;
    fault = λ fails. absurd (cc fails);
    still = inr refl;
  }
