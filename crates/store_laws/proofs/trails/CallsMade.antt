-- Calls on a store, one after another.
use Rattle.std.proofs.Common.{◌≡◌, ℕ, ◌≤◌, IsTrue, refl, Result, Ok, Err, ⊎_elim, inl, inr, ◌∙◌, arith}
use Rattle.store_trait.specs.Calls.{Rose}
use Rattle.store_trait.specs.Exchanges.{Exchanged}
use Rattle.store_trait.specs.Stores.{CallsGoOn, OneCall}
use Rattle.store_trait.specs.declared.store.Store.{Ghosts}
use Rattle.store_laws.proofs.trails.Exchanges.{joined}

-- no call yet
pub calls_none : {S : Type 0} (store : Ghosts S) (s : S)
    → (IsTrue store.tells → store.trail s (store.calls s) ≡ store.content s) → CallsGoOn store s s
calls_none store s present = record {
  trail = λ told. record { before = λ n le. refl; here = present told };
  counted = omega arith;
  chain = Exchanged.Nothing s;
  later = omega arith;
}

-- calls on a store, and then more
pub calls_then : {S : Type 0} (store : Ghosts S) (a b c : S)
    → CallsGoOn store a b → CallsGoOn store b c
    → CallsGoOn store a c
calls_then store a b c first second = record {
  trail = λ told. record {
    before = λ n le. (second.trail told).before n (omega (arith, first.counted)) ∙ (first.trail told).before n le;
    here = (second.trail told).here;
  };
  counted = omega (arith, first.counted, second.counted);
  chain = joined store a b c first.chain second.chain;
  later = omega (arith, first.later, second.later);
}

-- calls on a store, and one more, whatever it answers
pub call_after : {S T E : Type 0} (store : Ghosts S) (a b c : S) (result : Result T E) (failed : E)
    → CallsGoOn store a b → OneCall store b c result failed
    → CallsGoOn store a c
call_after {S} {T} {E} store a b c result failed first one = record {
  trail = λ told. record {
    before = λ n le. (one.trail told).before n (omega (arith, first.counted)) ∙ (first.trail told).before n le;
    here = (one.trail told).here;
  };
  counted = by result one;
  chain = joined store a b c first.chain one.chain;
  later = omega (arith, first.later, one.later);
}
  where
    by : (r : Result T E) → OneCall store b c r failed → store.calls a ≤ store.calls c
    by (Ok x) o = omega (arith, first.counted, o.counted)
    by (Err e) o = ⊎_elim (λ more. omega (arith, first.counted, more)) (λ same. omega (arith, first.counted, same)) o.counted_err

-- a count that rose since then rose since before
pub rose_before : {a b n : ℕ} → a ≤ b → Rose b n → Rose a n
rose_before le rose = ⊎_elim (λ less. inl (omega (arith, le, less))) (λ last. inr last) rose
