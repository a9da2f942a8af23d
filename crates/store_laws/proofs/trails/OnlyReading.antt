-- Calls that only read, one after another.
use Rattle.std.proofs.Common.{◌≡◌, ℕ, ◌+◌, ◌≤◌, IsTrue, Result, Ok, Err, ◌⊎◌, ⊎_elim, inl, inr, refl, sym, ap, ◌∙◌, arith}
use Rattle.store_trait.specs.Calls.{GoesOn}
use Rattle.store_trait.specs.Stores.{OneCall}
use Rattle.store_laws.specs.Reads.{OnlyReads}
use Rattle.store_trait.specs.declared.store.Store.{Ghosts}

low_or_high : (m n : ℕ) → n ≤ m + 1 → (n ≤ m) ⊎ (n ≡ m + 1)
low_or_high m n le = grind arith

module _ {S : Type 0} (store : Ghosts S) where
  pub reads_none : (s : S) → store.trail s (store.calls s) ≡ store.content s → OnlyReads store s s
  reads_none s here = record { same = refl; still = λ n low high. ap (store.trail s) (omega (arith, low, high)) ∙ here }

  reads_more : (old new : S) → store.trail old (store.calls old) ≡ store.content old → GoesOn (store.trail old) (store.trail new) (store.calls old) (store.calls new) (store.content new) → (store.calls new ≡ store.calls old + 1) ⊎ (store.calls new ≡ store.calls old) → store.content new ≡ store.content old → OnlyReads store old new
  reads_more old new here on (inl more) same = record {
    same = same;
    still = λ n low high. ⊎_elim (λ before. on.before n before ∙ ap (store.trail old) (omega (arith, low, before)) ∙ here) (λ now. ap (store.trail new) (now ∙ sym more) ∙ on.here ∙ same) (low_or_high (store.calls old) n (omega (arith, high, more)));
  }
  reads_more old new here on (inr none) same = record { same = same; still = λ n low high. on.before n (omega (arith, high, none)) ∙ ap (store.trail old) (omega (arith, low, high, none)) ∙ here }

  pub reads_one : {T E : Type 0} (old new : S) (result : Result T E) (failed : E) → IsTrue store.tells → store.trail old (store.calls old) ≡ store.content old → OneCall store old new result failed → store.content new ≡ store.content old → OnlyReads store old new
  reads_one old new (Ok x) failed told here one same = reads_more old new here (one.trail told) (inl one.counted) same
  reads_one old new (Err e) failed told here one same = reads_more old new here (one.trail told) one.counted_err same

  pub reads_then : (a b c : S) → OnlyReads store a b → OnlyReads store b c → ((n : ℕ) → n ≤ store.calls b → store.trail c n ≡ store.trail b n) → OnlyReads store a c
  reads_then a b c one two before = record {
    same = two.same ∙ one.same;
    still = λ n low high. ⊎_elim (λ early. before n early ∙ one.still n low early) (λ late. two.still n late high ∙ one.same) (either n (store.calls b));
  }
    where
      either : (n m : ℕ) → (n ≤ m) ⊎ (m ≤ n)
      either n m = grind arith

  pub reads_call : {T E : Type 0} (a b c : S) (result : Result T E) (failed : E) → IsTrue store.tells → store.trail b (store.calls b) ≡ store.content b → OnlyReads store a b → OneCall store b c result failed → store.content c ≡ store.content b → OnlyReads store a c
  reads_call a b c result failed told here one call same = reads_then a b c one (reads_one b c result failed told here call same) (call.trail told).before
