use Rattle.std.specs.Prelude.{◌≡◌, ◌≢◌, ◌<◌, ◌≤◌, ◌+◌, ◌⊎◌, ℕ, min, OnOk, OnErr, Result, Err}

-- the count rose, or stands at the last value of u64
abbrev pub Rose : ℕ → ℕ → Type 0
Rose old new = (old < new) ⊎ (new ≡ 18446744073709551615)

-- a count one further, which stops at the last value of u64
abbrev pub counted : ℕ → ℕ
counted n = min (n + 1) 18446744073709551615

-- a count of faults didn't fall: it rose where the call failed, and else stayed
pub record HasCause {T E : Type 0} (old new : ℕ) (result : Result T E) : Type 0 where
  pub later : old ≤ new
  pub rose : OnErr result (Rose old new)
  pub stayed : OnOk result (new ≡ old)

-- a count of faults didn't fall, and stayed unless the call answers that failure
pub record StaysUnless {T E : Type 0} (failed : E) (old new : ℕ) (result : Result T E)
    : Type 0 where
  pub later : old ≤ new
  pub stayed : result ≢ Err failed → new ≡ old
