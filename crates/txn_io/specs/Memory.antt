use Rattle.std.specs.Prelude.{◌==◌, ◌&&◌, ◌||◌, not, nat_le, ℕ, Bool, List, length}
use Rattle.std.specs.List.{list_any}
use Rattle.txn_io.specs.Faults.{counted}

-- a source in memory: the bytes left, the numbers of the calls that fail, the calls made and the
-- failures
pub record SourceView : Type 0 where
  pub rest : List ℕ
  pub fails : List ℕ
  pub calls : ℕ
  pub faults : ℕ

-- a sink in memory: the bytes written, how many it has room for, and the same of its calls
pub record SinkView : Type 0 where
  pub written : List ℕ
  pub room : ℕ
  pub fails : List ℕ
  pub calls : ℕ
  pub faults : ℕ

-- whether the call with the next number fails
abbrev pub is_numbered : List ℕ → ℕ → Bool
is_numbered fails calls = list_any (λ n. n == counted calls) fails

-- whether the next call fails: by its number, or since it brings bytes where no room is left
abbrev pub refuses : SinkView → List ℕ → Bool
refuses sink piece =
    is_numbered sink.fails sink.calls
    || (nat_le sink.room (length sink.written) && not (length piece == 0))
