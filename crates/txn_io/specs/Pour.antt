-- What a piece that is written adds to a sink.
use Rattle.std.specs.Prelude.{◌≡◌, ◌++◌, ℕ, List, IsTrue, take}
use Rattle.txn_io.specs.declared.sink.Sink.{Ghosts}

-- some first bytes of the piece were appended
pub record IsPartPut (old new piece : List ℕ) : Type 0 where
  pub count : ℕ
  pub part : new ≡ old ++ take count piece

-- the whole piece was appended, where the sink tells
abbrev pub Appends : {O : Type 0} → Ghosts O → O → O → List ℕ → Type 0
Appends sink old new piece = IsTrue sink.tells → sink.written new ≡ sink.written old ++ piece

-- some first bytes of it were
abbrev pub AppendsPart : {O : Type 0} → Ghosts O → O → O → List ℕ → Type 0
AppendsPart sink old new piece =
    IsTrue sink.tells → IsPartPut (sink.written old) (sink.written new) piece
