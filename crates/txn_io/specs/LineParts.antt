-- What is gathered of a line from bytes that were taken.
use Rattle.std.specs.Prelude.{◌≡◌, ◌++◌, ◌+◌, ℕ, List, [], Some, None, length}
use Rattle.txn_io.specs.Lines.{line_of, after_line, line_cost, limit_passed}
use Rattle.txn_io.specs.declared.lines.LineFault.{LineFault}
use Rattle.txn_io.specs.declared.lines.LineFault.TheVariants.{ReadFault, OutOfMemory}

-- the newline stood among these bytes: what was gathered, and what is left of them, whatever comes
-- after
pub record Ends (taken : ℕ) (old_line old_ahead new_line new_ahead : List ℕ) : Type 0 where
  pub line : (rest : List ℕ) → new_line ≡ old_line ++ line_of (old_ahead ++ rest)
  pub after : (rest : List ℕ) → new_ahead ++ rest ≡ after_line (old_ahead ++ rest)
  pub cost : (rest : List ℕ) → length old_line + line_cost (old_ahead ++ rest) ≡ length new_line + 1
  pub within : limit_passed taken (length new_line) (length new_line + 1) ≡ None

-- these bytes are all of the line
pub record GoesOn (taken : ℕ) (old_line old_ahead new_line new_ahead : List ℕ) : Type 0 where
  pub line : new_line ≡ old_line ++ old_ahead
  pub more : (rest : List ℕ) → line_of (old_ahead ++ rest) ≡ old_ahead ++ line_of rest
  pub after : (rest : List ℕ) → after_line (old_ahead ++ rest) ≡ after_line rest
  pub cost : (rest : List ℕ) → line_cost (old_ahead ++ rest) ≡ length old_ahead + line_cost rest
  pub within : limit_passed taken (length new_line) (length new_line) ≡ None
  pub used : new_ahead ≡ []

-- whatever comes after these bytes, the line passes that limit
abbrev pub IsPassed : ℕ → List ℕ → List ℕ → LineFault → Type 0
IsPassed taken line ahead fault = (rest : List ℕ) →
    limit_passed taken (length (line ++ line_of (ahead ++ rest)))
    (length line + line_cost (ahead ++ rest)) ≡ Some fault

-- why bytes that were taken weren't gathered: a limit, or want of memory
abbrev pub IsUngathered : ℕ → List ℕ → List ℕ → LineFault → Type 0
IsUngathered taken line ahead ReadFault = ⊥
IsUngathered taken line ahead OutOfMemory = Unit {0}
IsUngathered taken line ahead limit = IsPassed taken line ahead limit
