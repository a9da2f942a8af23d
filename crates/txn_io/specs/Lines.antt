use Rattle.std.specs.Prelude.{◌≡◌, ◌+◌, ◌++◌, ◌==◌, ◌&&◌, ltb, if◌then◌else◌, ℕ, Bool, false, List, [], ◌∷◌, Option, Some, None, Result, Ok, Err, length}
use Rattle.std.specs.List.{list_any}
use Rattle.txn_io.specs.declared.lines.LineFault.{LineFault}
use Rattle.txn_io.specs.declared.lines.LineFault.TheVariants.{TooLong, ScriptTooLong}

-- the bytes up to the first newline or the end
abbrev pub line_of : List ℕ → List ℕ
line_of [] = []
line_of (byte ∷ bytes) = if byte == 10 then [] else byte ∷ line_of bytes

-- the bytes behind that newline
abbrev pub after_line : List ℕ → List ℕ
after_line [] = []
after_line (byte ∷ bytes) = if byte == 10 then bytes else after_line bytes

-- how many bytes the line takes, with its newline
abbrev pub line_cost : List ℕ → ℕ
line_cost [] = 0
line_cost (byte ∷ bytes) = if byte == 10 then 1 else line_cost bytes + 1

-- what is wrong with a line of so many bytes, which takes `cost` of them after `taken` of the
-- script: 16,777,216 bytes and one more that is no newline, or 268,435,456 of the script and one
-- more
abbrev pub limit_passed : ℕ → ℕ → ℕ → Option LineFault
limit_passed taken size cost =
    if ltb 16777216 size && ltb taken 251658241 then Some TooLong
    else (if ltb 268435456 (taken + cost) then Some ScriptTooLong else None)

-- the first line, where there is one
abbrev pub first_line : List ℕ → Option (List ℕ)
first_line [] = None
first_line (byte ∷ bytes) = Some (line_of (byte ∷ bytes))

abbrev pub unless_passed : Option LineFault → Option (List ℕ) → Result (Option (List ℕ)) LineFault
unless_passed None line = Ok line
unless_passed (Some fault) line = Err fault

-- what a read of the first line answers, where so many bytes of the script were taken before
abbrev pub reading : ℕ → List ℕ → Result (Option (List ℕ)) LineFault
reading taken input =
    unless_passed (limit_passed taken (length (line_of input)) (line_cost input)) (first_line input)

abbrev pub has_newline : List ℕ → Bool
has_newline bytes = list_any (λ byte. byte == 10) bytes

-- No more than a part of the first line was taken: it has no newline, and this is left.
pub record IsPartTaken (input left : List ℕ) : Type 0 where
  pub part : List ℕ
  pub taken : input ≡ part ++ left
  pub within : has_newline part ≡ false

-- a reader of lines: the bytes that it took from the source and hasn't handed out, how many of the
-- script it handed out, and the refusal that it stands at
pub record LinesView : Type 0 where
  pub pending : List ℕ
  pub taken : ℕ
  pub fault : Option LineFault
