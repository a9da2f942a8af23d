-- What a reader of lines knows of a script, and what one line read makes of it.
use Rattle.std.specs.Prelude.{◌≡◌, ◌+◌, ◌++◌, ℕ, List, IsTrue, Option, Ok, Err}
use Rattle.txn_io.specs.Faults.{Rose}
use Rattle.txn_io.specs.Lines.{IsPartTaken, LinesView, reading, after_line, line_cost}
use Rattle.txn_io.specs.declared.lines.LineFault.{LineFault}
use Rattle.txn_io.specs.declared.lines.LineFault.TheVariants.{ReadFault, OutOfMemory}
use Rattle.txn_io.specs.declared.source.Source.{Ghosts}

-- a script that was read in part: how many of its bytes were handed out as lines, and those left
pub record Unread : Type 0 where
  pub taken : ℕ
  pub left : List ℕ

-- what is left where these bytes were taken from the source and aren't handed out
abbrev pub unread_behind : {S : Type 0} → Ghosts S → ℕ → List ℕ → S → Unread
unread_behind source taken pending now =
    record { taken = taken; left = pending ++ source.rest now }

-- what a reader of lines has left
abbrev pub unread : {S : Type 0} → Ghosts S → LinesView → S → Unread
unread source lines now = unread_behind source lines.taken lines.pending now

-- The next line of a script was read, or its end: that is the answer, and what is left stands
-- behind it.
pub record HasRead (old new : Unread) (answer : Option (List ℕ)) : Type 0 where
  pub line : reading old.taken old.left ≡ Ok answer
  pub taken : new.taken ≡ old.taken + line_cost old.left
  pub left : new.left ≡ after_line old.left

-- The source failed in this call: its count rose. No more than a part of the next line was taken.
pub record HasFailed {S : Type 0} (source : Ghosts S) (old new : S) (script : Unread) : Type 0 where
  pub rose : Rose (source.faults old) (source.faults new)
  pub part : IsTrue source.tells → IsPartTaken script.left (source.rest new)

-- why the next line of a script isn't read
abbrev pub IsRefused : {S : Type 0} → Ghosts S → S → S → Unread → LineFault → Type 0
IsRefused source old new script ReadFault = HasFailed source old new script
IsRefused source old new script OutOfMemory = Unit {0}
IsRefused source old new script limit =
    IsTrue source.tells → reading script.taken script.left ≡ Err limit
