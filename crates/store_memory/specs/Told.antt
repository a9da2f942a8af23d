use Rattle.std.specs.Prelude.{ℕ, ◌+◌, ◌≤◌, min, Bool, true, false, Option, ◌||◌, ◌==◌, nat_le, Some, None, List, [], ◌∷◌, ◌++◌, if◌then◌else◌, refl}
use Rattle.std.specs.Coded.{Coded, code_by, coded×, coded_list, coded_ℕ}
use Rattle.std.specs.List.{list_any}
use Rattle.std.specs.FinMap.{empty, get}
use Rattle.store_trait.specs.Calls.{call_limit, counted_call}
use Rattle.store_trait.specs.Contents.{Content}
use Rattle.store_trait.specs.Edits.{Hit, hit, edited}
use Rattle.store_trait.specs.Same.{same_cell}
use Rattle.store_trait.specs.declared.cell.Cell.{Cell}
use Rattle.store_trait.specs.declared.edit.Edit.{Edit}
use Rattle.store_trait.specs.declared.name.Name.{Name}
use Rattle.store_memory.specs.declared.log.Logged.{Logged}

-- what a store in memory tells: the edits that changed cells in the order of their calls, the
-- numbers of the calls that fail, how many calls were made, and how many faults there were
pub record Told : Type 0 where
  pub log : List Logged
  pub fails : List ℕ
  pub calls : ℕ
  pub faults : ℕ

-- what is told is stored as the tuple of its fields
abbrev pub told_code : Coded Logged → Coded Told
told_code change =
    code_by (List Logged × (List ℕ × (ℕ × ℕ)))
    (coded× (coded_list change) (coded× (coded_list coded_ℕ) (coded× coded_ℕ coded_ℕ)))
    (λ told. (told.log, (told.fails, (told.calls, told.faults))))
    (λ parts. record {
      log = parts.0;
      fails = parts.1.0;
      calls = parts.1.1.0;
      faults = parts.1.1.1;
    })
    (λ _. refl)

-- what a new store tells
abbrev pub opened : List ℕ → Told
opened fails = record { log = []; fails = fails; calls = 0; faults = 0 }

-- the content with a change, if that was made by then
abbrev pub with_change : ℕ → Logged → Content → Content
with_change calls change content =
    if nat_le change.at calls then edited content change.name change.edit else content

-- the content after so many calls
abbrev pub replayed : Content → List Logged → ℕ → Content
replayed content [] calls = content
replayed content (change ∷ log) calls = replayed (with_change calls change content) log calls

-- the trail, which begins with an empty content
abbrev pub trail_of : Told → ℕ → Content
trail_of told calls = replayed empty told.log calls

abbrev pub content_of : Told → Content
content_of told = trail_of told told.calls

abbrev pub calls_of : Told → ℕ
calls_of told = told.calls

abbrev pub faults_of : Told → ℕ
faults_of told = told.faults

-- each change in a log was made by then
abbrev pub IsMadeBy : ℕ → List Logged → Type 0
IsMadeBy calls [] = Unit {0}
IsMadeBy calls (change ∷ log) = (change.at ≤ calls) × IsMadeBy calls log

-- how many faults a store counts at most
abbrev pub fault_limit : ℕ
fault_limit = 18446744073709551615

-- what always holds of what is told: each change was made by now, and the faults can be counted
pub record IsWithinCounts (told : Told) : Type 0 where
  pub made : IsMadeBy told.calls told.log
  pub faults : told.faults ≤ fault_limit

-- whether the next call fails: it is numbered so, or no call is counted any more
abbrev pub fails_next : Told → Bool
fails_next told =
    nat_le call_limit told.calls || list_any (λ call. call == told.calls + 1) told.fails

-- what is told once the next call has failed
abbrev pub failed : Told → Told
failed told = record told {
  calls = counted_call told.calls;
  faults = min (told.faults + 1) fault_limit;
}

-- whether that cell stands there
abbrev pub is_held : Cell → Option Cell → Bool
is_held cell None = false
is_held cell (Some held) = same_cell held cell

-- whether an edit leaves the cell that it met: it missed, or put the same cell again
abbrev pub leaves_cell : Hit → Option Cell → Bool
leaves_cell None found = true
leaves_cell (Some None) found = false
leaves_cell (Some (Some after)) found = is_held after found

-- what the log gets of an edit of a cell: nothing where that stays as it was
abbrev pub logged : ℕ → Name → Edit → Hit → Option Cell → List Logged
logged call name edit hit found =
    if leaves_cell hit found then []
    else record { at = call; name = name; edit = edit } ∷ []

-- what an edit does to the present content
abbrev pub hit_of : Told → Name → Edit → Hit
hit_of told name edit = hit edit name (get (content_of told) name)

-- what the log gets of an edit in that call
abbrev pub changes_at : ℕ → Told → Name → Edit → List Logged
changes_at call told name edit =
    logged call name edit (hit_of told name edit) (get (content_of told) name)

-- what the log gets of the next call, where that edits a cell
abbrev pub changes_of : Told → Name → Edit → List Logged
changes_of told name edit = changes_at (told.calls + 1) told name edit

-- what is told once the log got these changes
abbrev pub noted : Told → List Logged → Told
noted told changes = record told { log = told.log ++ changes }

-- what is told once the next call was made, with these changes
abbrev pub called : Told → List Logged → Told
called told changes = record told { calls = told.calls + 1; log = told.log ++ changes }
