-- Which changes of an update conflict.
use Rattle.std.specs.Prelude.{ℕ, Bool, true, ◌&&◌, not, List, [], ◌∷◌, ◌++◌, Option, Some, None, if◌then◌else◌}
use Rattle.std.specs.List.{list_any}
use Rattle.std.specs.Str.{bytes_eq}
use Rattle.doc_update.specs.Changes.{Change}

-- The two paths are equal, or one is a prefix of the other by whole parts: no part of the shorter differs from the other's at its place.
abbrev pub paths_conflict : List (List ℕ) → List (List ℕ) → Bool
paths_conflict [] others = true
paths_conflict (part ∷ parts) [] = true
paths_conflict (part ∷ parts) (other ∷ others) = bytes_eq part other && paths_conflict parts others

abbrev pub conflict : Change → Change → Bool
conflict change other = paths_conflict change.path other.path

-- the path of the first of the changes that conflicts with one before it
abbrev pub first_conflict_after : List Change → List Change → Option (List ℕ)
first_conflict_after before [] = None
first_conflict_after before (change ∷ changes) =
    if list_any (conflict change) before then Some change.name
    else first_conflict_after (before ++ change ∷ []) changes

abbrev pub first_conflict : List Change → Option (List ℕ)
first_conflict = first_conflict_after []

-- no two of the changes conflict
abbrev pub are_apart : List Change → Bool
are_apart [] = true
are_apart (change ∷ changes) = not (list_any (conflict change) changes) && are_apart changes

abbrev pub apart_from_next : Change → List Change → Bool
apart_from_next change [] = true
apart_from_next change (next ∷ changes) = not (conflict change next)

-- no change conflicts with the next
abbrev pub neighbours_apart : List Change → Bool
neighbours_apart [] = true
neighbours_apart (change ∷ changes) = apart_from_next change changes && neighbours_apart changes
