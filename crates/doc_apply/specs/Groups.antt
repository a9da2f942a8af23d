-- Changes in order of their paths, by the parts that these begin with.
use Rattle.std.specs.Prelude.{ℕ, suc, Bool, true, false, ◌&&◌, not, List, [], ◌∷◌, drop, Option, Some, None, if◌then◌else◌}
use Rattle.std.specs.Cmp.Lexicographic.{slice_cmp}
use Rattle.std.specs.Ordering.{nat_cmp, is_gt}
use Rattle.std.specs.Str.{bytes_eq}
use Rattle.doc_update.specs.Changes.{Change}
use Rattle.doc_update.specs.declared.change.Change.{Change as Listed}

-- the change with what is left of its path at that depth
abbrev pub change_below : ℕ → Listed → Change
change_below depth listed = record {
  operator = listed.operator;
  name = listed.field.now.name;
  path = drop depth listed.parts;
  operand = listed.field.now.value;
}

abbrev pub first_part : List (List ℕ) → Option (List ℕ)
first_part [] = None
first_part (part ∷ parts) = Some part

-- the part that the first change's path begins with
abbrev pub first_head : List Change → Option (List ℕ)
first_head [] = None
first_head (change ∷ changes) = first_part change.path

abbrev pub begins_with : List ℕ → List (List ℕ) → Bool
begins_with name [] = false
begins_with name (part ∷ parts) = bytes_eq part name

abbrev pub has_head : List ℕ → Change → Bool
has_head name change = begins_with name change.path

-- how many changes at the front have paths that begin with that part
abbrev pub count_head : List ℕ → List Change → ℕ
count_head name [] = 0
count_head name (change ∷ changes) =
    if has_head name change then suc (count_head name changes) else 0

abbrev pub parts_in_order : Option (List ℕ) → Option (List ℕ) → Bool
parts_in_order (Some part) (Some other) = not (is_gt (slice_cmp nat_cmp part other))
parts_in_order _ _ = false

-- the path of the next change begins with no lower part
abbrev pub precedes_head : Option (List ℕ) → List Change → Bool
precedes_head (Some part) [] = true
precedes_head None [] = false
precedes_head head (change ∷ changes) = parts_in_order head (first_part change.path)

-- each path begins with a part, none lower than the one before
abbrev pub heads_rise : List Change → Bool
heads_rise [] = true
heads_rise (change ∷ changes) = precedes_head (first_part change.path) changes && heads_rise changes
