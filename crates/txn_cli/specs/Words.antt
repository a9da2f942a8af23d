-- The words of the command line.
use Rattle.std.specs.Prelude.{ℕ, Bool, false, List, [], ◌∷◌, codes}
use Rattle.std.specs.Str.{bytes_eq}

-- the words of the program: the one word `run`
abbrev pub is_grammar : List (List ℕ) → Bool
is_grammar (word ∷ []) = bytes_eq word (codes "run")
is_grammar _ = false
