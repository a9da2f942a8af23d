-- Which names of fields are refused where.
use Rattle.std.specs.Prelude.{ℕ, Bool, List, [], ◌∷◌, ◌||◌, ◌==◌, nat_eq}
use Rattle.std.specs.List.{list_any, starts_with}
use Rattle.std.specs.Str.{bytes_eq}

-- `_id`
abbrev pub is_id_name : List ℕ → Bool
is_id_name name = bytes_eq name (95 ∷ 105 ∷ 100 ∷ [])

-- begins with `txn-`, which is kept for the transactions' own fields
abbrev pub is_transaction_name : List ℕ → Bool
is_transaction_name name = starts_with nat_eq name (116 ∷ 120 ∷ 110 ∷ 45 ∷ [])

-- begins with `$`
abbrev pub is_operator_name : List ℕ → Bool
is_operator_name name = starts_with nat_eq name (36 ∷ [])

-- no name at any depth of a body: one that holds a dot or begins with `$`
abbrev pub is_refused_name : List ℕ → Bool
is_refused_name name = list_any (λ byte. byte == 46) name || is_operator_name name
