-- How deep a list nests.
use Rattle.std.proofs.Common.{◌≡◌, ℕ, suc, ◌-◌, ◌<◌, ◌||◌, List, [], ◌∷◌, ◌++◌, max, map, nat_lt, ap, ◌∙◌, arith, rules}
use Rattle.std.proofs.lemmas.Bool.Decides.{nat_tests}
use Rattle.doc_value.specs.declared.value.Value.{Value, List as Items_of, the_lemmas}
use Rattle.doc_value.specs.Depth.{nesting, deepest}

pub nesting-List : (items : List Value) → nesting (Items_of items) ≡ suc (deepest (map nesting items))
nesting-List items = search (rules, the_lemmas)

deepest-more : (items : List Value) (item : Value) → deepest (map nesting (items ++ item ∷ [])) ≡ max (deepest (map nesting items)) (nesting item)
deepest-more [] item = turned (nesting item)
  where
    turned : (n : ℕ) → max n 0 ≡ max 0 n
    turned n = omega arith
deepest-more (other ∷ items) item = ap (max (nesting other)) (deepest-more items item) ∙ grouped (nesting other) (deepest (map nesting items)) (nesting item)
  where
    grouped : (a b c : ℕ) → max a (max b c) ≡ max (max a b) c
    grouped a b c = omega arith

one_level : (limit a b : ℕ) → 0 < limit → nat_lt limit (suc (max a b)) ≡ (nat_lt (limit - 1) a || nat_lt (limit - 1) b)
one_level limit a b some = grind (arith, nat_tests)

-- a list with one item more
pub deeper_more : (limit : ℕ) (items : List Value) (item : Value) → 0 < limit
    → nat_lt limit (nesting (Items_of (items ++ item ∷ []))) ≡ (nat_lt (limit - 1) (deepest (map nesting items)) || nat_lt (limit - 1) (nesting item))
deeper_more limit items item some =
    ap (nat_lt limit) (nesting-List (items ++ item ∷ []) ∙ ap suc (deepest-more items item)) ∙ one_level limit (deepest (map nesting items)) (nesting item) some
