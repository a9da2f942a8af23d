use Rattle.std.specs.Prelude.{◌≡◌, ℕ, true, List}
use Rattle.std.specs.Cmp.Lexicographic.{slice_cmp}
use Rattle.std.specs.List.{list_any}
use Rattle.std.specs.Ordering.{nat_cmp, is_eq}
use Rattle.std.specs.Str.{bytes_eq}
use Rattle.txn_play.specs.Batches.{are_built}
use Rattle.txn_runner.specs.declared.waiting.Waiting.{Waiting}

-- the ids are those of the transactions, in whatever order
pub record IsIndex (ids : List (List ℕ)) (waiting : List Waiting) : Type 0 where
  pub has : (id : List ℕ) → list_any (λ other. is_eq (slice_cmp nat_cmp id other)) ids ≡ list_any (λ one. bytes_eq one.id.0 id) waiting

-- what holds of a batch: its index has just its ids, and each of its transactions can be settled
pub record IsBatch (ids : List (List ℕ)) (waiting : List Waiting) : Type 0 where
  pub index : IsIndex ids waiting
  pub built : are_built waiting ≡ true
