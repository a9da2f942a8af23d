-- What holds of the index of the transactions that wait.
use Rattle.std.proofs.Common.{◌≡◌, ℕ, Bool, true, false, cond, ◌||◌, ◌&&◌, List, [], ◌∷◌, ◌++◌, refl, sym, ap, ◌∙◌}
use Rattle.std.specs.Cmp.Lexicographic.{slice_cmp}
use Rattle.std.specs.List.{list_any}
use Rattle.std.specs.Ordering.{nat_cmp, is_eq}
use Rattle.std.specs.Str.{bytes_eq}
use Rattle.std.proofs.lemmas.List.Folds.{list_any-append, list_all-append}
use Rattle.std.proofs.lemmas.Map.Text.{is_eq-slice_cmp}
use Rattle.txn_play.specs.Batches.{are_built}
use Rattle.txn_play.specs.Index.{IsIndex, IsBatch}
use Rattle.txn_runner.specs.Built.{is_built}
use Rattle.txn_runner.specs.declared.waiting.Waiting.{Waiting}

either : (found there : Bool) → (there || (found || false)) ≡ cond found true there
either true true = refl
either true false = refl
either false true = refl
either false false = refl

-- an id that was put into the index, with its transaction at the end
index_more : (old new : List (List ℕ)) (waiting : List Waiting) (one : Waiting)
    → IsIndex old waiting
    → ((id : List ℕ) → list_any (λ other. is_eq (slice_cmp nat_cmp id other)) new ≡ cond (is_eq (slice_cmp nat_cmp one.id.0 id)) true (list_any (λ other. is_eq (slice_cmp nat_cmp id other)) old))
    → IsIndex new (waiting ++ one ∷ [])
index_more old new waiting one index updates = record {
  has = λ id. updates id
      ∙ ap (λ found. cond found true (list_any (λ other. is_eq (slice_cmp nat_cmp id other)) old)) (is_eq-slice_cmp one.id.0 id)
      ∙ ap (λ there. cond (bytes_eq one.id.0 id) true there) (index.has id)
      ∙ sym (list_any-append (λ w. bytes_eq w.id.0 id) waiting (one ∷ []) ∙ either (bytes_eq one.id.0 id) (list_any (λ w. bytes_eq w.id.0 id) waiting));
}

built_more : (waiting : List Waiting) (one : Waiting) → are_built waiting ≡ true → is_built one.ops ≡ true → are_built (waiting ++ one ∷ []) ≡ true
built_more waiting one all here = list_all-append (λ (txn : Waiting). is_built txn.ops) waiting (one ∷ []) ∙ both (are_built waiting) (is_built one.ops) all here
  where
    both : (a b : Bool) → a ≡ true → b ≡ true → (a && (b && true)) ≡ true
    both true true p q = refl
    both true false p q = q
    both false b p q = p

-- a transaction that can be settled was added, and its id was put into the index
pub batch_more : (old new : List (List ℕ)) (waiting : List Waiting) (one : Waiting)
    → IsBatch old waiting → is_built one.ops ≡ true
    → ((id : List ℕ) → list_any (λ other. is_eq (slice_cmp nat_cmp id other)) new ≡ cond (is_eq (slice_cmp nat_cmp one.id.0 id)) true (list_any (λ other. is_eq (slice_cmp nat_cmp id other)) old))
    → IsBatch new (waiting ++ one ∷ [])
batch_more old new waiting one batch built updates = record {
  index = index_more old new waiting one batch.index updates;
  built = built_more waiting one batch.built built;
}
