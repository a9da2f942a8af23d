-- Ids that rise: each has one place, and a search by halving finds it.
use Rattle.std.proofs.Common.{◌≡◌, ℕ, ◌+◌, ◌<◌, [], List, length, get_or, inl, inr, Result, Ok, Err, IfOk, IfErr, sym, ap, ◌∙◌, arith, AllPairs}
use Rattle.std.proofs.lemmas.Bool.{cases_order, cases_lt}
use Rattle.std.proofs.lemmas.Cmp.{tied_itself}
use Rattle.std.proofs.lemmas.List.Sorted.{searchable_from_sorted}
use Rattle.std.specs.List.{HoldsAt, Contains}
use Rattle.std.specs.List.Sorted.{IsSortedBy, IsSearchInRange, IsBinarySearchResult}
use Rattle.std.specs.Ordering.{ordering_reverse, is_lt}
use Rattle.std.specs.declared.cmp.Ordering.TheVariants.{Less, Equal, Greater}
use Rattle.txn_key.proofs.KeyOrder.{id_cmp_total, id_cmp-IsAntisymmetric}
use Rattle.txn_key.specs.Ids.{id_cmp}
use Rattle.txn_key.specs.declared.id.TxnId.{TxnId}
use Rattle.listed_cells.specs.Orders.{id_in}

module _ (ids : List TxnId) (rise : AllPairs (λ s t. id_cmp s t ≡ Less) ids) where
  pub not_below : (s t : TxnId) → s ≡ t → id_cmp s t ≡ Less → ⊥
  not_below s t e less = let tie = tied_itself id_cmp_total t in cc

  -- an id has one place
  pub apart : (v w : ℕ) → v < length ids → w < length ids → id_in ids v ≡ id_in ids w → v ≡ w
  apart v w vin win e = elim (cases_order v w) [
    | inl same ↦ same
    | inr order ↦ elim order [
      | inl less ↦ absurd (not_below (id_in ids v) (id_in ids w) e (rise v w (record { 0 = [] }) less win))
      | inr more ↦ absurd (not_below (id_in ids w) (id_in ids v) (sym e) (rise w v (record { 0 = [] }) more vin))
    ]
  ]

  turned : (s t : TxnId) → id_cmp t s ≡ ordering_reverse (id_cmp s t)
  turned s t = id_cmp_total.antisymm t s

  sorted : IsSortedBy (λ a b. is_lt (id_cmp a b)) ids
  sorted k d low high =
      ap is_lt (turned (get_or ids k d) (get_or ids (k + 1) d) ∙ ap ordering_reverse (rise k (k + 1) d (omega arith) high))

  -- an id at a place where a search found it
  found_at : (id : TxnId) (v : ℕ) → HoldsAt (λ x. id_cmp x id ≡ Equal) ids v → id_in ids v ≡ id
  found_at id v here = id_cmp-IsAntisymmetric (id_in ids v) id (here (record { 0 = [] }))

  -- an id that a search didn't find
  found_nowhere : (id : TxnId) (i : ℕ) → IsBinarySearchResult (λ x. id_cmp x id) ids (Err i) → Contains ids id → ⊥
  found_nowhere id i parted there =
      let two = parted (searchable_from_sorted id_cmp_total (λ x. x) ids id sorted) in
      let tie = tied_itself id_cmp_total id in
      elim (cases_lt there.0 i) [
        | inl less ↦ let low = two.0 there.0 id (omega arith) less in let same = there.2 in absurd (tells_apart _ id same low tie)
        | inr more ↦ let high = two.1 there.0 id more there.1 in let same = there.2 in absurd (tells_above _ id same high tie)
      ]
    where
      tells_apart : (s id : TxnId) → s ≡ id → id_cmp s id ≡ Less → id_cmp id id ≡ Equal → ⊥
      tells_apart s id e less tie = cc

      tells_above : (s id : TxnId) → s ≡ id → id_cmp s id ≡ Greater → id_cmp id id ≡ Equal → ⊥
      tells_above s id e more tie = cc

  -- what a search finds
  pub searched : (id : TxnId) (r : Result ℕ ℕ) → IsSearchInRange r (length ids) → IsBinarySearchResult (λ x. id_cmp x id) ids r
      → IfOk r (λ v. (v < length ids) × (id_in ids v ≡ id)) × IfErr r (λ i. Contains ids id → ⊥)
  searched id (Ok v) within here = ((within, found_at id v here), tt)
  searched id (Err i) within parted = (tt, found_nowhere id i parted)
