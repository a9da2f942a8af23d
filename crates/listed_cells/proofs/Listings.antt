-- What is looked up among listed cells.
use Rattle.std.proofs.Common.{◌≡◌, ℕ, zero, suc, ◌+◌, ◌<◌, Bool, true, false, T, ◌&&◌, List, [], ◌∷◌, length, get_or, Result, Ok, Err, Option, Some, None, cond, IfOk, IfErr, option_and_then, unwrap_or, inl, inr, refl, sym, ap, ◌∙◌, subst, arith}
use Rattle.std.specs.List.Sorted.{IsSortedBy, IsSearchInRange, IsBinarySearchResult}
use Rattle.std.specs.Ordering.{ordering_reverse, is_lt, is_eq}
use Rattle.std.specs.Result.{result_ok}
use Rattle.std.specs.Cmp.{alike_right, tied_back}
use Rattle.std.specs.FinMap.{get, find, get-from_sorted, is_sorted}
use Rattle.std.specs.FinMap.Entries.{below_all}
use Rattle.std.specs.declared.cmp.Ordering.{Ordering}
use Rattle.std.specs.declared.cmp.Ordering.TheVariants.{Less, Equal, Greater}
use Rattle.std.proofs.lemmas.Bool.{cases_lt}
use Rattle.std.proofs.lemmas.Cmp.{tied_itself}
use Rattle.std.proofs.lemmas.List.Sorted.{searchable_from_sorted}
use Rattle.txn_key.specs.declared.id.TxnId.{TxnId}
use Rattle.txn_key.specs.declared.key.Key.{Key}
use Rattle.store_trait.specs.Cells.{as_record, as_doc, as_stash, as_counter}
use Rattle.store_trait.specs.Contents.{Content}
use Rattle.store_laws.specs.View.{look, record_at, doc_at, stash_at, counter, owner_queue, owner_held}
use Rattle.store_trait.specs.declared.cell.DocCell.{DocCell}
use Rattle.store_trait.specs.declared.cell.StashCell.{StashCell}
use Rattle.store_trait.specs.declared.name.Name.TheVariants as name
use Rattle.store_trait.specs.Names.{name_cmp}
use Rattle.store_trait.specs.declared.cell.Cell.{Cell}
use Rattle.store_trait.specs.declared.cell.Named.{Named}
use Rattle.store_trait.specs.declared.name.Name.{Name}
use Rattle.store_trait.proofs.NameOrder.{name_cmp_total}
use Rattle.listed_cells.specs.Listing.{IsListing, StandsAt, content_of, entries_of}

pub held : (b : Bool) → b ≡ true → T b
held b e = subst T (sym e) tt

below : (r : Ordering) → T (is_lt r) → r ≡ Less
below Less h = refl
below Equal h = absurd h
below Greater h = absurd h

front : (a b : Bool) → T (a && b) → T a
front true b h = tt
front false b h = absurd h

back : (a b : Bool) → T (a && b) → T b
back true b h = h
back false b h = absurd h

turned : (m n : Name) (r : Ordering) → name_cmp m n ≡ r → name_cmp n m ≡ ordering_reverse r
turned m n r e = name_cmp_total.antisymm n m ∙ ap ordering_reverse e

below_at : (n : Name) (cells : List Named) (i : ℕ) (d : Named) → T (below_all name_cmp n (entries_of cells)) → i < length cells → name_cmp n (get_or cells i d).name ≡ Less
below_at n [] i d h within = absurd (omega arith)
below_at n (x ∷ cells) zero d h within = below _ (front _ _ h)
below_at n (x ∷ cells) (suc i) d h within = below_at n cells i d (back _ _ h) (omega arith)

-- of two places the earlier has the lesser name
pub ordered_at : (cells : List Named) → T (is_sorted name_cmp (entries_of cells)) → (i j : ℕ) (d : Named) → i < j → j < length cells
    → name_cmp (get_or cells i d).name (get_or cells j d).name ≡ Less
ordered_at [] h i j d before within = absurd (omega arith)
ordered_at (x ∷ cells) h i zero d before within = absurd (omega arith)
ordered_at (x ∷ cells) h zero (suc j) d before within = below_at x.name cells j d (front _ _ h) (omega arith)
ordered_at (x ∷ cells) h (suc i) (suc j) d before within = ordered_at cells (back _ _ h) i j d (omega arith) (omega arith)

rises : (cells : List Named) → T (is_sorted name_cmp (entries_of cells)) → IsSortedBy (λ a b. is_lt (name_cmp a.name b.name)) cells
rises [] h i d low high = absurd (omega arith)
rises (x ∷ cells) h zero d low high = ap is_lt (turned x.name _ Less (below_at x.name cells 0 d (front _ _ h) (omega arith)))
rises (x ∷ cells) h (suc i) d low high =
    let next : suc (i + 1) ≡ suc i + 1 = omega arith in
    subst (λ (j : ℕ). is_lt (name_cmp (get_or (x ∷ cells) j d).name (get_or cells i d).name) ≡ false) next (rises cells (back _ _ h) i d (omega arith) (omega arith))

found_at : (n : Name) (cells : List Named) (i : ℕ) (d : Named) → T (is_sorted name_cmp (entries_of cells)) → i < length cells → name_cmp (get_or cells i d).name n ≡ Equal
    → find name_cmp n (entries_of cells) ≡ Some (get_or cells i d).cell
found_at n [] i d h within tie = absurd (omega arith)
found_at n (x ∷ cells) zero d h within tie = ap (λ r. cond (is_eq r) (Some x.cell) (find name_cmp n (entries_of cells))) (tied_back name_cmp_total x.name n tie)
found_at n (x ∷ cells) (suc i) d h within tie =
    let above : name_cmp n x.name ≡ Greater
    = turned x.name n Less (sym (alike_right name_cmp_total _ n x.name tie) ∙ below_at x.name cells i d (front _ _ h) (omega arith)) in
    ap (λ r. cond (is_eq r) (Some x.cell) (find name_cmp n (entries_of cells))) above ∙ found_at n cells i d (back _ _ h) (omega arith) tie

none_here : (n : Name) (x : Named) (cells : List Named) (r : Ordering) → name_cmp n x.name ≡ r → (r ≡ Equal → ⊥) → find name_cmp n (entries_of cells) ≡ None
    → find name_cmp n (entries_of (x ∷ cells)) ≡ None
none_here n x cells Less e other rest = ap (λ r. cond (is_eq r) (Some x.cell) (find name_cmp n (entries_of cells))) e ∙ rest
none_here n x cells Equal e other rest = absurd (other refl)
none_here n x cells Greater e other rest = ap (λ r. cond (is_eq r) (Some x.cell) (find name_cmp n (entries_of cells))) e ∙ rest

none_found : (n : Name) (cells : List Named) → ((i : ℕ) (d : Named) → i < length cells → name_cmp n (get_or cells i d).name ≡ Equal → ⊥) → find name_cmp n (entries_of cells) ≡ None
none_found n [] other = refl
none_found n (x ∷ cells) other = none_here n x cells _ refl (other zero x (omega arith)) (none_found n cells (λ i d within. other (suc i) d (omega arith)))

pub found_by : (n : Name) (cells : List Named) → IsListing cells → get (content_of cells) n ≡ find name_cmp n (entries_of cells)
found_by n cells l = get-from_sorted name_cmp (entries_of cells) n (held _ l.rises)

-- what a search by halving finds is what stands under the name
pub looked_up : (n : Name) (cells : List Named) (r : Result ℕ ℕ) → IsListing cells → IsSearchInRange r (length cells) → IsBinarySearchResult (λ x. name_cmp x.name n) cells r
    → IfOk r (λ i. (d : Named) → get (content_of cells) n ≡ Some (get_or cells i d).cell) × IfErr r (λ i. get (content_of cells) n ≡ None)
looked_up n cells (Ok i) l within here = (λ d. found_by n cells l ∙ found_at n cells i d (held _ l.rises) within (here d), tt)
looked_up n cells (Err i) l within parted =
    let two = parted (searchable_from_sorted name_cmp_total (λ (x : Named). x.name) cells n (rises cells (held _ l.rises))) in (
      tt,
      found_by n cells l ∙ none_found n cells (λ j d inside tie. elim (cases_lt j i) [
        | inl low ↦ let less = turned _ n Less (two.0 j d (omega arith) low) in absurd cc
        | inr high ↦ let more = turned _ n Greater (two.1 j d high inside) in absurd cc
      ]),
    )

-- and where it stands
pub placed : (n : Name) (cells : List Named) (r : Result ℕ ℕ) → IsListing cells → IsSearchInRange r (length cells) → IsBinarySearchResult (λ x. name_cmp x.name n) cells r
    → StandsAt cells n (result_ok r)
placed n cells (Ok i) l within here = (within, (looked_up n cells (Ok i) l within here).0)
placed n cells (Err i) l within parted = (looked_up n cells (Err i) l within parted).1

-- a listed cell stands under its name
pub stands_at : (cells : List Named) → IsListing cells → (i : ℕ) (d : Named) → i < length cells → get (content_of cells) (get_or cells i d).name ≡ Some (get_or cells i d).cell
stands_at cells l i d within = found_by _ cells l ∙ found_at _ cells i d (held _ l.rises) within (tied_itself name_cmp_total (get_or cells i d).name)

-- what stands under a name is the record, the document or the stash entry there
pub record_there : (c : Content) (id : TxnId) (x : Option Cell) → get c (name.Record id) ≡ x → record_at c id ≡ option_and_then as_record x
unfolding record_at
record_there c id x e = ap (option_and_then as_record) e

pub doc_there : (c : Content) (key : Key) (x : Option Cell) → get c (name.Doc key) ≡ x → doc_at c key ≡ option_and_then as_doc x
unfolding doc_at
doc_there c key x e = ap (option_and_then as_doc) e

pub stash_there : (c : Content) (key : Key) (x : Option Cell) → get c (name.Stash key) ≡ x → stash_at c key ≡ option_and_then as_stash x
unfolding stash_at
stash_there c key x e = ap (option_and_then as_stash) e

pub counter_there : (c : Content) (x : Option Cell) → get c name.Nonce ≡ x → counter c ≡ unwrap_or (option_and_then as_counter x) 0
unfolding counter
counter_there c x e = ap (λ y. unwrap_or (option_and_then as_counter y) 0) e

-- what a key's two cells show is what its owner shows
module _ (c : Content) (key : Key) (doc : Option DocCell) (stash : Option StashCell) (e : doc ≡ doc_at c key) (f : stash ≡ stash_at c key) where
  pub queue_looked : owner_queue doc stash ≡ (look c).queue_at key
  unfolding look
  queue_looked = rw (e, f) refl

  pub held_looked : owner_held doc stash ≡ (look c).held_at key
  unfolding look
  held_looked = rw (e, f) refl
