-- What a content holds stands among the cells that are listed; the records' ids rise there; and each owner
-- queue with a token in it is that of a listed cell.
use Rattle.std.proofs.Common.{◌≡◌, ℕ, zero, suc, ◌<◌, Bool, true, false, cond, T, Option, Some, None, List, [], ◌∷◌, length, get_or, refl, sym, ap, ◌∙◌, subst, arith, AllPairs}
use Rattle.std.proofs.lemmas.Bool.{and_parts}
use Rattle.std.specs.FinMap.{get, get-from_sorted, find, is_sorted}
use Rattle.std.specs.FinMap.Entries.{below_all}
use Rattle.std.specs.List.{Contains, cons_option}
use Rattle.std.specs.Option.{option_and_then}
use Rattle.std.specs.Ordering.{eq_by_cmp, is_eq, is_lt}
use Rattle.std.specs.declared.cmp.Ordering.{Ordering}
use Rattle.std.specs.declared.cmp.Ordering.TheVariants.{Less, Equal, Greater}
use Rattle.store_laws.specs.View.{record_at, doc_at, stash_at, look, doc_queue, stash_queue, by_side}
use Rattle.store_laws.specs.Readiness.{In}
use Rattle.store_trait.specs.Cells.{as_record, as_doc, as_stash}
use Rattle.store_trait.specs.Names.{name_cmp}
use Rattle.store_trait.specs.Owners.{owner_of}
use Rattle.store_trait.specs.declared.cell.Cell.{Cell}
use Rattle.store_trait.specs.declared.cell.DocCell.{DocCell}
use Rattle.store_trait.specs.declared.cell.StashCell.{StashCell}
use Rattle.store_trait.specs.declared.cell.Named.{Named}
use Rattle.store_trait.specs.declared.name.Name.{Name}
use Rattle.store_trait.specs.declared.name.Name.TheVariants as name
use Rattle.store_trait.specs.declared.side.Side.{Side}
use Rattle.store_trait.specs.declared.side.Side.TheVariants as side
use Rattle.store_trait.proofs.NameOrder.{name_cmp-IsAntisymmetric}
use Rattle.txn_key.specs.Ids.{id_cmp}
use Rattle.txn_key.specs.declared.id.Token.{Token}
use Rattle.txn_key.specs.declared.id.TxnId.{TxnId}
use Rattle.txn_key.specs.declared.key.Key.{Key}
use Rattle.txn_record.specs.declared.record.Record.{Record}
use Rattle.listed_cells.specs.Listing.{entries_of, content_of, IsListing}
use Rattle.listed_cells.specs.Orders.{IsRoster}
use Rattle.listed_cells.specs.Queues.{name_in, id_of_name, ids_of, owned_key}

equal : (r : Ordering) → is_eq r ≡ true → r ≡ Equal
equal Less h = cc h
equal Equal h = refl
equal Greater h = cc h

less : (r : Ordering) → is_lt r ≡ true → r ≡ Less
less Less h = refl
less Equal h = cc h
less Greater h = cc h

-- a name stands at some place
pub record IsListed (cells : List Named) (n : Name) : Type 0 where
  pub place : ℕ
  pub within : place < length cells
  pub is : name_in cells place ≡ n

none_or_some : {A : Type 0} {x : A} → None ≡ Some x → ⊥
none_or_some e = cc

found : (n : Name) (x : Cell) (cells : List Named) → find name_cmp n (entries_of cells) ≡ Some x → IsListed cells n
found n x [] e = absurd (none_or_some e)
found n x (w ∷ cells) e = by_test (found n x cells) (eq_by_cmp name_cmp n w.name) refl e
  where
    by_test : (find name_cmp n (entries_of cells) ≡ Some x → IsListed cells n) → (b : Bool) → eq_by_cmp name_cmp n w.name ≡ b
        → cond b (Some w.cell) (find name_cmp n (entries_of cells)) ≡ Some x → IsListed (w ∷ cells) n
    by_test on true tie e = record { place = 0; within = omega arith; is = sym (name_cmp-IsAntisymmetric n w.name (equal _ tie)) }
    by_test on false tie e =
        let rest = on e in
        let within = rest.within in
        record { place = suc rest.place; within = omega arith; is = rest.is }

-- ids that rise, and are all above one
AllAbove : TxnId → List TxnId → Type 0
AllAbove id ids = (k : ℕ) (d : TxnId) → k < length ids → id_cmp id (get_or ids k d) ≡ Less

above_none : (id : TxnId) → AllAbove id []
unfolding AllAbove
above_none id k d within = absurd (omega arith)

above_more : (id : TxnId) (n : Name) (ids : List TxnId) → is_lt (name_cmp (name.Record id) n) ≡ true → AllAbove id ids → AllAbove id (cons_option (id_of_name n) ids)
unfolding AllAbove
above_more id (name.Record other) ids h all zero d within = less _ h
above_more id (name.Record other) ids h all (suc k) d within = all k d (omega arith)
above_more id (name.Doc key) ids h all k d within = all k d within
above_more id (name.Stash key) ids h all k d within = all k d within
above_more id name.Nonce ids h all k d within = all k d within

all_above : (id : TxnId) (cells : List Named) → below_all name_cmp (name.Record id) (entries_of cells) ≡ true → AllAbove id (ids_of cells)
all_above id [] h = above_none id
all_above id (w ∷ cells) h = above_more id w.name (ids_of cells) (and_parts _ _ h).0 (all_above id cells (and_parts _ _ h).1)

rise_more : (n : Name) (ids : List TxnId) → ((id : TxnId) → n ≡ name.Record id → AllAbove id ids) → AllPairs (λ s t. id_cmp s t ≡ Less) ids
    → AllPairs (λ s t. id_cmp s t ≡ Less) (cons_option (id_of_name n) ids)
unfolding AllAbove
rise_more (name.Record id) ids above rise zero zero d lt within = absurd (omega arith)
rise_more (name.Record id) ids above rise zero (suc j) d lt within = above id refl j d (omega arith)
rise_more (name.Record id) ids above rise (suc i) zero d lt within = absurd (omega arith)
rise_more (name.Record id) ids above rise (suc i) (suc j) d lt within = rise i j d (omega arith) (omega arith)
rise_more (name.Doc key) ids above rise i j d lt within = rise i j d lt within
rise_more (name.Stash key) ids above rise i j d lt within = rise i j d lt within
rise_more name.Nonce ids above rise i j d lt within = rise i j d lt within

ids_rise : (cells : List Named) → is_sorted name_cmp (entries_of cells) ≡ true → AllPairs (λ s t. id_cmp s t ≡ Less) (ids_of cells)
ids_rise [] h = λ i j d lt within. absurd (omega arith)
ids_rise (w ∷ cells) h =
    rise_more w.name (ids_of cells)
    (λ id e. all_above id cells (subst (λ (n : Name). below_all name_cmp n (entries_of cells) ≡ true) e (and_parts _ _ h).0))
    (ids_rise cells (and_parts _ _ h).1)

-- an id whose name stands among the cells
has_id : (id : TxnId) (cells : List Named) (k : ℕ) → k < length cells → name_in cells k ≡ name.Record id → Contains (ids_of cells) id
has_id id [] k within e = absurd (omega arith)
has_id id (w ∷ cells) zero within e = subst (λ (n : Name). Contains (cons_option (id_of_name n) (ids_of cells)) id) (sym e) (0, omega arith, refl)
has_id id (w ∷ cells) (suc k) within e = Contains-cons_option (id_of_name w.name) (ids_of cells) id (has_id id cells k (omega arith) e)
  where
    Contains-cons_option : (o : Option TxnId) (ids : List TxnId) (id : TxnId) → Contains ids id → Contains (cons_option o ids) id
    Contains-cons_option None ids id c = c
    Contains-cons_option (Some other) ids id c = let within = c.1 in (suc c.0, omega arith, c.2)

-- what is read of a cell is read of one that is there
there : {A : Type 0} (as_kind : Cell → Option A) (o : Option Cell) (x : A) → option_and_then as_kind o ≡ Some x → (w : Cell) × (o ≡ Some w)
there as_kind None x e = absurd (none_or_some e)
there as_kind (Some w) x e = (w, refl)

module _ (cells : List Named) (listed : IsListing cells) where
  pub listed_name : (n : Name) (x : Cell) → get (content_of cells) n ≡ Some x → IsListed cells n
  listed_name n x e = found n x cells (sym (get-from_sorted name_cmp (entries_of cells) n (subst (λ b. T b) (sym listed.rises) tt)) ∙ e)

  all_there : (id : TxnId) (rec : Record) → record_at (content_of cells) id ≡ Some rec → Contains (ids_of cells) id
  unfolding record_at
  all_there id rec e =
      let w = there as_record (get (content_of cells) (name.Record id)) rec e in
      let at = listed_name (name.Record id) w.0 w.1 in
      has_id id cells at.place at.within at.is

  pub roster : IsRoster (content_of cells) (ids_of cells)
  roster = record { rise = ids_rise cells listed.rises; all = all_there }

  -- where the owner queue of a key stands
  pub record HoldsQueue (key : Key) : Type 0 where
    pub place : ℕ
    pub within : place < length cells
    pub owns : owned_key (content_of cells) (name_in cells place) ≡ Some key

  doc_listed : (key : Key) (doc : DocCell) → doc_at (content_of cells) key ≡ Some doc → IsListed cells (name.Doc key)
  unfolding doc_at
  doc_listed key doc e = let w = there as_doc (get (content_of cells) (name.Doc key)) doc e in listed_name (name.Doc key) w.0 w.1

  stash_listed : (key : Key) (stash : StashCell) → stash_at (content_of cells) key ≡ Some stash → IsListed cells (name.Stash key)
  unfolding stash_at
  stash_listed key stash e = let w = there as_stash (get (content_of cells) (name.Stash key)) stash e in listed_name (name.Stash key) w.0 w.1

  -- an owner queue with a token in it is that of a cell
  pub queue_held : (key : Key) (x : Token) → In x ((look (content_of cells)).queue_at key) → HoldsQueue key
  unfolding look
  queue_held key x h = by_cells (doc_at (content_of cells) key) (stash_at (content_of cells) key) refl refl _ refl h
    where
      by_cells : (doc : Option DocCell) (stash : Option StashCell) → doc_at (content_of cells) key ≡ doc → stash_at (content_of cells) key ≡ stash
          → (s : Side) → owner_of (doc_at (content_of cells) key) (stash_at (content_of cells) key) ≡ s → In x (by_side s [] (doc_queue doc) (stash_queue stash)) → HoldsQueue key
      by_cells doc stash de se side.Neither owner h = absurd h
      by_cells None stash de se side.Document owner h = absurd h
      by_cells (Some doc) stash de se side.Document owner h =
          let at = doc_listed key doc de in
          record { place = at.place; within = at.within; owns = ap (owned_key (content_of cells)) at.is ∙ ap (λ (s : Side). by_side s None (Some key) None) owner }
      by_cells doc None de se side.Stash owner h = absurd h
      by_cells doc (Some stash) de se side.Stash owner h =
          let at = stash_listed key stash se in
          record { place = at.place; within = at.within; owns = ap (owned_key (content_of cells)) at.is ∙ ap (λ (s : Side). by_side s None None (Some key)) owner }
