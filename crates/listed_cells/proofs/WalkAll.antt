-- The edges and marks of all owner queues, gathered cell by cell.
use Rattle.std.proofs.Common.{◌≡◌, ℕ, zero, suc, ◌+◌, ◌<◌, ◌≤◌, Bool, false, Option, Some, None, List, [], ◌∷◌, length, ◌⊎◌, inl, inr, ⊎_elim, sym, ap, ◌∙◌, subst, arith, replicate, get_or}
use Rattle.std.proofs.lemmas.Bool.{cases_eq, false≢true}
use Rattle.std.proofs.lemmas.List.{length-replicate, get_or_default}
use Rattle.cycle_order.specs.Graphs.{HasEdge}
use Rattle.cycle_order.specs.declared.graph.Edge.{Edge}
use Rattle.store_laws.specs.Readiness.{In, Before}
use Rattle.store_laws.specs.View.{look}
use Rattle.store_trait.specs.Contents.{Content}
use Rattle.store_trait.specs.declared.cell.Cell.TheVariants as cell
use Rattle.store_trait.specs.declared.name.Name.TheVariants as name
use Rattle.store_trait.specs.declared.cell.Named.{Named}
use Rattle.store_trait.specs.declared.name.Name.{Name}
use Rattle.txn_key.specs.declared.id.Token.{Token}
use Rattle.txn_key.specs.declared.id.TxnId.{TxnId}
use Rattle.txn_key.specs.declared.key.Key.{Key}
use Rattle.txn_record.specs.Walks.{Leads}
use Rattle.txn_record.proofs.WalkLaws.{leads_map}
use Rattle.listed_cells.specs.Listing.{content_of, IsListing}
use Rattle.listed_cells.specs.Orders.{Joins, IsBehind, IsChained, IsMarked, IsWalked, Marked}
use Rattle.listed_cells.specs.Queues.{name_in, owned_key, queue_of, queue_of_key}
use Rattle.listed_cells.proofs.Listed.{queue_held}

-- the edges and marks of the first p cells
pub record IsWalkedTo (c : Content) (ids : List TxnId) (cells : List Named) (p : ℕ) (edges : List Edge) (marks : List Bool) : Type 0 where
  pub sound : (u t : ℕ) → HasEdge edges u t → (n : Name) × Joins (look c) ids (queue_of c n) u t
  pub complete : (k u t : ℕ) → k < p → Joins (look c) ids (queue_of c (name_in cells k)) u t → Leads (HasEdge edges) u t
  pub size : length marks ≡ length ids
  pub marked : (v : ℕ) → Marked marks v → (n : Name) × IsBehind (look c) ids (queue_of c n) v
  pub behind : (k v : ℕ) → k < p → IsBehind (look c) ids (queue_of c (name_in cells k)) v → Marked marks v

none_marked : (n v : ℕ) → Marked (replicate n false) v → ⊥
none_marked zero v m = false≢true m
none_marked (suc n) zero m = false≢true m
none_marked (suc n) (suc v) m = none_marked n v m

below_next : (k p : ℕ) → k < p + 1 → (k ≡ p) ⊎ (k < p)
below_next k p h = elim (cases_eq k p) [ inl e ↦ inl e | inr ne ↦ inr (omega arith) ]

module _ (c : Content) (ids : List TxnId) (cells : List Named) where
  no_edge : (edges : List Edge) (u t : ℕ) → edges ≡ [] → HasEdge edges u t → ⊥
  no_edge edges u t e h = let within = (subst (λ es. HasEdge es u t) e h).1 in omega arith

  pub walked_none : (edges : List Edge) (marks : List Bool) → edges ≡ [] → marks ≡ replicate (length ids) false → IsWalkedTo c ids cells 0 edges marks
  walked_none edges marks e clear = record {
    sound = λ u t h. absurd (no_edge edges u t e h);
    complete = λ k u t less. absurd (omega arith);
    size = ap length clear ∙ length-replicate (length ids) false;
    marked = λ v m. absurd (none_marked (length ids) v (subst (λ flags. Marked flags v) clear m));
    behind = λ k v less. absurd (omega arith);
  }

  -- one cell on
  pub walked_more : (p : ℕ) (edges more : List Edge) (marks flags : List Bool) (queue : List Token) → queue ≡ queue_of c (name_in cells p)
      → IsChained (look c) ids edges more queue → IsMarked (look c) ids marks flags queue → IsWalkedTo c ids cells p edges marks → IsWalkedTo c ids cells (p + 1) more flags
  walked_more p edges more marks flags queue e chained marked w = record {
    sound = λ u t h. ⊎_elim (λ was. w.sound u t was) (λ j. (name_in cells p, subst (λ q. Joins (look c) ids q u t) e j)) (chained.sound u t h);
    complete = λ k u t less j. ⊎_elim
        (λ here. chained.complete u t (subst (λ q. Joins (look c) ids q u t) (sym e) (subst (λ n. Joins (look c) ids (queue_of c (name_in cells n)) u t) here j)))
        (λ before. leads_map chained.keeps u t (w.complete k u t before j))
        (below_next k p less);
    size = marked.size ∙ w.size;
    marked = λ v m. ⊎_elim (λ was. w.marked v was) (λ b. (name_in cells p, subst (λ q. IsBehind (look c) ids q v) e b)) ((marked.here v).0 m);
    behind = λ k v less b. ⊎_elim
        (λ here. (marked.here v).1 (inr (subst (λ q. IsBehind (look c) ids q v) (sym e) (subst (λ n. IsBehind (look c) ids (queue_of c (name_in cells n)) v) here b))))
        (λ before. (marked.here v).1 (inl (w.behind k v before b)))
        (below_next k p less);
  }

  -- a queue with something in it is that of a key
  keyed : (P : List Token → Type 0) → (P [] → ⊥) → (o : Option Key) → P (queue_of_key c o) → (key : Key) × P ((look c).queue_at key)
  keyed P none None h = absurd (none h)
  keyed P none (Some key) h = (key, h)

before_in : (x y : Token) (queue : List Token) → Before x y queue → In x queue
before_in x y [] h = absurd h
before_in x y (z ∷ queue) (inl h) = inl h.0
before_in x y (z ∷ queue) (inr h) = inr (before_in x y queue h)

module _ (ids : List TxnId) (cells : List Named) (listed : IsListing cells) where
  -- what holds of the queue of a key with a token in it, at the cell that holds it
  pub walked_all : (p : ℕ) (edges : List Edge) (marks : List Bool) → length cells ≤ p → IsWalkedTo (content_of cells) ids cells p edges marks → IsWalked (content_of cells) ids edges marks
  walked_all p edges marks past w = record {
    sound = λ u t h.
        let j = w.sound u t h in
        keyed (content_of cells) ids cells (λ q. Joins (look (content_of cells)) ids q u t) (λ j. j.before) (owned_key (content_of cells) j.0) j.1;
    complete = λ key u t j.
        let held = queue_held cells listed key j.x (before_in j.x j.y _ j.before) in
        let within = held.within in
        w.complete held.place u t (omega arith) (subst (λ (o : Option Key). Joins (look (content_of cells)) ids (queue_of_key (content_of cells) o) u t) (sym held.owns) j);
    size = w.size;
    behind = λ v. (
      λ m. let b = w.marked v m in keyed (content_of cells) ids cells (λ q. IsBehind (look (content_of cells)) ids q v) (λ b. b.before) (owned_key (content_of cells) b.0) b.1,
      λ found.
          let b = found.1 in
          let held = queue_held cells listed found.0 b.x (before_in b.x b.y _ b.before) in
          let within = held.within in
          w.behind held.place v (omega arith) (subst (λ (o : Option Key). IsBehind (look (content_of cells)) ids (queue_of_key (content_of cells) o) v) (sym held.owns) b),
    );
  }

-- the queue of a cell that was read
pub queue_read : (c : Content) (cells : List Named) (k : ℕ) (w : Named) → k < length cells → queue_of c (get_or cells k w).name ≡ queue_of c (name_in cells k)
queue_read c cells k w within = ap (λ (x : Named). queue_of c x.name) (get_or_default cells k w (record { name = name.Nonce; cell = cell.Nonce 0 }) within)
