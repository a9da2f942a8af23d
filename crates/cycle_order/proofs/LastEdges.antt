-- What following the links of edges gives.
use Rattle.std.proofs.Common.{◌≡◌, ℕ, zero, suc, ◌<◌, ◌≤◌, ◌==◌, Bool, true, false, cond, List, Option, Some, None, length, get_or, refl, sym, ap, subst, ◌∙◌, inl, inr, arith, eqb-true, ◌⊎◌}
use Rattle.std.proofs.lemmas.List.{get_or_default, get_or_read}
use Rattle.std.proofs.lemmas.Bool.{eqb-false, cases_lt}
use Rattle.std.proofs.lemmas.Option.{same_Some}
use Rattle.cycle_order.specs.declared.graph.Edge.{Edge}
use Rattle.cycle_order.specs.Graphs.{edge_of, HasEdge}
use Rattle.cycle_order.specs.declared.incoming.Incoming.{Incoming}
use Rattle.cycle_order.specs.Search.{Marked, start_at, end_at, last_into, IsIncoming}

-- k is the last of the first n places whose edge ends at t
pub record IsLast (edges : List Edge) (t n k : ℕ) : Type 0 where
  pub below : k < n
  pub ends : end_at edges k ≡ t
  pub none : (j : ℕ) → k < j → j < n → end_at edges j ≡ t → ⊥

cases_below : (j n : ℕ) → j < suc n → (j < n) ⊎ (j ≡ n)
cases_below j n h = grind arith

one_more : (edges : List Edge) (t n k : ℕ) → IsLast edges t n k → (end_at edges n ≡ t → ⊥) → IsLast edges t (suc n) k
one_more edges t n k l other = record {
  below = let b : k < n = l.below in omega arith;
  ends = l.ends;
  none = λ j above under e. elim (cases_below j n under) [ inl b ↦ l.none j above b e | inr same ↦ other (subst (λ m. end_at edges m ≡ t) same e) ];
}

itself : (edges : List Edge) (t n k : ℕ) → n ≡ k → end_at edges n ≡ t → IsLast edges t (suc n) k
itself edges t n k e ends = record { below = omega arith; ends = subst (λ m. end_at edges m ≡ t) e ends; none = λ j above under f. absurd (omega arith) }

-- the place that `last_into` gives
pub last_into-Some : (edges : List Edge) (t n k : ℕ) → last_into edges t n ≡ Some k → IsLast edges t n k
last_into-Some edges t zero k e = absurd cc
last_into-Some edges t (suc n) k e = step (end_at edges n == t) refl e (last_into-Some edges t n k)
  where
    step : (b : Bool) → (end_at edges n == t) ≡ b → cond b (Some n) (last_into edges t n) ≡ Some k → (last_into edges t n ≡ Some k → IsLast edges t n k) → IsLast edges t (suc n) k
    step true test f rest = itself edges t n k (same_Some n k f) (eqb-true (end_at edges n) t test)
    step false test f rest = one_more edges t n k (rest f) (eqb-false (end_at edges n) t test)

-- where it gives none, no edge ends at t
pub last_into-None : (edges : List Edge) (t n : ℕ) → last_into edges t n ≡ None → (j : ℕ) → j < n → end_at edges j ≡ t → ⊥
last_into-None edges t zero e j below ends = omega arith
last_into-None edges t (suc n) e j below ends = step (end_at edges n == t) refl e (λ f less. last_into-None edges t n f j less ends) (cases_below j n below)
  where
    step : (b : Bool) → (end_at edges n == t) ≡ b → cond b (Some n) (last_into edges t n) ≡ None → (last_into edges t n ≡ None → j < n → ⊥) → (j < n) ⊎ (j ≡ n) → ⊥
    step true test f rest c = cc
    step false test f rest (inl less) = rest f less
    step false test f rest (inr same) = eqb-false (end_at edges n) t test (subst (λ m. end_at edges m ≡ t) same ends)

-- an edge at a place is an edge
pub edge_at : (edges : List Edge) (k t : ℕ) → k < length edges → end_at edges k ≡ t → HasEdge edges (start_at edges k) t
edge_at edges k t within ends =
    (k, within, get_or_default edges k (edge_of (start_at edges k) t) (edge_of 0 0) within ∙ ap (edge_of (start_at edges k)) ends)

-- what holds at each place with an edge into t holds of each edge into t
pub at_edge : (edges : List Edge) (P : ℕ → Type 0) (u t : ℕ) → ((k : ℕ) → k < length edges → end_at edges k ≡ t → P (start_at edges k)) → HasEdge edges u t → P u
at_edge edges P u t all (k, within, is) =
    let same : get_or edges k (edge_of 0 0) ≡ edge_of u t = get_or_default edges k (edge_of 0 0) (edge_of u t) within ∙ is in
    subst P (ap (λ (edge : Edge). edge.before) same) (all k within (ap (λ (edge : Edge). edge.after) same))

-- how far the links still reach
abbrev pub places_left : Option ℕ → ℕ
places_left None = 0
places_left (Some k) = suc k

-- The links into t are followed: every edge into t at a place that is left is still to come, and the
-- others are marked.
pub record IsFollowed (edges : List Edge) (t : ℕ) (found : List Bool) (next : Option ℕ) : Type 0 where
  pub n : ℕ
  pub within : n ≤ length edges
  pub link : next ≡ last_into edges t n
  pub done : (k : ℕ) → n ≤ k → k < length edges → end_at edges k ≡ t → Marked found (start_at edges k)

module _ (edges : List Edge) (t : ℕ) where
  pub followed_none : (found : List Bool) (next : Option ℕ) → next ≡ last_into edges t (length edges) → IsFollowed edges t found next
  followed_none found next e = record { n = length edges; within = omega arith; link = e; done = λ k from below. absurd (omega arith) }

  pub followed_more : (found found' : List Bool) (next next' : Option ℕ) (k : ℕ) → next ≡ Some k → IsFollowed edges t found next
      → ((a : ℕ) → Marked found a → Marked found' a) → Marked found' (start_at edges k) → next' ≡ last_into edges (end_at edges k) k
      → IsFollowed edges t found' next'
  followed_more found found' next next' k e f keeps here link = record {
    n = k;
    within = let b : k < f.n = l.below in let w : f.n ≤ length edges = f.within in omega arith;
    link = link ∙ ap (λ m. last_into edges m k) l.ends;
    done = λ j from below ends. elim (cases_from j from) [
      | inl same ↦ subst (λ m. Marked found' (start_at edges m)) (sym same) here
      | inr above ↦ elim (cases_lt j f.n) [ inl less ↦ absurd (l.none j above less ends) | inr past ↦ keeps (start_at edges j) (f.done j past below ends) ]
    ];
  }
    where
      l : IsLast edges t f.n k
      l = last_into-Some edges t f.n k (sym f.link ∙ e)

      cases_from : (j : ℕ) → k ≤ j → (j ≡ k) ⊎ (k < j)
      cases_from j h = grind arith

  -- a link leads to an edge into t
  pub followed_edge : (found : List Bool) (next : Option ℕ) (k : ℕ) → next ≡ Some k → IsFollowed edges t found next → (k < length edges) × (end_at edges k ≡ t)
  followed_edge found next k e f =
      let l : IsLast edges t f.n k = last_into-Some edges t f.n k (sym f.link ∙ e) in
      let b : k < f.n = l.below in let w : f.n ≤ length edges = f.within in (omega arith, l.ends)

  pub followed_all : (found : List Bool) (next : Option ℕ) → next ≡ None → IsFollowed edges t found next → (u : ℕ) → HasEdge edges u t → Marked found u
  followed_all found next e f u = at_edge edges (Marked found) u t (λ k within ends.
      elim (cases_lt k f.n) [ inl less ↦ absurd (last_into-None edges t f.n (sym f.link ∙ e) k less ends) | inr past ↦ f.done k past within ends ])

-- the next link leads further down
pub places_left-falls : (edges : List Edge) (t k : ℕ) (next : Option ℕ) → next ≡ last_into edges t k → places_left next < suc k
places_left-falls edges t k None e = omega arith
places_left-falls edges t k (Some j) e = let b : j < k = (last_into-Some edges t k j (sym e)).below in omega arith

-- Places of edges between the first so many vertices.
module _ (into : Incoming) (count : ℕ) (i : IsIncoming into count) where
  pub start_within : (k : ℕ) → k < length into.edges.items → start_at into.edges.items k < count
  start_within k within = (i.inside k (edge_of 0 0) within).0

  -- what is read of an edge
  pub read_start : (k : ℕ) (edge : Edge) → k < length into.edges.items → edge ≡ get_or into.edges.items k edge → edge.before ≡ start_at into.edges.items k
  read_start k edge within read = ap (λ (e : Edge). e.before) (get_or_read into.edges.items k edge within read (edge_of 0 0))

  pub start_read : (k : ℕ) (edge : Edge) (size : ℕ) → k < length into.edges.items → edge ≡ get_or into.edges.items k edge → size ≡ count → edge.before < size
  start_read k edge size within read e = rw (read_start k edge within read, e) (start_within k within)

  -- what is read of a link
  pub read_last : (t : ℕ) (next : Option ℕ) → t < count → next ≡ get_or into.last.items t next → next ≡ last_into into.edges.items t (length into.edges.items)
  read_last t next within read =
      get_or_read into.last.items t next (rw i.linked.vertices within) read None ∙ i.linked.ends t within

  pub read_previous : (k : ℕ) (next : Option ℕ) → k < length into.edges.items → next ≡ get_or into.previous.items k next
      → next ≡ last_into into.edges.items (end_at into.edges.items k) k
  read_previous k next within read =
      get_or_read into.previous.items k next (rw i.linked.places within) read None ∙ i.linked.starts k within
