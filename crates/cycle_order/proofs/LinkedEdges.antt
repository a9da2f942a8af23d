-- Edges by their ends: how the links are made.
use Rattle.std.proofs.Common.{◌≡◌, ◌≢◌, ℕ, ◌+◌, ◌<◌, ◌≤◌, List, [], ◌∷◌, ◌++◌, Option, Some, None, length, get_or, set, replicate, refl, sym, ap, subst, ◌∙◌, inl, inr, arith, eq-eqb, below_more, add-one}
use Rattle.std.proofs.lemmas.List.{get_or-replicate, length-replicate, length-set, length_push, get_or-set_same, get_or-set_other, get_or_append_left, get_or_push, get_or_read}
use Rattle.std.proofs.lemmas.Bool.{ne_eqb, cases_eq}
use Rattle.cycle_order.specs.declared.graph.Edge.{Edge}
use Rattle.cycle_order.specs.Search.{end_at, last_into, IsLinked}

replicate_linked : (edges : List Edge) (count : ℕ) → IsLinked edges (replicate count None) [] count 0
replicate_linked edges count = record {
  vertices = length-replicate count None;
  places = refl;
  ends = λ t within. get_or-replicate count t None None within;
  starts = λ k within. absurd (omega arith);
}

-- before the first edge
pub linked_none : (edges : List Edge) (last previous : List (Option ℕ)) (count : ℕ) → last ≡ replicate count None → previous ≡ [] → IsLinked edges last previous count 0
linked_none edges last previous count e f = rw (e, f) (replicate_linked edges count)

last_into-here : (edges : List Edge) (t n : ℕ) → end_at edges n ≡ t → last_into edges t (n + 1) ≡ Some n
last_into-here edges t n e = rw (add-one, eq-eqb (end_at edges n) t e) refl

last_into-other : (edges : List Edge) (t n : ℕ) → t ≢ end_at edges n → last_into edges t (n + 1) ≡ last_into edges t n
last_into-other edges t n ne = rw (add-one, ne_eqb (end_at edges n) t (λ e. ne (sym e))) refl

module _ (edges : List Edge) (last previous : List (Option ℕ)) (count n : ℕ) (x : Option ℕ) (within : end_at edges n < count)
    (read : x ≡ get_or last (end_at edges n) x) (l : IsLinked edges last previous count n) where
  inside : end_at edges n < length last
  inside = rw l.vertices within

  ends_more : (t : ℕ) → t < count → get_or (set last (end_at edges n) (Some n)) t None ≡ last_into edges t (n + 1)
  ends_more t below = elim (cases_eq t (end_at edges n)) [
    | inl e ↦ rw e (get_or-set_same last (end_at edges n) (Some n) None inside) ∙ sym (last_into-here edges t n (sym e))
    | inr ne ↦ get_or-set_other last (end_at edges n) t (Some n) None ne ∙ l.ends t below ∙ sym (last_into-other edges t n ne)
  ]

  starts_more : (k : ℕ) → k < n + 1 → get_or (previous ++ x ∷ []) k None ≡ last_into edges (end_at edges k) k
  starts_more = below_more _ _
      (λ k below. get_or_append_left previous (x ∷ []) None k (rw l.places below) ∙ l.starts k below)
      (get_or_push previous x None n l.places ∙ get_or_read last (end_at edges n) x inside read None ∙ l.ends (end_at edges n) within)

  -- one edge more
  pub linked_more : (pushed : List (Option ℕ)) → pushed ≡ previous ++ x ∷ [] → IsLinked edges (set last (end_at edges n) (Some n)) pushed count (n + 1)
  linked_more pushed e = record {
    vertices = length-set last (end_at edges n) (Some n) ∙ l.vertices;
    places = ap length e ∙ length_push previous x ∙ ap (λ m. m + 1) l.places;
    ends = ends_more;
    starts = rw e starts_more;
  }

-- all edges
pub linked_all : (edges given : List Edge) (last previous : List (Option ℕ)) (count n : ℕ) → edges ≡ given → length edges ≤ n → n ≤ length edges
    → IsLinked edges last previous count n → IsLinked given last previous count (length given)
linked_all edges given last previous count n e above below l =
    let m : n ≡ length edges = omega arith in
    subst (λ (es : List Edge). IsLinked es last previous count (length es)) e (subst (IsLinked edges last previous count) m l)
