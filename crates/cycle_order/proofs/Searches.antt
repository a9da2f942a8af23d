-- Searches against the edges: one step, several, and what a whole search has found.
use Rattle.std.proofs.Common.{◌≡◌, ℕ, zero, suc, ◌<◌, Bool, true, false, List, [], ◌∷◌, ◌++◌, length, get_or, set, replicate, refl, sym, ap, subst, ◌∙◌, inl, inr, ◌⊎◌, ◌↔◌, arith, Contains, ◌+◌, ◌≤◌, below_more}
use Rattle.std.proofs.lemmas.List.{get_or-set_same, get_or-set_other, length-set, length_push, length-replicate, get_or_past, nil_from_length}
use Rattle.std.proofs.lemmas.List.Elements.{Contains-append_left, Contains-push, Contains-push_cases}
use Rattle.std.proofs.lemmas.Bool.{cases_eq, cases_lt, false≢true}
use Rattle.txn_record.specs.Walks.{Leads}
use Rattle.txn_record.proofs.WalkLaws.{one_edge, join, leads_in}
use Rattle.cycle_order.specs.declared.graph.Edge.{Edge}
use Rattle.cycle_order.specs.Graphs.{HasEdge}
use Rattle.cycle_order.specs.Search.{Marked, unmarked, Finds, IsBegun, LeadsTo}

module _ (P : ℕ → Type 0) where
  pub finds_none : (found : List Bool) (frontier : List ℕ) → Finds P found frontier found frontier
  finds_none found frontier = record {
    size = refl;
    keeps = λ a m. m;
    only = λ a m. inl m;
    fresh = λ a m. inl m;
    waits = λ a c. c;
    among = λ a c. inl c;
    work = refl;
  }

  pub finds_then : (found : List Bool) (frontier : List ℕ) (found' : List Bool) (frontier' : List ℕ) (found'' : List Bool) (frontier'' : List ℕ)
      → Finds P found frontier found' frontier' → Finds P found' frontier' found'' frontier'' → Finds P found frontier found'' frontier''
  finds_then found frontier found' frontier' found'' frontier'' f g = record {
    size = g.size ∙ f.size;
    keeps = λ a m. g.keeps a (f.keeps a m);
    only = λ a m. elim (g.only a m) [ inl n ↦ f.only a n | inr p ↦ inr p ];
    fresh = λ a m. elim (g.fresh a m) [ inl n ↦ elim (f.fresh a n) [ inl o ↦ inl o | inr c ↦ inr (g.waits a c) ] | inr c ↦ inr c ];
    waits = λ a c. g.waits a (f.waits a c);
    among = λ a c. elim (g.among a c) [ inl d ↦ elim (f.among a d) [ inl e ↦ inl e | inr m ↦ inr (g.keeps a m) ] | inr m ↦ inr m ];
    work = g.work ∙ f.work;
  }

unmarked-set : (found : List Bool) (v : ℕ) → v < length found → get_or found v false ≡ false → suc (unmarked (set found v true)) ≡ unmarked found
unmarked-set [] v within free = absurd (omega arith)
unmarked-set (true ∷ found) zero within free = absurd cc
unmarked-set (false ∷ found) zero within free = refl
unmarked-set (true ∷ found) (suc v) within free = unmarked-set found v (omega arith) free
unmarked-set (false ∷ found) (suc v) within free = ap suc (unmarked-set found v (omega arith) free)

module _ (found : List Bool) (frontier : List ℕ) (v : ℕ) (within : v < length found) where
  pub set_marks : Marked (set found v true) v
  set_marks = get_or-set_same found v true false within

  pub set_keeps : (a : ℕ) → Marked found a → Marked (set found v true) a
  set_keeps a m = elim (cases_eq a v) [ inl e ↦ rw e set_marks | inr ne ↦ get_or-set_other found v a true false ne ∙ m ]

  set_only : (a : ℕ) → Marked (set found v true) a → Marked found a ⊎ (a ≡ v)
  set_only a m = elim (cases_eq a v) [ inl e ↦ inr e | inr ne ↦ inl (sym (get_or-set_other found v a true false ne) ∙ m) ]

  pub finds_one : get_or found v false ≡ false → Finds (λ a. a ≡ v) found frontier (set found v true) (frontier ++ v ∷ [])
  finds_one free = record {
    size = length-set found v true;
    keeps = set_keeps;
    only = set_only;
    fresh = λ a m. elim (set_only a m) [ inl n ↦ inl n | inr e ↦ inr (rw e (Contains-push frontier v)) ];
    waits = Contains-append_left frontier (v ∷ []);
    among = λ a c. elim (Contains-push_cases frontier v a c) [ inl d ↦ inl d | inr e ↦ inr (rw (← e) set_marks) ];
    work = let less = unmarked-set found v within free in let longer = length_push frontier v in omega arith;
  }

-- what is found of a set is found of a larger one
pub finds_more : (P Q : ℕ → Type 0) → ((a : ℕ) → P a → Q a) → (found : List Bool) (frontier : List ℕ) (found' : List Bool) (frontier' : List ℕ)
    → Finds P found frontier found' frontier' → Finds Q found frontier found' frontier'
finds_more P Q more found frontier found' frontier' f = record {
  size = f.size;
  keeps = f.keeps;
  only = λ a m. elim (f.only a m) [ inl n ↦ inl n | inr p ↦ inr (more a p) ];
  fresh = f.fresh;
  waits = f.waits;
  among = f.among;
  work = f.work;
}

-- the state of a search for what leads to a vertex of P
pub record IsSearch (edges : List Edge) (P : ℕ → Type 0) (count : ℕ) (found : List Bool) (frontier : List ℕ) : Type 0 where
  pub size : length found ≡ count
  pub here : (v : ℕ) → P v → Marked found v
  pub sound : (a : ℕ) → Marked found a → LeadsTo edges P a
  pub shut : (u t : ℕ) → HasEdge edges u t → Marked found t → Marked found u ⊎ Contains frontier t
  pub among : (a : ℕ) → Contains frontier a → Marked found a

none_contained : (a : ℕ) → Contains {X = ℕ} [] a → ⊥
none_contained a (k, below, is) = omega arith

pub none_marked : (count a : ℕ) → Marked (replicate count false) a → ⊥
none_marked zero a m = cc
none_marked (suc count) zero m = cc
none_marked (suc count) (suc a) m = none_marked count a m

marked_within : (found : List Bool) (a : ℕ) → Marked found a → a < length found
marked_within found a m = elim (cases_lt a (length found)) [ inl within ↦ within | inr past ↦ absurd (false≢true (sym (get_or_past found a false past) ∙ m)) ]

-- what is found of none waits in the frontier
pub begun : (P : ℕ → Type 0) (count : ℕ) (none : List Bool) (empty : List ℕ) (found : List Bool) (frontier : List ℕ) → none ≡ replicate count false → empty ≡ []
    → Finds P none empty found frontier → IsBegun found frontier
begun P count none empty found frontier e g f = record {
  waits = λ a m. elim (f.fresh a m) [ inl n ↦ absurd (none_marked count a (rw e at n)) | inr c ↦ c ];
  among = λ a c. elim (f.among a c) [ inl d ↦ absurd (none_contained a (rw g at d)) | inr m ↦ m ];
}

-- and it is of P
pub only_begun : (P : ℕ → Type 0) (count : ℕ) (none : List Bool) (empty : List ℕ) (found : List Bool) (frontier : List ℕ) → none ≡ replicate count false
    → Finds P none empty found frontier → (a : ℕ) → Marked found a → P a
only_begun P count none empty found frontier e f a m = elim (f.only a m) [ inl n ↦ absurd (none_marked count a (rw e at n)) | inr p ↦ p ]

-- the marked ones of the first n vertices are found, and none else
pub record IsBeginning (marked : List Bool) (n : ℕ) (found : List Bool) (frontier : List ℕ) : Type 0 where
  pub size : length found ≡ length marked
  pub all : (a : ℕ) → a < n → Marked marked a → Marked found a
  pub only : (a : ℕ) → Marked found a → Marked marked a
  pub begun : IsBegun found frontier

pub beginning : (marked none : List Bool) (empty : List ℕ) → none ≡ replicate (length marked) false → empty ≡ [] → IsBeginning marked 0 none empty
beginning marked none empty e g = record {
  size = ap length e ∙ length-replicate (length marked) false;
  all = λ a below m. absurd (omega arith);
  only = λ a m. absurd (none_marked (length marked) a (rw e at m));
  begun = record { waits = λ a m. absurd (none_marked (length marked) a (rw e at m)); among = λ a c. absurd (none_contained a (rw g at c)) };
}

-- the next vertex is found, if it is marked
pub beginning_here : (marked : List Bool) (n : ℕ) (found : List Bool) (frontier : List ℕ) (found' : List Bool) (frontier' : List ℕ) → Marked marked n
    → Finds (λ a. a ≡ n) found frontier found' frontier' → Marked found' n → IsBeginning marked n found frontier → IsBeginning marked (n + 1) found' frontier'
beginning_here marked n found frontier found' frontier' here f m b = record {
  size = f.size ∙ b.size;
  all = below_more _ _ (λ a below k. f.keeps a (b.all a below k)) (λ k. m);
  only = λ a k. elim (f.only a k) [ inl old ↦ b.only a old | inr e ↦ rw e here ];
  begun = record {
    waits = λ a k. elim (f.fresh a k) [ inl old ↦ f.waits a (b.begun.waits a old) | inr c ↦ c ];
    among = λ a c. elim (f.among a c) [ inl d ↦ f.keeps a (b.begun.among a d) | inr k ↦ k ];
  };
}

pub beginning_on : (marked : List Bool) (n : ℕ) (found : List Bool) (frontier : List ℕ) → (Marked marked n → ⊥) → IsBeginning marked n found frontier → IsBeginning marked (n + 1) found frontier
beginning_on marked n found frontier not_here b =
    record { size = b.size; all = below_more _ _ b.all (λ k. absurd (not_here k)); only = b.only; begun = b.begun }

pub all_begun : (marked : List Bool) (n : ℕ) (found : List Bool) (frontier : List ℕ) → IsBeginning marked n found frontier → length marked ≤ n → (a : ℕ) → Marked marked a → Marked found a
all_begun marked n found frontier b all a m = b.all a (let w = marked_within marked a m in omega arith) m

-- one vertex alone is found, and what leads to it
pub leads_to_one : (edges : List Edge) (marked : List Bool) (v : ℕ) → Marked marked v → ((a : ℕ) → Marked marked a → a ≡ v) → (flags : List Bool)
    → ((a : ℕ) → Marked flags a ↔ LeadsTo edges (Marked marked) a) → (a : ℕ) → Marked flags a ↔ Leads (HasEdge edges) a v
leads_to_one edges marked v here only flags exact a =
    (λ m. let w = (exact a).0 m in subst (Leads (HasEdge edges) a) (only w.0 w.1) w.2, λ walk. (exact a).1 (v, here, walk))

-- the same of any of a set
pub leads_to_same : (edges : List Edge) (P : ℕ → Type 0) (marked : List Bool) → ((a : ℕ) → P a → Marked marked a) → ((a : ℕ) → Marked marked a → P a) → (flags : List Bool)
    → ((a : ℕ) → Marked flags a ↔ LeadsTo edges (Marked marked) a) → (a : ℕ) → Marked flags a ↔ LeadsTo edges P a
leads_to_same edges P marked all only flags exact a =
    (λ m. let w = (exact a).0 m in (w.0, only w.0 w.1, w.2), λ w. (exact a).1 (w.0, all w.0 w.1, w.2))

module _ (edges : List Edge) (P : ℕ → Type 0) (count : ℕ) where
  -- what was found so far is all of P
  pub search_begins : (found : List Bool) (frontier : List ℕ) → length found ≡ count → ((a : ℕ) → P a → Marked found a) → ((a : ℕ) → Marked found a → P a)
      → IsBegun found frontier → IsSearch edges P count found frontier
  search_begins found frontier size all only b = record {
    size = size;
    here = all;
    sound = λ a m. (a, only a m, Leads.Here a);
    shut = λ u t e m. inr (b.waits t m);
    among = b.among;
  }

  -- what is taken from the frontier is a vertex
  pub search_within : (found : List Bool) (frontier rest : List ℕ) (t : ℕ) → frontier ≡ rest ++ t ∷ [] → IsSearch edges P count found frontier → t < length found
  search_within found frontier rest t is s = marked_within found t (s.among t (rw is (Contains-push rest t)))

  -- a vertex is taken from the frontier, and all with an edge to it are found
  pub search_more : (found : List Bool) (frontier rest : List ℕ) (t : ℕ) (found' : List Bool) (frontier' : List ℕ) → frontier ≡ rest ++ t ∷ []
      → IsSearch edges P count found frontier → Finds (λ a. HasEdge edges a t) found rest found' frontier' → ((u : ℕ) → HasEdge edges u t → Marked found' u)
      → IsSearch edges P count found' frontier'
  search_more found frontier rest t found' frontier' is s f all = record {
    size = f.size ∙ s.size;
    here = λ v p. f.keeps v (s.here v p);
    sound = λ a m. elim (f.only a m) [ inl n ↦ s.sound a n | inr e ↦ let on = s.sound t taken in (on.0, on.1, join a t on.0 (one_edge a t e) on.2) ];
    shut = shut;
    among = λ a c. elim (f.among a c) [ inl d ↦ f.keeps a (s.among a (back a d)) | inr m ↦ m ];
  }
    where
      back : (a : ℕ) → Contains rest a → Contains frontier a
      back a c = rw is (Contains-append_left rest (t ∷ []) a c)

      taken : Marked found t
      taken = s.among t (rw is (Contains-push rest t))

      waiting : (w : ℕ) → Contains frontier w → Contains rest w ⊎ (t ≡ w)
      waiting w c = Contains-push_cases rest t w (rw is at c)

      shut : (u w : ℕ) → HasEdge edges u w → Marked found' w → Marked found' u ⊎ Contains frontier' w
      shut u w e m = elim (f.fresh w m) [
        | inl n ↦ elim (s.shut u w e n) [
          | inl o ↦ inl (f.keeps u o)
          | inr c ↦ elim (waiting w c) [ inl d ↦ inr (f.waits w d) | inr same ↦ inl (all u (subst (HasEdge edges u) (sym same) e)) ]
        ]
        | inr c ↦ inr c
      ]

  -- with an empty frontier all was found
  pub search_ends : (found : List Bool) (frontier : List ℕ) → length frontier ≡ 0 → IsSearch edges P count found frontier
      → (a : ℕ) → Marked found a ↔ LeadsTo edges P a
  search_ends found frontier none s a = (s.sound a, λ w. leads_in (Marked found) shut a w.0 w.2 (s.here w.0 w.1))
    where
      shut : (u t : ℕ) → HasEdge edges u t → Marked found t → Marked found u
      shut u t e m = elim (s.shut u t e m) [ inl n ↦ n | inr c ↦ absurd (none_contained t (rw (nil_from_length frontier none) at c)) ]
