-- The choice among the vertices passed.
use Rattle.std.proofs.Common.{◌≡◌, ℕ, ◌<◌, ◌↔◌, ◌⊎◌, inl, inr, Bool, false, List, Option, Some, None, IfSome, IsNone, length, replicate, sym, ◌∙◌, refl, subst}
use Rattle.std.proofs.lemmas.Bool.{cases_eq, true_from_ne_false, false≢true}
use Rattle.std.proofs.lemmas.List.{length-replicate}
use Rattle.txn_record.proofs.WalkLaws.{join}
use Rattle.cycle_order.proofs.GraphFacts.{below_then, below_one_way, below_apart, unsettled_within, some_ready}
use Rattle.cycle_order.proofs.Searches.{none_marked}
use Rattle.cycle_order.specs.Choice.{ComesFirst, IsLeastAhead, IsFirst, IsFirstOf, IsChoice}
use Rattle.cycle_order.specs.Graphs.{IsGraph, Ancestor, IsUnsettled, AllSettled, IsBelow, IsReady, IsPicked, settled_at}
use Rattle.cycle_order.specs.Search.{Marked}
use Rattle.cycle_order.specs.declared.graph.Graph.{Graph}

-- of what the least unsettled ancestor of a vertex leads to, only it can be ready
pub only_least : (graph : Graph) (v w u : ℕ) → IsLeastAhead graph v w → Ancestor graph w u → IsUnsettled graph u → IsReady graph u → u ≡ w
only_least graph v w u l walk unsettled ready = elim (cases_eq u w) [
  | inl e ↦ e
  | inr differ ↦
      let back : Ancestor graph u w = ready.back w walk (λ e. differ (sym e)) l.unsettled in
      absurd (below_one_way graph u w (ready.least w walk (λ e. differ (sym e)) l.unsettled) (l.least u (join u w v back l.ahead) unsettled differ))
]

-- the list of what is passed grows by vertices of which only w can be ready
record Passes (graph : Graph) (w : ℕ) (passed more : List Bool) : Type 0 where
  pub old_or_least : (u : ℕ) → Marked more u → IsUnsettled graph u → IsReady graph u → Marked passed u ⊎ (u ≡ w)

-- w comes first
first_here : (graph : Graph) (w : ℕ) (passed more : List Bool) (first : Option ℕ) → Passes graph w passed more → w < length graph.ids → ComesFirst graph first w
    → IsFirst graph passed first → IsFirst graph more (Some w)
first_here graph w passed more None p within comes s = record {
  vertex = within;
  unsettled = comes.unsettled;
  ready = comes.ready;
  least = λ u m un r differ. elim (p.old_or_least u m un r) [ inl old ↦ absurd (s u old un r) | inr e ↦ absurd (differ e) ];
}
first_here graph w passed more (Some f) p within comes s = record {
  vertex = within;
  unsettled = comes.unsettled;
  ready = comes.ready;
  least = λ u m un r differ. elim (p.old_or_least u m un r) [ inl old ↦ lesser u old un r (cases_eq u f) | inr e ↦ absurd (differ e) ];
}
  where
    lesser : (u : ℕ) → Marked passed u → IsUnsettled graph u → IsReady graph u → (u ≡ f) ⊎ (u ≡ f → ⊥) → IsBelow graph w u
    lesser u old un r (inl e) = subst (IsBelow graph w) (sym e) comes.below
    lesser u old un r (inr ne) = below_then graph w f u comes.below (s.least u old un r ne)

-- w doesn't come first
first_on : (graph : Graph) → IsGraph graph → (w : ℕ) (passed more : List Bool) (first : Option ℕ) → Passes graph w passed more → w < length graph.ids
    → (ComesFirst graph first w → ⊥) → IsFirst graph passed first → IsFirst graph more first
first_on graph g w passed more None p within not_first s = λ u m un r. elim (p.old_or_least u m un r) [
  | inl old ↦ s u old un r
  | inr e ↦ not_first (record { unsettled = subst (IsUnsettled graph) e un; below = tt; ready = subst (IsReady graph) e r })
]
first_on graph g w passed more (Some f) p within not_first s = record {
  vertex = s.vertex;
  unsettled = s.unsettled;
  ready = s.ready;
  least = λ u m un r differ. elim (p.old_or_least u m un r) [
    | inl old ↦ s.least u old un r differ
    | inr e ↦ elim (below_apart graph g f u s.vertex (unsettled_within graph g u un) (λ same. differ (sym same))) [
      | inl below ↦ below
      | inr above ↦ absurd (not_first (record {
        unsettled = subst (IsUnsettled graph) e un;
        below = subst (λ n. IsBelow graph n f) e above;
        ready = subst (IsReady graph) e r;
      }))
    ]
  ];
}

-- What one look passes: what was passed, and what the least vertex leads to.
module _ (graph : Graph) (g : IsGraph graph) (v w : ℕ) (l : IsLeastAhead graph v w) (passed behind more : List Bool) (first : Option ℕ)
    (c : IsChoice graph passed first) (size : length more ≡ length passed)
    (only : (a : ℕ) → Marked more a → Marked passed a ⊎ Marked behind a) (is_behind : (a : ℕ) → Marked behind a → Ancestor graph w a) where
  passes : Passes graph w passed more
  passes = record {
    old_or_least = λ u m un r. elim (only u m) [ inl old ↦ inl old | inr b ↦ inr (only_least graph v w u l (is_behind u b) un r) ];
  }

  first_more : (chosen : Option ℕ) → IsFirstOf graph first w chosen → IsFirst graph more chosen
  first_more chosen of = elim of [
    | inl here ↦ rw here.1 (first_here graph w passed more first passes l.vertex here.0 c.first_is)
    | inr on ↦ rw on.1 (first_on graph g w passed more first passes l.vertex on.0 c.first_is)
  ]

  pub choice_more : (chosen : Option ℕ) → IsFirstOf graph first w chosen → IsChoice graph more chosen
  choice_more chosen of = record { size = size ∙ c.size; first_is = first_more chosen of }

-- nothing is passed yet
pub choice_none : (graph : Graph) (passed : List Bool) (n : ℕ) → passed ≡ replicate n false → n ≡ length graph.ids → IsChoice graph passed None
choice_none graph passed n e size = rw e (record {
  size = length-replicate n false ∙ size;
  first_is = λ w m u r. none_marked n w m;
})

pub first_within : (graph : Graph) (passed : List Bool) (first : Option ℕ) → IsChoice graph passed first → IfSome first (λ w. w < length graph.ids)
first_within graph passed None c = tt
first_within graph passed (Some v) c = c.first_is.vertex

-- every unsettled vertex was passed
pub picked_all : (graph : Graph) → IsGraph graph → (passed : List Bool) (first : Option ℕ) → IsChoice graph passed first
    → ((v : ℕ) → v < length graph.ids → IsUnsettled graph v → Marked passed v) → IfSome first (IsPicked graph)
picked_all graph g passed None c all = tt
picked_all graph g passed (Some v) c all = record {
  vertex = c.first_is.vertex;
  unsettled = c.first_is.unsettled;
  ready = c.first_is.ready;
  least = λ w u. c.first_is.least w (all w (unsettled_within graph g w u) u) u;
}

pub none_all : (graph : Graph) → IsGraph graph → (passed : List Bool) (first : Option ℕ) → IsChoice graph passed first
    → ((v : ℕ) → v < length graph.ids → IsUnsettled graph v → Marked passed v) → IsNone first ↔ AllSettled graph
none_all graph g passed None c all =
    (λ h v. true_from_ne_false (settled_at graph v) (some_ready graph g (λ w u. c.first_is w (all w (unsettled_within graph g w u) u) u) v), λ h. refl)
none_all graph g passed (Some v) c all = (λ h. absurd cc, λ h. absurd (false≢true (sym c.first_is.unsettled ∙ h v)))
