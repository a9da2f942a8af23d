-- Edges from each valid token of a queue to the next one: walks along them join all valid tokens.
use Rattle.std.proofs.Common.{◌≡◌, ◌≢◌, ℕ, ◌<◌, Option, Some, None, List, [], ◌∷◌, ◌++◌, length, ◌⊎◌, inl, inr, ⊎_elim, refl, sym, ap, ◌∙◌, subst}
use Rattle.std.proofs.lemmas.List.{append-nil}
use Rattle.std.proofs.lemmas.List.Elements.{Contains-append_left, Contains-push, Contains-push_cases}
use Rattle.cycle_order.specs.Graphs.{HasEdge, edge_of}
use Rattle.cycle_order.specs.declared.graph.Edge.{Edge}
use Rattle.store_laws.specs.Readiness.{In, Before}
use Rattle.store_laws.specs.View.{View, valid_nonce}
use Rattle.store_laws.proofs.views.Queues.{in_more, in_less, before_more, before_less, before_last}
use Rattle.txn_key.specs.declared.id.Token.{Token}
use Rattle.txn_key.specs.declared.id.TxnId.{TxnId}
use Rattle.txn_record.specs.Walks.{Leads}
use Rattle.txn_record.proofs.WalkLaws.{leads_map}
use Rattle.listed_cells.specs.Orders.{IsVertexOf, IsVertexAt, Joins, IsChained, link, later, id_in}

-- walks lead from all valid tokens so far to the last one
abbrev pub IsLast : View → List TxnId → List Edge → List Token → Option ℕ → Type 0
IsLast view ids edges queue None = (x : Token) → In x queue → valid_nonce view x.id ≢ Some x.nonce
IsLast view ids edges queue (Some v) =
    ((x : Token) × In x queue × IsVertexOf view ids x v) × ((x : Token) (u : ℕ) → In x queue → IsVertexOf view ids x u → Leads (HasEdge edges) u v)

-- the edges of the tokens so far, and the last valid one of these
pub record IsChaining (view : View) (ids : List TxnId) (old edges : List Edge) (queue : List Token) (last : Option ℕ) : Type 0 where
  pub chained : IsChained view ids old edges queue
  pub last_is : IsLast view ids edges queue last

module _ (view : View) (ids : List TxnId) (old : List Edge) where
  pub chaining_none : (edges : List Edge) → edges ≡ old → IsChaining view ids old edges [] None
  chaining_none edges e = record {
    chained = record {
      keeps = λ u t h. subst (λ es. HasEdge es u t) (sym e) h;
      sound = λ u t h. inl (subst (λ es. HasEdge es u t) e h);
      complete = λ u t j. absurd j.before;
    };
    last_is = λ x h. absurd h;
  }

  more_join : (queue : List Token) (z : Token) (u t : ℕ) → Joins view ids queue u t → Joins view ids (queue ++ z ∷ []) u t
  more_join queue z u t j = record { x = j.x; y = j.y; from = j.from; to = j.to; before = before_more j.x j.y z queue j.before }

  -- the token at a queue's end stands in it
  pub in_end : (z : Token) (queue : List Token) → In z (queue ++ z ∷ [])
  in_end z [] = inl refl
  in_end z (w ∷ queue) = inr (in_end z queue)

  -- a token before the end of a queue and the token there
  pub last_before : (x z : Token) (queue : List Token) → In x queue → Before x z (queue ++ z ∷ [])
  last_before x z [] h = absurd h
  last_before x z (y ∷ queue) (inl e) = inl (e, in_end z queue)
  last_before x z (y ∷ queue) (inr h) = inr (last_before x z queue h)

  -- a token that isn't valid adds nothing
  past_stale : (edges : List Edge) (queue : List Token) (z : Token) (last : Option ℕ) → valid_nonce view z.id ≢ Some z.nonce
      → IsChaining view ids old edges queue last → IsChaining view ids old edges (queue ++ z ∷ []) last
  past_stale edges queue z last stale c = record {
    chained = record {
      keeps = c.chained.keeps;
      sound = λ u t h. ⊎_elim (λ was. inl was) (λ j. inr (more_join queue z u t j)) (c.chained.sound u t h);
      complete = λ u t j. ⊎_elim
          (λ before. c.chained.complete u t (record { x = j.x; y = j.y; from = j.from; to = j.to; before = before }))
          (λ same. absurd (stale (subst (λ (y : Token). valid_nonce view y.id ≡ Some y.nonce) (sym same) j.to.valid)))
          (before_less j.x j.y z queue j.before);
    };
    last_is = last_still last c.last_is;
  }
    where
      last_still : (last : Option ℕ) → IsLast view ids edges queue last → IsLast view ids edges (queue ++ z ∷ []) last
      last_still None none = λ x h. ⊎_elim (λ there. none x there) (λ same. subst (λ (y : Token). valid_nonce view y.id ≢ Some y.nonce) same stale) (in_less x z queue h)
      last_still (Some v) l =
          ((l.0.0, in_more l.0.0 z queue l.0.1, l.0.2), λ x u h is. ⊎_elim (λ there. l.1 x u there is) (λ same. absurd (stale (subst (λ (y : Token). valid_nonce view y.id ≡ Some y.nonce) (sym same) is.valid))) (in_less x z queue h))

  -- a valid token of t, after the last one so far, where an id has one vertex
  module _ (apart : (v w : ℕ) → v < length ids → w < length ids → id_in ids v ≡ id_in ids w → v ≡ w) (edges : List Edge) (queue : List Token) (z : Token) (t : ℕ) (of_z : IsVertexOf view ids z t) where
    one_vertex : (x : Token) (u : ℕ) → z ≡ x → IsVertexOf view ids x u → u ≡ t
    one_vertex x u same is = apart u t is.within of_z.within (is.is ∙ sym (ap (λ (y : Token). y.id) same) ∙ sym of_z.is)

    -- the first valid token is joined to none
    first_valid : IsChaining view ids old edges queue None → IsChaining view ids old edges (queue ++ z ∷ []) (Some t)
    first_valid c = record {
      chained = record {
        keeps = c.chained.keeps;
        sound = λ u w h. ⊎_elim (λ was. inl was) (λ j. inr (more_join queue z u w j)) (c.chained.sound u w h);
        complete = λ u w j. absurd (c.last_is j.x (before_last j.x j.y z queue j.before) j.from.valid);
      };
      last_is = (
        (z, in_end z queue, of_z),
        λ x u h is. ⊎_elim
            (λ there. absurd (c.last_is x there is.valid))
            (λ same. subst (λ (w : ℕ). Leads (HasEdge edges) w t) (sym (one_vertex x u same is)) (Leads.Here t))
            (in_less x z queue h),
      );
    }

    -- a later one is joined by an edge to the last
    module _ (v : ℕ) (c : IsChaining view ids old edges queue (Some v)) where
      linked : List Edge
      linked = edges ++ edge_of v t ∷ []

      new_edge : HasEdge linked v t
      unfolding linked
      new_edge = Contains-push edges (edge_of v t)

      old_edges : (u w : ℕ) → HasEdge edges u w → HasEdge linked u w
      unfolding linked
      old_edges u w = Contains-append_left edges (edge_of v t ∷ []) (edge_of u w)

      -- whatever stood before leads to the new one
      to_new : (x : Token) (u : ℕ) → In x queue → IsVertexOf view ids x u → Leads (HasEdge linked) u t
      to_new x u h is = Leads.Then u v t (leads_map old_edges u v (c.last_is.1 x u h is)) new_edge

      new_join : Joins view ids (queue ++ z ∷ []) v t
      new_join = record { x = c.last_is.0.0; y = z; from = c.last_is.0.2; to = of_z; before = last_before c.last_is.0.0 z queue c.last_is.0.1 }

      whose : (u w : ℕ) → HasEdge linked u w → HasEdge edges u w ⊎ (edge_of v t ≡ edge_of u w)
      unfolding linked
      whose u w = Contains-push_cases edges (edge_of v t) (edge_of u w)

      next_valid : IsChaining view ids old linked (queue ++ z ∷ []) (Some t)
      next_valid = record {
        chained = record {
          keeps = λ u w h. old_edges u w (c.chained.keeps u w h);
          sound = λ u w h. ⊎_elim
              (λ was. ⊎_elim (λ first. inl first) (λ j. inr (more_join queue z u w j)) (c.chained.sound u w was))
              (λ same. inr (subst (λ (e : Edge). Joins view ids (queue ++ z ∷ []) e.before e.after) same new_join))
              (whose u w h);
          complete = λ u w j. ⊎_elim
              (λ before. leads_map old_edges u w (c.chained.complete u w (record { x = j.x; y = j.y; from = j.from; to = j.to; before = before })))
              (λ same. subst (λ (n : ℕ). Leads (HasEdge linked) u n) (sym (one_vertex j.y w same j.to)) (to_new j.x u (before_last j.x j.y z queue j.before) j.from))
              (before_less j.x j.y z queue j.before);
        };
        last_is = (
          (z, in_end z queue, of_z),
          λ x u h is. ⊎_elim
              (λ there. to_new x u there is)
              (λ same. subst (λ (w : ℕ). Leads (HasEdge linked) w t) (sym (one_vertex x u same is)) (Leads.Here t))
              (in_less x z queue h),
        );
      }

  -- one token on
  pub chaining_more : ((v w : ℕ) → v < length ids → w < length ids → id_in ids v ≡ id_in ids w → v ≡ w)
      → (edges more : List Edge) (queue : List Token) (z : Token) (last vertex : Option ℕ) → IsVertexAt view ids z vertex → more ≡ edges ++ link last vertex
      → IsChaining view ids old edges queue last → IsChaining view ids old more (queue ++ z ∷ []) (later last vertex)
  unfolding linked
  chaining_more apart edges more queue z None None at e c = rw (e, append-nil edges) (past_stale edges queue z None at c)
  chaining_more apart edges more queue z (Some v) None at e c = rw (e, append-nil edges) (past_stale edges queue z (Some v) at c)
  chaining_more apart edges more queue z None (Some t) at e c = rw (e, append-nil edges) (first_valid apart edges queue z t at c)
  chaining_more apart edges more queue z (Some v) (Some t) at e c = rw e (next_valid apart edges queue z t at v c)
