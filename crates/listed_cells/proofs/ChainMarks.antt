-- Marks of the vertices whose tokens stand after one of a record that was never prepared.
use Rattle.std.proofs.Common.{◌≡◌, ℕ, ◌<◌, Bool, true, false, not, ◌||◌, Option, Some, None, List, [], ◌∷◌, ◌++◌, length, inl, inr, ⊎_elim, ◌↔◌, IsTrue, refl, sym, ap, ◌∙◌, subst}
use Rattle.store_laws.specs.Readiness.{In}
use Rattle.store_laws.specs.View.{View, valid_nonce, was_prepared}
use Rattle.store_laws.proofs.views.Queues.{in_more, in_less, before_more, before_less, before_last}
use Rattle.txn_key.specs.declared.id.Token.{Token}
use Rattle.txn_key.specs.declared.id.TxnId.{TxnId}
use Rattle.listed_cells.specs.Orders.{IsVertexOf, IsVertexAt, IsBehind, IsMarked, AddsMark, Marked, id_in}
use Rattle.listed_cells.proofs.ChainEdges.{last_before, in_end}

-- some token is of a record that was never prepared
pub record HasUnprepared (view : View) (queue : List Token) : Type 0 where
  pub x : Token
  pub here : In x queue
  pub unprepared : was_prepared view x.id ≡ false

-- the marks of the tokens so far, and whether one of these is of a record that was never prepared
pub record IsMarking (view : View) (ids : List TxnId) (old marks : List Bool) (queue : List Token) (passed : Bool) : Type 0 where
  pub marked : IsMarked view ids old marks queue
  pub passed_is : IsTrue passed ↔ HasUnprepared view queue

module _ (view : View) (ids : List TxnId) (old : List Bool) where
  pub marking_none : (marks : List Bool) → marks ≡ old → IsMarking view ids old marks [] false
  marking_none marks e = record {
    marked = record { size = ap length e; here = λ v. (λ h. inl (subst (λ ms. Marked ms v) e h), λ w. ⊎_elim (λ h. subst (λ ms. Marked ms v) (sym e) h) (λ b. absurd b.before) w) };
    passed_is = (λ h. cc h, λ u. absurd u.here);
  }

  more_behind : (queue : List Token) (z : Token) (v : ℕ) → IsBehind view ids queue v → IsBehind view ids (queue ++ z ∷ []) v
  more_behind queue z v b = record { x = b.x; y = b.y; unprepared = b.unprepared; to = b.to; before = before_more b.x b.y z queue b.before }

  pub vertex_is : ((v w : ℕ) → v < length ids → w < length ids → id_in ids v ≡ id_in ids w → v ≡ w)
      → (z y : Token) (v : ℕ) (vertex : Option ℕ) → IsVertexAt view ids z vertex → z ≡ y → IsVertexOf view ids y v → vertex ≡ Some v
  vertex_is apart z y v None at same is = absurd (at (subst (λ (t : Token). valid_nonce view t.id ≡ Some t.nonce) (sym same) is.valid))
  vertex_is apart z y v (Some t) at same is = ap Some (apart t v at.within is.within (at.is ∙ ap (λ (t : Token). t.id) same ∙ sym is.is))

  pub at_vertex : (z : Token) (v : ℕ) (vertex : Option ℕ) → IsVertexAt view ids z vertex → vertex ≡ Some v → IsVertexOf view ids z v
  at_vertex z v vertex at e = subst (IsVertexAt view ids z) e at

  passed_more : (queue : List Token) (z : Token) (passed prepared : Bool) → prepared ≡ was_prepared view z.id → IsTrue passed ↔ HasUnprepared view queue
      → IsTrue (passed || not prepared) ↔ HasUnprepared view (queue ++ z ∷ [])
  passed_more queue z true prepared e is = (λ h. let u = is.0 refl in record { x = u.x; here = in_more u.x z queue u.here; unprepared = u.unprepared }, λ u. refl)
  passed_more queue z false false e is = (λ h. record { x = z; here = in_end view ids [] z queue; unprepared = sym e }, λ u. refl)
  passed_more queue z false true e is =
      (λ h. cc h, λ u. ⊎_elim (λ there. is.1 (record { x = u.x; here = there; unprepared = u.unprepared })) (λ same. let p = u.unprepared in let q : was_prepared view z.id ≡ was_prepared view u.x.id = ap (λ (t : Token). was_prepared view t.id) same in cc) (in_less u.x z queue u.here))

  -- one token on
  pub marking_more : ((v w : ℕ) → v < length ids → w < length ids → id_in ids v ≡ id_in ids w → v ≡ w)
      → (marks more : List Bool) (queue : List Token) (z : Token) (passed prepared : Bool) (vertex : Option ℕ) → IsVertexAt view ids z vertex → prepared ≡ was_prepared view z.id
      → length more ≡ length marks → AddsMark marks passed vertex more
      → IsMarking view ids old marks queue passed → IsMarking view ids old more (queue ++ z ∷ []) (passed || not prepared)
  marking_more apart marks more queue z passed prepared vertex at prep size adds m = record {
    marked = record {
      size = size ∙ m.marked.size;
      here = λ v. (
        λ h. ⊎_elim
            (λ was. ⊎_elim (λ first. inl first) (λ b. inr (more_behind queue z v b)) ((m.marked.here v).0 was))
            (λ new. let u = m.passed_is.0 new.0 in inr (record { x = u.x; y = z; unprepared = u.unprepared; to = at_vertex z v vertex at new.1; before = last_before view ids [] u.x z queue u.here }))
            ((adds v).0 h),
        λ w. (adds v).1 (⊎_elim
            (λ first. inl ((m.marked.here v).1 (inl first)))
            (λ b. ⊎_elim
            (λ before. inl ((m.marked.here v).1 (inr (record { x = b.x; y = b.y; unprepared = b.unprepared; to = b.to; before = before }))))
            (λ same. inr (m.passed_is.1 (record { x = b.x; here = before_last b.x b.y z queue b.before; unprepared = b.unprepared }), vertex_is apart z b.y v vertex at same b.to))
            (before_less b.x b.y z queue b.before))
            w),
      );
    };
    passed_is = passed_more queue z passed prepared prep m.passed_is;
  }
