-- An applying record and one of its operations, at its number.
use Rattle.std.proofs.Common.{◌≡◌, ◌<◌, ◌+◌, true, false, ◌&&◌, Bool, Option, List, ◌⊎◌, inl, inr, ⊎_elim, sym, ap, ◌∙◌, refl, subst, unsigned_abs, unwrap_or, option_map, ℕ, ℤ, arith}
use Rattle.std.proofs.lemmas.Bool.{and_parts}
use Rattle.std.proofs.lemmas.Option.{same_Some}
use Rattle.std.specs.Prelude.{[]}
use Rattle.txn_key.specs.declared.id.TxnId.{TxnId}
use Rattle.txn_key.specs.declared.id.Token.{Token}
use Rattle.txn_key.specs.declared.key.Key.{Key}
use Rattle.txn_record.specs.Revnos.{follows, stays_within, is_within, is_on_chain, has_effect, number_after}
use Rattle.txn_record.specs.declared.op.Change.{Change}
use Rattle.txn_record.specs.declared.op.Op.{Op}
use Rattle.txn_record.specs.declared.record.Record.{Record}
use Rattle.txn_record.specs.declared.state.State.TheVariants as state
use Rattle.store_trait.specs.Names.{same_state}
use Rattle.store_trait.specs.Contents.{Content}
use Rattle.store_laws.specs.Chains.{IsAt, AppliesAt}
use Rattle.store_laws.specs.Done.{HasPassed}
use Rattle.store_laws.specs.Soundness.{IsSound, IsMarkOf}
use Rattle.store_laws.specs.View.{look, record_at, applying, HasKey, IsOn, held_number, epoch_at}
use Rattle.store_laws.proofs.chains.ChainOrder.{same_on_chain}
use Rattle.store_laws.proofs.views.Equals.{same_id_or_not}
use Rattle.store_laws.proofs.views.Exclusive.{one_applying}
use Rattle.store_laws.proofs.meanings.Idle.{OnlyApplies}
use Rattle.store_laws.proofs.chains.Inherits.{at_on, at_leaves, at_within}
use Rattle.store_laws.proofs.chains.NumberAfter.{after_effect}
use Rattle.store_laws.proofs.chains.OneEffect.{one_effect}
use Rattle.store_laws.proofs.views.Orderly.{orderly}
use Rattle.store_laws.proofs.cells.Parts.{parts}
use Rattle.store_laws.proofs.steps.RecordEdits.{stored_numbers}
use Rattle.store_laws.proofs.views.Views.{applying_at}

module _ (c : Content) (s : IsSound c) (id : TxnId) (rec : Record) (op : Op) (revno : ℤ) (a : AppliesAt c id rec op revno) where
  pub is_applying : applying (look c) id ≡ true
  unfolding look
  is_applying = applying_at (look c) id rec a.there ∙ ap (same_state state.Applying) a.applies

  on_key : IsOn op.key rec.ops
  on_key = at_on op revno rec.ops a.numbers a.stands

  pub has_key : HasKey (look c) id op.key
  unfolding look
  has_key = record { rec = rec; there = a.there; on = on_key }

  pub only : OnlyApplies (look c) id op.key
  only other applies has apart = one_applying (orderly c s) op.key other id has has_key applies is_applying apart

  chain : (follows rec.ops a.numbers && stays_within rec.ops a.numbers) ≡ true
  chain = sym (ap (λ (o : Option (List ℤ)). unwrap_or (option_map (λ (l : List ℤ). follows rec.ops l && stays_within rec.ops l) o) true) a.numbered) ∙ (and_parts _ _ (stored_numbers c id rec s a.there)).1

  pub in_turn : follows rec.ops a.numbers ≡ true
  in_turn = (and_parts (follows rec.ops a.numbers) (stays_within rec.ops a.numbers) chain).0

  pub within_ends : (is_within revno ≡ true) × (is_within (number_after op.change revno) ≡ true)
  within_ends = at_within op revno rec.ops a.numbers (and_parts (follows rec.ops a.numbers) (stays_within rec.ops a.numbers) chain).1 a.stands

  pub owner_on_chain : is_on_chain op.key (held_number ((look c).held_at op.key)) rec.ops a.numbers ≡ true
  owner_on_chain =
      sym (ap (λ (o : Option (List ℤ)). is_on_chain op.key (held_number ((look c).held_at op.key)) rec.ops (unwrap_or o [])) a.numbered)
      ∙ ((parts c s).on_chain id rec a.there (ap (same_state state.Applying) a.applies)).on_chain op.key on_key

  -- where the owner is past the number, the operation has passed: the owner is on the chain, too
  pub passed_if_past : unsigned_abs revno < epoch_at (look c) op.key → HasPassed (look c) op revno
  passed_if_past past = by (has_effect op.change revno) refl
    where
      equal_or_less : (m n : ℕ) → m < n → (m + 1 ≡ n) ⊎ (m + 1 < n)
      equal_or_less m n less = grind (arith, less)

      by : (b : Bool) → has_effect op.change revno ≡ b → HasPassed (look c) op revno
      by false idle = inl idle
      by true acts =
          let rises = after_effect op.change revno acts in
          inr (⊎_elim
          (λ equal. inl (same_on_chain op.key (held_number ((look c).held_at op.key)) (number_after op.change revno) rec.ops a.numbers in_turn owner_on_chain (at_leaves op revno rec.ops a.numbers a.stands) (sym (rises ∙ equal))))
          (λ less. inr (subst (λ (n : ℕ). n < epoch_at (look c) op.key) (sym rises) less))
          (equal_or_less _ _ past))

  -- A mark on its key is its own, where it has an effect at the owner's number.
  pub mark_is_own : held_number ((look c).held_at op.key) ≡ revno → has_effect op.change revno ≡ true → (mark : Token) (is_kind : Change → Bool) (m : IsMarkOf (look c) op.key mark is_kind)
      → has_effect m.op.change (held_number ((look c).held_at op.key)) ≡ true → (mark.id ≡ id) × (m.op ≡ op)
  unfolding look
  mark_is_own at acts mark is_kind m also = ⊎_elim (λ e. (e, same_op e)) (λ apart. absurd (only mark.id m_applies m_has apart)) (same_id_or_not mark.id id)
    where
      m_applies : applying (look c) mark.id ≡ true
      m_applies = applying_at (look c) mark.id m.rec m.there ∙ ap (same_state state.Applying) m.applies

      m_has : HasKey (look c) mark.id op.key
      m_has = record { rec = m.rec; there = m.there; on = subst (λ (k : Key). IsOn k m.rec.ops) m.on (at_on m.op _ m.rec.ops m.numbers m.stands) }

      same_op : mark.id ≡ id → m.op ≡ op
      same_op e =
          let same : m.rec ≡ rec = same_Some m.rec rec (sym m.there ∙ ap (record_at c) e ∙ a.there) in
          let numbers : m.numbers ≡ a.numbers = same_Some m.numbers a.numbers (sym m.numbered ∙ ap (λ (r : Record). r.revnos) same ∙ a.numbered) in
          one_effect m.op op revno rec.ops a.numbers in_turn m.on (subst (λ (n : ℤ). has_effect m.op.change n ≡ true) at also) acts
          (subst (λ (r : Record). IsAt m.op revno r.ops a.numbers) same (subst (IsAt m.op revno m.rec.ops) numbers (subst (λ (n : ℤ). IsAt m.op n m.rec.ops m.numbers) at m.stands)))
          a.stands
