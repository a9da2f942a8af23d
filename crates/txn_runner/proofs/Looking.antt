-- The document is looked at: what a read of it answers, and what the decision rests on.
use Rattle.std.proofs.Common.{◌≡◌, ◌<◌, ◌≤◌, ◌+◌, ℕ, ℤ, Bool, true, false, List, [], ◌∷◌, Option, Some, None, is_some, Result, IfOk, IfErr, inl, inr, refl, sym, ap, ◌∙◌, subst, arith, nat_le, unsigned_abs, ◌⊎◌, ◌&&◌}
use Rattle.std.specs.FinMap.{get}
use Rattle.std.specs.Option.{option_and_then, ok_or}
use Rattle.std.proofs.lemmas.Bool.Decides.{nat_tests}
use Rattle.txn_key.specs.declared.key.Key.{Key}
use Rattle.txn_record.specs.Chain.{has_room}
use Rattle.txn_record.specs.Effects.{assertion_holds, change_fits}
use Rattle.txn_record.specs.Revnos.{is_within, number_after}
use Rattle.txn_record.specs.declared.op.Op.{Op}
use Rattle.txn_record.specs.declared.op.Change.{Change}
use Rattle.txn_record.specs.declared.state.State.TheVariants as state
use Rattle.store_trait.specs.Cells.{as_doc}
use Rattle.store_trait.specs.Contents.{Content}
use Rattle.store_laws.specs.View.{look, doc_at, held_number}
use Rattle.store_trait.specs.declared.cell.Cell.{Cell}
use Rattle.store_trait.specs.declared.cell.DocCell.{DocCell}
use Rattle.store_trait.specs.declared.name.Name.TheVariants as name
use Rattle.store_laws.specs.Chains.{IsChainFrom}
use Rattle.store_laws.specs.Held.{body_in}
use Rattle.store_laws.proofs.views.AmongSettled.{alone_ready}
use Rattle.store_laws.proofs.chains.NumberAfter.{after_rises}
use Rattle.store_laws.proofs.meanings.OneOperation.{tests_one, chain_one}
use Rattle.store_laws.proofs.cells.Owners.{doc_held_alone}
use Rattle.txn_runner.specs.Causes.{IsOfStore}
use Rattle.txn_runner.specs.Settling.{stored, IsWorth, MayStop, last_revno}
use Rattle.txn_runner.specs.declared.error.StepError.{StepError}
use Rattle.txn_runner.specs.declared.error.StepError.TheVariants as step
use Rattle.txn_runner.specs.declared.stage.Stage.TheVariants as stage
use Rattle.txn_runner.specs.declared.waiting.Waiting.{Waiting}
use Rattle.txn_runner.proofs.OwnCells.{doc_found, decided_now, has_doc}

within_next : (u : Change) (revno : ℤ) → unsigned_abs revno ≤ last_revno → is_within (number_after u revno) ≡ true
within_next u revno low = by (number_after u revno) (after_rises u revno)
  where
    by : (next : ℤ) → (next ≡ revno) ⊎ (unsigned_abs next ≡ unsigned_abs revno + 1) → is_within next ≡ true
    by next (inl same) = grind (arith, nat_tests, low, ap unsigned_abs same)
    by next (inr more) = grind (arith, nat_tests, low, more)

module _ (c : Content) (txn : Waiting) (op : Op) (one : txn.ops ≡ op ∷ []) (nonce : ℕ) (w : IsWorth c txn (stage.Look nonce)) where
  -- the read finds a document
  pub look_there : is_some (doc_at c op.key) ≡ true
  look_there = doc_found c w.sound op.key _ (get c (name.Doc op.key)) refl (has_doc c txn op one w.docs) (λ doc there. ap is_some there)

  pub look_worth : (doc : DocCell) → doc_at c op.key ≡ Some doc → unsigned_abs doc.revno ≤ last_revno → (holds : Bool) → holds ≡ (assertion_holds op.assert (Some doc.body) && change_fits op.change (Some doc.body)) → IsWorth c txn (stage.Decide nonce doc.revno holds)
  look_worth doc there low holds told =
      let held = doc_held_alone c op.key doc there (w.plain.no_stash op.key) in
      let ready = alone_ready w.alone (decided_now c txn nonce w.stage) in
      record {
        sound = w.sound;
        plain = w.plain;
        alone = w.alone;
        docs = w.docs;
        stage = (
          w.stage,
          tests_one c txn.id (stored txn state.Prepared (Some nonce) None) op w.sound w.stage refl ready one ∙ ap (λ h. assertion_holds op.assert (body_in h) && change_fits op.change (body_in h)) held ∙ sym told,
          subst (λ (ops : List Op). IsChainFrom (look c) ops (doc.revno ∷ [])) (sym one)
              (subst (λ (r : ℤ). IsChainFrom (look c) (op ∷ []) (r ∷ [])) (ap held_number held)
              (chain_one c op w.sound (ap (λ h. is_within (number_after op.change (held_number h))) held ∙ within_next op.change doc.revno low))),
        );
      }

-- the number that was read is past the last, or it is not
pub look_past : (c d : Content) (key copy : Key) (doc : DocCell) → d ≡ c → copy ≡ key → doc_at c key ≡ Some doc → last_revno < unsigned_abs doc.revno → MayStop d (step.RevnoSpent copy)
look_past c d key copy doc same copied there past = record {
  doc = doc;
  there = (λ i. doc_at (same i) (copied i)) ∙ there;
  past = past;
}

within : (n limit : ℕ) → true ≡ nat_le n limit → n ≤ limit
within n limit is = grind (arith, nat_tests)

beyond : (n limit : ℕ) → false ≡ nat_le n limit → limit < n
beyond n limit is = grind (arith, nat_tests)

-- a number at which a chain may begin, or may not
pub look_low : (revno : ℤ) (room : Bool) → room ≡ has_room revno → room ≡ true → unsigned_abs revno ≤ last_revno
look_low revno room is has = within (unsigned_abs revno) last_revno (sym has ∙ is)

pub look_high : (revno : ℤ) (room : Bool) → room ≡ has_room revno → room ≡ false → last_revno < unsigned_abs revno
look_high revno room is lacks = beyond (unsigned_abs revno) last_revno (sym lacks ∙ is)

-- what a read of a document answers
pub found_doc : (c : Content) (key : Key) (found : Option Cell) (error : StepError) (r : Result DocCell StepError) → found ≡ get c (name.Doc key) → r ≡ ok_or (option_and_then as_doc found) error → IfOk r (λ doc. doc_at c key ≡ Some doc)
unfolding doc_at
found_doc c key found error r now is = subst (λ (x : Result DocCell StepError). IfOk x (λ doc. option_and_then as_doc (get c (name.Doc key)) ≡ Some doc)) (sym is) (by (option_and_then as_doc found) (ap (option_and_then as_doc) (sym now)))
  where
    by : (o : Option DocCell) → option_and_then as_doc (get c (name.Doc key)) ≡ o → IfOk (ok_or o error) (λ doc. option_and_then as_doc (get c (name.Doc key)) ≡ Some doc)
    by None e = tt
    by (Some doc) e = e

pub never_missing : (c : Content) (key : Key) (found : Option Cell) (error : StepError) (r : Result DocCell StepError) → found ≡ get c (name.Doc key) → r ≡ ok_or (option_and_then as_doc found) error → is_some (doc_at c key) ≡ true → IfErr r IsOfStore
unfolding doc_at
never_missing c key found error r now is there = subst (λ (x : Result DocCell StepError). IfErr x IsOfStore) (sym is) (by (option_and_then as_doc found) (ap (λ o. is_some (option_and_then as_doc o)) now ∙ there))
  where
    by : (o : Option DocCell) → is_some o ≡ true → IfErr (ok_or o error) IsOfStore
    by None e = absurd (cc)
    by (Some doc) e = tt
