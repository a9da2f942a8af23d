-- The token is added, and the record is prepared.
use Rattle.std.proofs.Common.{◌≡◌, ◌<◌, ℕ, true, [], ◌∷◌, Option, Some, None, is_some, inl, inr, refl, sym, ◌∙◌, subst}
use Rattle.std.specs.FinMap.{get}
use Rattle.txn_key.specs.declared.id.Token.{Token}
use Rattle.txn_key.specs.declared.key.Key.{Key}
use Rattle.txn_record.specs.declared.op.Op.{Op}
use Rattle.txn_record.specs.declared.record.Record.{Record}
use Rattle.txn_record.specs.declared.state.State.TheVariants as state
use Rattle.store_trait.specs.Contents.{Content}
use Rattle.store_trait.specs.Edits.{hit, edited}
use Rattle.store_laws.specs.Readiness.{In, token}
use Rattle.store_laws.specs.Steps.{IsQuiet}
use Rattle.store_laws.specs.View.{look, valid_nonce, IsOn}
use Rattle.store_trait.specs.declared.edit.Edit.TheVariants as edit
use Rattle.store_trait.specs.declared.name.Name.TheVariants as name
use Rattle.store_laws.proofs.cells.AfterEdits.{record_elsewhere, counter_elsewhere, record_edit_queues, add_comes, added_waits}
use Rattle.store_laws.proofs.views.AmongSettled.{alone_same, alone_comes}
use Rattle.store_laws.proofs.steps.DocEdits.{add_quiet}
use Rattle.store_laws.proofs.cells.Hits.{add_hit, add_must}
use Rattle.store_laws.proofs.steps.Nonces.{preparing_none}
use Rattle.store_laws.proofs.steps.PlainEdits.{plain_record, plain_add}
use Rattle.store_laws.proofs.steps.RecordEdits.{prepare_quiet}
use Rattle.txn_runner.proofs.Beside.{record_others, add_others, docs_stay}
use Rattle.txn_runner.specs.Settling.{stored, IsWorth}
use Rattle.txn_runner.specs.declared.stage.Stage.TheVariants as stage
use Rattle.txn_runner.specs.declared.waiting.Waiting.{Waiting}
use Rattle.txn_runner.proofs.OwnCells.{same_some, doc_found, moved_there, move_hits, has_doc}

module _ (c : Content) (txn : Waiting) (op : Op) (one : txn.ops ≡ op ∷ []) where
  on_it : IsOn op.key txn.ops
  on_it = subst (IsOn op.key) (sym one) (inl refl)

  only_key : (key : Key) → IsOn key txn.ops → op.key ≡ key
  only_key key on = by (subst (IsOn key) one on)
    where
      by : IsOn key (op ∷ []) → op.key ≡ key
      by (inl same) = same
      by (inr none) = elim none [ ]

  its : ℕ → Token
  its nonce = token txn.id nonce

  pub queue_hits : (nonce : ℕ) → IsWorth c txn (stage.Queue nonce) → is_some (hit (edit.AddToken (token txn.id nonce)) (name.Doc op.key) (get c (name.Doc op.key))) ≡ true
  queue_hits nonce w = doc_found c w.sound op.key _ (get c (name.Doc op.key)) refl (has_doc c txn op one w.docs) (λ doc there. add_must c op.key (token txn.id nonce) doc there (w.plain.unmarked op.key doc there))

  pub queue_quietly : (nonce : ℕ) → IsWorth c txn (stage.Queue nonce) → IsQuiet c (edited c (name.Doc op.key) (edit.AddToken (token txn.id nonce)))
  unfolding look
  queue_quietly nonce w = add_quiet c op.key (token txn.id nonce) w.sound (record { rec = stored txn state.Preparing None None; there = w.stage.0; on = on_it }) w.stage.1
      (λ same. absurd (none_some (valid_nonce (look c) txn.id) nonce (preparing_none c txn.id (stored txn state.Preparing None None) w.stage.0 refl) same))
    where
      none_some : (o : Option ℕ) (n : ℕ) → o ≡ None → o ≡ Some n → ⊥
      none_some o n p q = cc

  pub queue_worth : (nonce : ℕ) → IsWorth c txn (stage.Queue nonce) → IsWorth (edited c (name.Doc op.key) (edit.AddToken (token txn.id nonce))) txn (stage.Prepare nonce)
  queue_worth nonce w =
      let z = token txn.id nonce in
      let d = edited c (name.Doc op.key) (edit.AddToken z) in
      let quiet = queue_quietly nonce w in
      let plain = plain_add c op.key w.plain z in
      let added = add_hit c op.key z (queue_hits nonce w) in
      record {
        sound = quiet.step.sound;
        plain = plain;
        alone = alone_comes z quiet.step.later.back (add_comes c op.key (w.plain.no_stash op.key) z) w.alone;
        docs = docs_stay c d txn (add_others c txn.id op.key z).docs w.docs;
        stage = (
          record_elsewhere c (name.Doc op.key) (edit.AddToken z) txn.id (λ h. cc h) ∙ w.stage.0,
          subst (λ (n : ℕ). nonce < n) (sym (counter_elsewhere c (name.Doc op.key) (edit.AddToken z) (λ h. cc h))) w.stage.1,
          λ key on. subst (λ (k : Key). In z ((look d).queue_at k)) (only_key key on) (added_waits c d op.key z added (plain.no_stash op.key)),
        );
      }

-- ---- the record is prepared

module _ (c : Content) (txn : Waiting) (nonce : ℕ) (w : IsWorth c txn (stage.Prepare nonce)) where
  pub prepare_hits : is_some (hit (edit.Move state.Preparing state.Prepared (Some nonce) None) (name.Record txn.id) (get c (name.Record txn.id))) ≡ true
  prepare_hits = move_hits c txn state.Preparing state.Prepared None (Some nonce) None None w.stage.0

  pub prepare_quietly : IsQuiet c (edited c (name.Record txn.id) (edit.Move state.Preparing state.Prepared (Some nonce) None))
  prepare_quietly = prepare_quiet c txn.id nonce w.sound w.stage.1 (λ rec key there from on. w.stage.2 key (subst (λ (r : Record). IsOn key r.ops) (same_some _ _ _ w.stage.0 there) on))

  pub prepare_worth : IsWorth (edited c (name.Record txn.id) (edit.Move state.Preparing state.Prepared (Some nonce) None)) txn (stage.Look nonce)
  prepare_worth =
      let e = edit.Move state.Preparing state.Prepared (Some nonce) None in
      record {
        sound = prepare_quietly.step.sound;
        plain = plain_record c txn.id e w.plain;
        alone = alone_same txn.id prepare_quietly.step.later.back (record_edit_queues c txn.id e) w.alone;
        docs = docs_stay c (edited c (name.Record txn.id) e) txn (record_others c txn.id e).docs w.docs;
        stage = moved_there c txn state.Preparing state.Prepared None (Some nonce) None None w.stage.0;
      }
