-- The decision, and what follows it: the update, and the end.
use Rattle.std.proofs.Common.{◌≡◌, ℕ, ℤ, Bool, true, false, List, [], ◌∷◌, Option, Some, None, is_some, inl, refl, sym, ap, ◌∙◌, subst}
use Rattle.std.specs.FinMap.{get}
use Rattle.doc_value.specs.declared.value.Value.{Value}
use Rattle.txn_record.specs.Revnos.{has_effect}
use Rattle.txn_record.specs.declared.entry.Outcome.TheVariants as outcome
use Rattle.txn_record.specs.declared.op.Op.{Op}
use Rattle.txn_record.specs.declared.op.Change.TheVariants as change
use Rattle.txn_record.specs.declared.record.Record.{Record}
use Rattle.txn_record.specs.declared.state.State.{State}
use Rattle.txn_record.specs.declared.state.State.TheVariants as state
use Rattle.store_trait.specs.Contents.{Content}
use Rattle.store_laws.specs.Done.{AllPassed}
use Rattle.store_trait.specs.Edits.{hit, edited}
use Rattle.store_laws.specs.Readiness.{IsReady, token}
use Rattle.store_laws.specs.Steps.{IsQuiet, Applies, Aborts}
use Rattle.store_laws.specs.View.{look}
use Rattle.store_trait.specs.declared.edit.Edit.TheVariants as edit
use Rattle.store_trait.specs.declared.name.Name.TheVariants as name
use Rattle.store_laws.specs.Chains.{IsAt, AppliesUpdate}
use Rattle.store_laws.proofs.cells.AfterEdits.{record_elsewhere, record_edit_queues, update_queues}
use Rattle.store_laws.proofs.views.AmongSettled.{alone_ready, alone_same}
use Rattle.store_laws.proofs.steps.Closing.{close_quiet}
use Rattle.store_laws.proofs.steps.DecidingMoves.{apply_decides, abort_decides}
use Rattle.store_laws.proofs.steps.PlainEdits.{plain_record, plain_update}
use Rattle.store_laws.proofs.steps.RecordEdits.{end_quiet}
use Rattle.store_laws.proofs.steps.UpdateEdits.{update_quiet, update_passes_alone}
use Rattle.txn_runner.proofs.Beside.{record_others, update_others, docs_stay}
use Rattle.txn_runner.specs.Settling.{stored, IsThere, IsWorth, StageIsWorth}
use Rattle.txn_runner.specs.declared.stage.Stage.{Stage}
use Rattle.txn_runner.specs.declared.stage.Stage.TheVariants as stage
use Rattle.txn_runner.specs.declared.waiting.Waiting.{Waiting}
use Rattle.txn_runner.proofs.OwnCells.{same_some, moved_there, move_hits, decided_now}

-- ---- the decision

module _ (c : Content) (txn : Waiting) (nonce : ℕ) (revno : ℤ) where
  pub apply_hits : (holds : Bool) (w : IsWorth c txn (stage.Decide nonce revno holds)) (to : State) (numbers : Option (List ℤ)) → is_some (hit (edit.Move state.Prepared to None numbers) (name.Record txn.id) (get c (name.Record txn.id))) ≡ true
  apply_hits holds w to numbers = move_hits c txn state.Prepared to (Some nonce) None None numbers w.stage.0

  ready_now : (holds : Bool) → IsWorth c txn (stage.Decide nonce revno holds) → IsReady (look c) txn.id
  ready_now holds w = alone_ready w.alone (decided_now c txn nonce w.stage.0)

  pub apply_applies : IsWorth c txn (stage.Decide nonce revno true) → Applies c (edited c (name.Record txn.id) (edit.Move state.Prepared state.Applying None (Some (revno ∷ [])))) (stored txn state.Applying (Some nonce) (Some (revno ∷ [])))
  apply_applies w = apply_decides c txn.id (stored txn state.Prepared (Some nonce) None) w.sound w.stage.0 refl (ready_now true w) (revno ∷ []) w.stage.2 w.stage.1

  pub give_up_aborts : IsWorth c txn (stage.Decide nonce revno false) → Aborts c (edited c (name.Record txn.id) (edit.Move state.Prepared state.Aborting None None)) (stored txn state.Aborting (Some nonce) None)
  give_up_aborts w = abort_decides c txn.id (stored txn state.Prepared (Some nonce) None) w.sound w.stage.0 refl (ready_now false w) w.stage.1

  applied_there : (holds : Bool) → IsWorth c txn (stage.Decide nonce revno holds) → IsThere (edited c (name.Record txn.id) (edit.Move state.Prepared state.Applying None (Some (revno ∷ [])))) txn state.Applying (Some nonce) (Some (revno ∷ []))
  applied_there holds w = moved_there c txn state.Prepared state.Applying (Some nonce) None None (Some (revno ∷ [])) w.stage.0

  pub apply_worth : IsWorth c txn (stage.Decide nonce revno true) → (op : Op) → txn.ops ≡ op ∷ [] → (next : Stage) → (has_effect op.change revno ≡ true → next ≡ stage.Update nonce revno) → (has_effect op.change revno ≡ false → next ≡ stage.Finish)
      → IsWorth (edited c (name.Record txn.id) (edit.Move state.Prepared state.Applying None (Some (revno ∷ [])))) txn next
  apply_worth w op one next changes idle = by (has_effect op.change revno) refl
    where
      stands : (at : Stage) → StageIsWorth (edited c (name.Record txn.id) (edit.Move state.Prepared state.Applying None (Some (revno ∷ [])))) txn at → IsWorth (edited c (name.Record txn.id) (edit.Move state.Prepared state.Applying None (Some (revno ∷ [])))) txn at
      stands at stage = record {
        sound = (apply_applies w).step.sound;
        plain = plain_record c txn.id (edit.Move state.Prepared state.Applying None (Some (revno ∷ []))) w.plain;
        alone = alone_same txn.id (apply_applies w).step.later.back (record_edit_queues c txn.id (edit.Move state.Prepared state.Applying None (Some (revno ∷ [])))) w.alone;
        docs = docs_stay c (edited c (name.Record txn.id) (edit.Move state.Prepared state.Applying None (Some (revno ∷ [])))) txn (record_others c txn.id (edit.Move state.Prepared state.Applying None (Some (revno ∷ [])))).docs w.docs;
        stage = stage;
      }

      by : (t : Bool) → has_effect op.change revno ≡ t → IsWorth (edited c (name.Record txn.id) (edit.Move state.Prepared state.Applying None (Some (revno ∷ [])))) txn next
      by true is = subst (IsWorth (edited c (name.Record txn.id) (edit.Move state.Prepared state.Applying None (Some (revno ∷ [])))) txn) (sym (changes is)) (stands (stage.Update nonce revno) (applied_there true w))
      by false is = subst (IsWorth (edited c (name.Record txn.id) (edit.Move state.Prepared state.Applying None (Some (revno ∷ [])))) txn) (sym (idle is)) (stands stage.Finish (record {
        nonce = nonce;
        revno = revno;
        there = applied_there true w;
        passed = subst (λ (ops : List Op). AllPassed (look (edited c (name.Record txn.id) (edit.Move state.Prepared state.Applying None (Some (revno ∷ []))))) ops (revno ∷ [])) (sym one) (inl is, tt);
      }))

  pub give_up_worth : IsWorth c txn (stage.Decide nonce revno false) → IsWorth (edited c (name.Record txn.id) (edit.Move state.Prepared state.Aborting None None)) txn stage.Abort
  give_up_worth w =
      let e = edit.Move state.Prepared state.Aborting None None in
      record {
        sound = (give_up_aborts w).step.sound;
        plain = plain_record c txn.id e w.plain;
        alone = alone_same txn.id (give_up_aborts w).step.later.back (record_edit_queues c txn.id e) w.alone;
        docs = docs_stay c (edited c (name.Record txn.id) e) txn (record_others c txn.id e).docs w.docs;
        stage = record { nonce = nonce; there = moved_there c txn state.Prepared state.Aborting (Some nonce) None None None w.stage.0 };
      }

-- ---- the update

module _ (c : Content) (txn : Waiting) (op : Op) (one : txn.ops ≡ op ∷ []) (nonce : ℕ) (revno : ℤ) (update : Value) (is : change.Update update ≡ op.change) (w : IsWorth c txn (stage.Update nonce revno)) where
  rec : Record
  rec = stored txn state.Applying (Some nonce) (Some (revno ∷ []))

  stands_there : IsAt op revno txn.ops (revno ∷ [])
  stands_there = subst (λ (ops : List Op). IsAt op revno ops (revno ∷ [])) (sym one) (inl (refl, refl))

  applies : AppliesUpdate c txn.id (stored txn state.Applying (Some nonce) (Some (revno ∷ []))) op revno update
  applies = record { at = record { there = w.stage; applies = refl; numbers = revno ∷ []; numbered = refl; stands = stands_there }; change = sym is }

  pub update_quietly : IsQuiet c (edited c (name.Doc op.key) (edit.Update revno (token txn.id nonce) update))
  update_quietly = update_quiet c txn.id (stored txn state.Applying (Some nonce) (Some (revno ∷ []))) op revno update (token txn.id nonce) w.sound applies

  pub update_worth : IsWorth (edited c (name.Doc op.key) (edit.Update revno (token txn.id nonce) update)) txn stage.Finish
  update_worth =
      let z = token txn.id nonce in
      let e = edit.Update revno z update in
      let d = edited c (name.Doc op.key) e in
      record {
        sound = update_quietly.step.sound;
        plain = plain_update c op.key w.plain revno z update;
        alone = alone_same txn.id update_quietly.step.later.back (update_queues c op.key (w.plain.no_stash op.key) revno z update) w.alone;
        docs = docs_stay c d txn (update_others c txn.id op.key revno z update).docs w.docs;
        stage = record {
          nonce = nonce;
          revno = revno;
          there = record_elsewhere c (name.Doc op.key) e txn.id (λ h. cc h) ∙ w.stage;
          passed = subst (λ (ops : List Op). AllPassed (look d) ops (revno ∷ [])) (sym one)
              (update_passes_alone c w.sound txn.id (stored txn state.Applying (Some nonce) (Some (revno ∷ []))) op revno update applies one nonce refl, tt);
        };
      }

-- ---- the end

module _ (c : Content) (txn : Waiting) where
  pub finish_hits : (w : IsWorth c txn stage.Finish) → is_some (hit (edit.Move state.Applying state.Applied None None) (name.Record txn.id) (get c (name.Record txn.id))) ≡ true
  finish_hits w = move_hits c txn state.Applying state.Applied (Some w.stage.nonce) None (Some (w.stage.revno ∷ [])) None w.stage.there

  pub finish_quietly : IsWorth c txn stage.Finish → IsQuiet c (edited c (name.Record txn.id) (edit.Move state.Applying state.Applied None None))
  finish_quietly w = close_quiet c txn.id w.sound (λ rec revnos there from numbers. passed (same_some _ _ _ w.stage.there there) numbers)
    where
      passed : {rec : Record} {revnos : List ℤ} → rec ≡ stored txn state.Applying (Some w.stage.nonce) (Some (w.stage.revno ∷ [])) → rec.revnos ≡ Some revnos → AllPassed (look c) rec.ops revnos
      passed {rec} {revnos} same numbers =
          subst (λ (r : Record). AllPassed (look c) r.ops revnos) (sym same)
          (subst (AllPassed (look c) txn.ops) (same_some _ _ _ numbers (ap (λ (r : Record). r.revnos) same)) w.stage.passed)

  pub finish_worth : IsWorth c txn stage.Finish → IsWorth (edited c (name.Record txn.id) (edit.Move state.Applying state.Applied None None)) txn (stage.Settled outcome.Applied)
  finish_worth w =
      let e = edit.Move state.Applying state.Applied None None in
      record {
        sound = (finish_quietly w).step.sound;
        plain = plain_record c txn.id e w.plain;
        alone = alone_same txn.id (finish_quietly w).step.later.back (record_edit_queues c txn.id e) w.alone;
        docs = docs_stay c (edited c (name.Record txn.id) e) txn (record_others c txn.id e).docs w.docs;
        stage = record {
          rec = stored txn state.Applied (Some w.stage.nonce) (Some (w.stage.revno ∷ []));
          there = moved_there c txn state.Applying state.Applied (Some w.stage.nonce) None (Some (w.stage.revno ∷ [])) None w.stage.there;
          ends = refl;
          ops = refl;
          info = refl;
        };
      }

  pub abort_hits : (w : IsWorth c txn stage.Abort) → is_some (hit (edit.Move state.Aborting state.Aborted None None) (name.Record txn.id) (get c (name.Record txn.id))) ≡ true
  abort_hits w = move_hits c txn state.Aborting state.Aborted (Some w.stage.nonce) None None None w.stage.there

  pub abort_quietly : IsWorth c txn stage.Abort → IsQuiet c (edited c (name.Record txn.id) (edit.Move state.Aborting state.Aborted None None))
  abort_quietly w = end_quiet c txn.id w.sound

  pub abort_worth : IsWorth c txn stage.Abort → IsWorth (edited c (name.Record txn.id) (edit.Move state.Aborting state.Aborted None None)) txn (stage.Settled outcome.Aborted)
  abort_worth w =
      let e = edit.Move state.Aborting state.Aborted None None in
      record {
        sound = (abort_quietly w).step.sound;
        plain = plain_record c txn.id e w.plain;
        alone = alone_same txn.id (abort_quietly w).step.later.back (record_edit_queues c txn.id e) w.alone;
        docs = docs_stay c (edited c (name.Record txn.id) e) txn (record_others c txn.id e).docs w.docs;
        stage = record {
          rec = stored txn state.Aborted (Some w.stage.nonce) None;
          there = moved_there c txn state.Aborting state.Aborted (Some w.stage.nonce) None None None w.stage.there;
          ends = refl;
          ops = refl;
          info = refl;
        };
      }
