-- The two moves that decide: a ready prepared record starts to apply where its tests hold, and is
-- refused where one fails.
use Rattle.std.proofs.Common.{◌≡◌, ℕ, ℤ, true, false, cond, ◌&&◌, not, Some, None, List, inl, sym, ap, ◌∙◌, refl, subst}
use Rattle.std.specs.Prelude.{option_to_list}
use Rattle.std.specs.FinMap.{insert}
use Rattle.txn_key.specs.declared.id.TxnId.{TxnId}
use Rattle.txn_key.specs.declared.key.Key.{Key}
use Rattle.txn_record.specs.Effects.{tests, changes_fit}
use Rattle.txn_record.specs.States.{was_decided_state, was_prepared_state}
use Rattle.txn_record.specs.declared.op.Op.{Op}
use Rattle.txn_record.specs.declared.record.Record.{Record}
use Rattle.txn_record.specs.declared.state.State.TheVariants as state
use Rattle.store_trait.specs.Contents.{Content}
use Rattle.store_laws.specs.Decisions.{entry_at}
use Rattle.store_trait.specs.Edits.{moved, edited}
use Rattle.store_laws.specs.Later.{IsUndecided}
use Rattle.store_laws.specs.Meaning.{meaning, bodies, not_done}
use Rattle.store_trait.specs.Names.{same_state}
use Rattle.store_laws.specs.Readiness.{IsReady}
use Rattle.store_laws.specs.Soundness.{IsSound, StandsOnChain, PendingFits}
use Rattle.store_laws.specs.Steps.{Applies, Aborts}
use Rattle.store_laws.specs.View.{look, record_at, IsOn, was_decided}
use Rattle.store_trait.specs.declared.cell.Cell.TheVariants as cell
use Rattle.store_trait.specs.declared.edit.Edit.TheVariants as edit
use Rattle.store_trait.specs.declared.name.Name.TheVariants as name
use Rattle.store_laws.specs.Chains.{IsChainFrom}
use Rattle.store_laws.proofs.meanings.Bodies.{get-bodies}
use Rattle.store_laws.proofs.views.Changes.{IsOrderlyStep}
use Rattle.store_laws.proofs.meanings.Decided.{decided_by-put, newly_chosen}
use Rattle.store_laws.proofs.meanings.Effects.{meaning-free, meaning-applied}
use Rattle.store_laws.proofs.views.Exclusive.{none_applying}
use Rattle.store_laws.proofs.meanings.Idle.{NoneApplies}
use Rattle.store_laws.proofs.steps.RecordEdits.{idle, own_id, kept_id, stored_numbers, in_place}
use Rattle.store_laws.proofs.views.KindsOfMove.{apply_step, abort_step}
use Rattle.store_laws.proofs.cells.Looks.{record_looks}
use Rattle.store_laws.proofs.views.Lost.{lost_moved, goes_plainly, goes_applying}
use Rattle.store_laws.proofs.meanings.Meanings.{meaning-put}
use Rattle.store_laws.proofs.cells.Misses.{moves_there}
use Rattle.store_laws.proofs.views.Moves.{put_here}
use Rattle.store_laws.proofs.chains.Numbers.{numbered_applying, numbered_as}
use Rattle.store_laws.proofs.meanings.Fitting.{tested_fits}
use Rattle.store_laws.proofs.chains.Chains.{fresh_begun, stands_begun}
use Rattle.store_laws.proofs.views.Orderly.{orderly}
use Rattle.store_laws.proofs.cells.SoundParts.{sound_put_record}
use Rattle.store_laws.proofs.chains.Done.{done_put}
use Rattle.store_laws.proofs.cells.Entries.{stays_put_record}
use Rattle.store_laws.proofs.cells.Marks.{apart_in_state}
use Rattle.store_laws.proofs.cells.Lookups
use Rattle.store_laws.proofs.views.Views.{chosen_at, decided_at}
use Rattle.store_laws.proofs.cells.Parts.{parts}

-- a prepared record that comes to be decided is the one decision
newly : (c : Content) (at : ℕ) (rec : Record) → was_decided (look c) rec.id ≡ false → was_decided_state rec.state ≡ true → newly_chosen c at rec ≡ Some (entry_at at rec)
newly c at rec was is = λ i. cond (is i && not (was i)) (Some (entry_at at rec)) None

module _ (c : Content) (id : TxnId) (was : Record) (s : IsSound c) (there : record_at c id ≡ Some was) (from : was.state ≡ state.Prepared) (ready : IsReady (look c) id) where
  undecided : IsUndecided (look c) id
  unfolding look
  undecided = record { prepared = decided_at (look c) id was there ∙ ap was_prepared_state from; waits = chosen_at (look c) id was there ∙ ap was_decided_state from }

  unchosen_yet : was_decided (look c) was.id ≡ false
  unchosen_yet = ap (was_decided (look c)) (sym (own_id c id was s there)) ∙ undecided.waits

  -- no applying record is on a key of a ready record that is undecided
  pub free_keys : (key : Key) → IsOn key was.ops → NoneApplies (look c) key
  unfolding look
  free_keys key on other applies has = none_applying (orderly c s) key id other (record { rec = was; there = there; on = on }) has undecided ready applies

  module _ (revnos : List ℤ) (chain : IsChainFrom (look c) was.ops revnos) where
    -- all is still to be done
    fresh : not_done (look c) was.ops revnos ≡ was.ops
    fresh = fresh_begun (look c) was.ops revnos chain

    stands : StandsOnChain (look c) (moved state.Applying None (Some revnos) was)
    stands = record { on_chain = stands_begun (look c) was.ops revnos chain }

    fitting : tests was.ops (meaning c) ≡ true → PendingFits c (moved state.Applying None (Some revnos) was)
    fitting tested =
        ap (λ (ops : List Op). changes_fit ops (bodies c)) fresh
        ∙ tested_fits was.ops (meaning c) (bodies c) (λ key on. meaning-free c s.kinds key (free_keys key on) ∙ sym (get-bodies c key)) tested

    -- Where the tests hold, the move to applying is the one decision, and the meaning becomes the effect.
    pub apply_decides : tests was.ops (meaning c) ≡ true → Applies c (edited c (name.Record id) (edit.Move state.Prepared state.Applying None (Some revnos))) (moved state.Applying None (Some revnos) was)
    unfolding look
    apply_decides tested = subst (λ (d : Content). Applies c d rec) (sym (moves_there c id state.Prepared state.Applying None (Some revnos) was there from)) (record {
      step = record { sound = sound; later = step.later; lost = lost_moved id was rec (record_looks c id rec) there (goes_applying was revnos (stored_numbers c id was s there) from); done = done_put c id rec (λ w revnos t applies numbers applied. absurd (cc applied)); cells = stays_put_record c id rec };
      entry = λ key. inl (Lookups.stash_at-put_record c (cell.Record rec) id key);
      decides = record { before = unchosen_yet; now = ap (record_at d) (sym (own_id c id was s there)) ∙ put_here id rec (record_looks c id rec).puts; state = refl };
      tested = tested;
      means = meaning-applied c id s.kinds was there rec (record_looks c id rec).held (idle c was (ap (same_state state.Applying) from)) fresh free_keys;
      one = λ at. decided_by-put c at id rec s.kinds ∙ ap option_to_list (newly c at rec unchosen_yet refl);
    })
      where
        rec : Record
        rec = moved state.Applying None (Some revnos) was

        d : Content
        d = insert c (name.Record id) (cell.Record rec)

        step : IsOrderlyStep (look c) (look d)
        step = apply_step id was revnos (orderly c s) (record_looks c id rec) there from ready

        sound : IsSound d
        sound = sound_put_record c id rec s step (kept_id c id was s there) (numbered_applying was revnos from chain.in_turn chain.within (stored_numbers c id was s there)) ((parts c s).record_nonces id was there) (apart_in_state c id was state.Prepared there from (λ e. cc e)) (λ applies. (stands, fitting tested))

  -- Where a test fails, the move to aborting is the one decision, and the meaning stays.
  pub abort_decides : tests was.ops (meaning c) ≡ false → Aborts c (edited c (name.Record id) (edit.Move state.Prepared state.Aborting None None)) (moved state.Aborting None None was)
  unfolding look
  abort_decides failed = subst (λ (d : Content). Aborts c d rec) (sym (moves_there c id state.Prepared state.Aborting None None was there from)) (record {
    step = record { sound = sound; later = step.later; lost = lost_moved id was rec (record_looks c id rec) there (goes_plainly was state.Prepared state.Aborting from refl); done = done_put c id rec (λ w revnos t applies numbers applied. absurd (cc applied)); cells = stays_put_record c id rec };
    entry = λ key. inl (Lookups.stash_at-put_record c (cell.Record rec) id key);
    decides = record { before = unchosen_yet; now = ap (record_at d) (sym (own_id c id was s there)) ∙ put_here id rec (record_looks c id rec).puts; state = refl };
    failed = failed;
    means = meaning-put c id rec s.kinds (record_looks c id rec).held (in_place c id was rec there (idle c rec refl ∙ sym (idle c was (ap (same_state state.Applying) from))));
    one = λ at. decided_by-put c at id rec s.kinds ∙ ap option_to_list (newly c at rec unchosen_yet refl);
  })
    where
      rec : Record
      rec = moved state.Aborting None None was

      d : Content
      d = insert c (name.Record id) (cell.Record rec)

      step : IsOrderlyStep (look c) (look d)
      step = abort_step id was (orderly c s) (record_looks c id rec) there from ready

      sound : IsSound d
      sound = sound_put_record c id rec s step (kept_id c id was s there) (numbered_as was state.Prepared state.Aborting from refl refl (stored_numbers c id was s there)) ((parts c s).record_nonces id was there) (apart_in_state c id was state.Prepared there from (λ e. cc e)) (λ applies. absurd (cc applies))
