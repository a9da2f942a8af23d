-- A document is placed under a key that had neither cell.
use Rattle.std.proofs.Common.{is_some, ◌≡◌, ◌≢◌, pos, Bool, true, IsTrue, Option, Some, None, List, [], sym, ap, ap₂, ◌∙◌, refl, subst, if◌then◌else◌, unwrap_or}
use Rattle.std.specs.Option.{option_and_then}
use Rattle.std.specs.FinMap.{get, insert, get-insert}
use Rattle.std.specs.List.{flat_map}
use Rattle.doc_value.specs.declared.value.Value.{Value}
use Rattle.txn_key.proofs.KeyOrder.{key_cmp_total}
use Rattle.txn_key.specs.Keys.{same_key}
use Rattle.txn_key.specs.declared.id.TxnId.{TxnId}
use Rattle.txn_key.specs.declared.key.Key.{Key}
use Rattle.txn_record.specs.Effects.{changes_fit}
use Rattle.txn_record.specs.Revnos.{is_on_chain}
use Rattle.txn_record.specs.declared.op.Op.{Op}
use Rattle.txn_record.specs.declared.record.Record.{Record}
use Rattle.txn_record.specs.declared.state.State.TheVariants as state
use Rattle.store_trait.specs.Cells.{as_record, as_doc}
use Rattle.store_trait.specs.Contents.{Content}
use Rattle.store_trait.specs.Edits.{hit, hit_place, put_under, edited}
use Rattle.store_laws.specs.Meaning.{records, meaning, bodies, pending, pending_of}
use Rattle.store_trait.specs.Names.{same_state}
use Rattle.store_laws.specs.Readiness.{In}
use Rattle.store_laws.specs.Soundness.{IsSound, StandsOnChain, PendingFits}
use Rattle.store_laws.specs.View.{View, Held, Body, look, record_at, doc_at, stash_at, owner_queue, owner_held, held_number, IsOn}
use Rattle.store_trait.specs.declared.cell.Cell.{Cell}
use Rattle.store_trait.specs.declared.cell.Cell.TheVariants as cell
use Rattle.store_trait.specs.declared.edit.Edit.TheVariants as edit
use Rattle.store_trait.specs.declared.name.Name.TheVariants as name
use Rattle.store_laws.specs.Placed.{new_doc, IsPlaced}
use Rattle.store_laws.proofs.views.Shapes.{ChangesHeld}
use Rattle.store_laws.proofs.meanings.Bodies.{body_in, get-bodies}
use Rattle.store_laws.proofs.cells.CellRules.{HasSoundCells, sound_cells, cells_put_doc}
use Rattle.store_laws.proofs.views.Changes.{IsOrderlyStep}
use Rattle.store_laws.proofs.meanings.Decided.{decided_by-same}
use Rattle.store_laws.proofs.meanings.Effects.{meaning-free}
use Rattle.store_laws.proofs.views.Exclusive.{stands_queued}
use Rattle.store_laws.proofs.meanings.Fitting.{changes_fit-agree}
use Rattle.store_laws.proofs.meanings.Idle.{NoneApplies, pending-at, pending_of-keys, on_pending}
use Rattle.store_laws.proofs.views.Equals.{by_key}
use Rattle.store_laws.proofs.cells.Looks.{put, read_put, doc_records, doc_writes}
use Rattle.store_laws.proofs.cells.Marks.{marks_put_doc}
use Rattle.std.proofs.lemmas.Option.{same_Some}
use Rattle.store_trait.specs.declared.cell.DocCell.{DocCell}
use Rattle.store_laws.proofs.meanings.Meanings.{get-meaning}
use Rattle.store_laws.proofs.views.Orderly.{IsOrderly, orderly}
use Rattle.store_laws.proofs.cells.Records.{records-put_other}
use Rattle.store_laws.proofs.meanings.Runs.{same_docs, run_on, same_key-itself}
use Rattle.store_laws.proofs.cells.SoundParts.{HasSoundChains, sound_from}
use Rattle.store_laws.proofs.views.Views.{waiting_if_applying, applying_at}
use Rattle.store_laws.proofs.views.Writes.{place_step}
use Rattle.store_laws.proofs.cells.Parts.{parts, HasMarksAt}

-- nobody applies on a key where no token waits
none_waits : {view : View} → IsOrderly view → (key : Key) → view.queue_at key ≡ [] → NoneApplies view key
none_waits {view = view} o key empty id applies has = subst (In _) empty (stands_queued view o id key has (waiting_if_applying view id applies)).inside

-- an applying record whose keys hold the same

chain_keys : {old new : View} (rec : Record) → ((key : Key) → IsOn key rec.ops → new.held_at key ≡ old.held_at key) → StandsOnChain old rec → StandsOnChain new rec
chain_keys rec same h = record { on_chain = λ key on. subst (λ (held : Held). is_on_chain key (held_number held) rec.ops (unwrap_or rec.revnos []) ≡ true) (sym (same key on)) (h.on_chain key on) }

fits_keys : (c d : Content) (rec : Record) → ((key : Key) → IsOn key rec.ops → (look d).held_at key ≡ (look c).held_at key) → PendingFits c rec → PendingFits d rec
fits_keys c d rec same h =
    ap (λ (ops : List Op). changes_fit ops (bodies d)) (pending_of-keys (look c) (look d) rec same)
    ∙ changes_fit-agree (pending_of (look c) rec) (bodies d) (bodies c) (λ key on. get-bodies d key ∙ ap body_in (same key (on_pending (look c) key rec on).1) ∙ sym (get-bodies c key))
    ∙ h

module _ (c : Content) (key : Key) (body : Value) (s : IsSound c) (no_doc : get c (name.Doc key) ≡ None) (no_stash : stash_at c key ≡ None) where
  abbrev d : Content
  d = put c key (new_doc body)

  doc_gone : doc_at c key ≡ None
  unfolding doc_at
  doc_gone = ap (option_and_then as_doc) no_doc

  queue_before : (look c).queue_at key ≡ []
  unfolding look
  queue_before = ap₂ owner_queue doc_gone no_stash

  change : ChangesHeld (look c) (look d) key
  change = doc_writes c key (new_doc body) (ap (owner_queue (Some (new_doc body))) no_stash ∙ sym (ap₂ owner_queue doc_gone no_stash))

  step : IsOrderlyStep (look c) (look d)
  step = place_step key (orderly c s) change queue_before

  free : NoneApplies (look c) key
  free = none_waits (orderly c s) key queue_before

  same_records : records d ≡ records c
  same_records = records-put_other c (name.Doc key) (cell.Doc (new_doc body)) refl (ap (option_and_then as_record) no_doc)

  cells : HasSoundCells d
  cells = cells_put_doc c key (new_doc body) (sound_cells c s) step.later refl (record { named = λ x h. absurd h; once = λ x h. absurd h }) (λ x h. absurd h)

  -- an unmarked document alone
  marks : (k : Key) → HasMarksAt d k
  marks = marks_put_doc c key (new_doc body) s (record {
    of_doc = λ x mark there marked owns. absurd (cc (ap (λ (x : DocCell). x.remove) (same_Some (new_doc body) x there), marked));
    of_stash = λ e mark there marked owns. absurd (cc (no_stash, there));
    entry = λ e there. absurd (cc (no_stash, there));
  })

  -- no applying record is on the key, so the keys of each hold what they held
  keys_same : (id : TxnId) (rec : Record) → record_at c id ≡ Some rec → IsTrue (same_state state.Applying rec.state) → (k : Key) → IsOn k rec.ops → (look d).held_at k ≡ (look c).held_at k
  unfolding look
  keys_same id rec there applies k on = change.held.held k (λ e. free id (applying_at (look c) id rec there ∙ applies) (record { rec = rec; there = there; on = subst (λ (k : Key). IsOn k rec.ops) e on }))

  was : (id : TxnId) (rec : Record) → record_at d id ≡ Some rec → record_at c id ≡ Some rec
  unfolding look
  was id rec there = sym ((doc_records c key (new_doc body)).records id) ∙ there

  chains : HasSoundChains d
  chains = record {
    on_chain = λ id rec there applies. chain_keys rec (keys_same id rec (was id rec there) applies) ((parts c s).on_chain id rec (was id rec there) applies);
    fits = λ id rec there applies. fits_keys c d rec (keys_same id rec (was id rec there) applies) ((parts c s).fits id rec (was id rec there) applies);
  }

  held_now : (look d).held_at key ≡ Body (pos 0) body
  unfolding look
  held_now =
      read_put c key (new_doc body) owner_held key
      ∙ ap (λ (b : Bool). if b then owner_held (Some (new_doc body)) (stash_at c key) else owner_held (doc_at c key) (stash_at c key)) (same_key-itself key)
      ∙ ap (owner_held (Some (new_doc body))) no_stash

  here : get (meaning d) key ≡ Some body
  here = meaning-free d (λ n x found. (cells n x found).stands) key (none_waits step.orderly key (change.queues.queues key ∙ queue_before)) ∙ ap body_in held_now

  elsewhere : (k : Key) → k ≢ key → get (meaning d) k ≡ get (meaning c) k
  elsewhere k apart =
      let held = change.held.held k apart in
      get-meaning d k
      ∙ ap (λ (recs : List Record). run_on k (flat_map (pending_of (look d)) recs) (body_in ((look d).held_at k))) same_records
      ∙ pending-at (look c) (look d) k held (records c) _
      ∙ ap (λ (h : Held). run_on k (pending c) (body_in h)) held
      ∙ sym (get-meaning c k)

  at_key : (k : Key) → get (meaning d) k ≡ (if same_key k key then Some body else get (meaning c) k)
  at_key k = by_key k key (λ b. get (meaning d) k ≡ (if b then Some body else get (meaning c) k)) (λ e. ap (get (meaning d)) e ∙ here) (elsewhere k)

  -- A document placed under a key with no cell.
  pub placed : IsPlaced c (put c key (new_doc body)) key body
  placed = record {
    sound = sound_from d cells step.orderly marks chains;
    later = step.later;
    means = same_docs (meaning d) (insert (meaning c) key body) (λ k. at_key k ∙ sym (get-insert key_cmp_total (meaning c) key body k));
    none = λ at. decided_by-same c d at s.kinds same_records;
  }

places_at : (c : Content) (key : Key) (body : Value) → IsSound c → stash_at c key ≡ None → (found : Option Cell) → get c (name.Doc key) ≡ found → let h = hit_place (cell.Doc (new_doc body)) (name.Doc key) found in is_some h ≡ true → IsPlaced c (put_under c (name.Doc key) h) key body
places_at c key body s no_stash None e hits = placed c key body s e no_stash
places_at c key body s no_stash (Some x) e hits = cc

-- Placing a new document, where it hits, makes one document more.
pub place_means : (c : Content) (key : Key) (body : Value) → IsSound c → stash_at c key ≡ None → is_some (hit (edit.Place (cell.Doc (new_doc body))) (name.Doc key) (get c (name.Doc key))) ≡ true
    → IsPlaced c (edited c (name.Doc key) (edit.Place (cell.Doc (new_doc body)))) key body
place_means c key body s no_stash hits = places_at c key body s no_stash (get c (name.Doc key)) refl hits
