-- What the edits of a preparation come to.
use Rattle.std.proofs.Common.{◌≡◌, ◌≢◌, ℕ, ◌+◌, ◌-◌, ◌≤◌, nat_lt, nat_le, Bool, true, false, cond, Option, Some, None, is_some, unwrap_or, Result, Ok, Err, inl, ⊎_elim, sym, ap, ◌∙◌, refl, subst, arith, true≢false}
use Rattle.std.proofs.lemmas.Bool.Decides.{nat_tests}
use Rattle.std.proofs.lemmas.Option.{same_Some}
use Rattle.std.specs.FinMap.{get}
use Rattle.std.specs.Option.{option_and_then}
use Rattle.txn_key.specs.declared.id.Token.{Token}
use Rattle.txn_key.specs.declared.id.TxnId.{TxnId}
use Rattle.txn_key.specs.declared.key.Key.{Key}
use Rattle.txn_record.specs.States.{was_prepared_state}
use Rattle.txn_record.specs.declared.record.Record.{Record}
use Rattle.txn_record.specs.declared.state.State.{State}
use Rattle.txn_record.specs.declared.state.State.TheVariants as state
use Rattle.store_trait.specs.Cells.{as_record, as_doc, as_counter}
use Rattle.store_trait.specs.Contents.{Content}
use Rattle.store_trait.specs.Edits.{hit, hit_draw_nonce, puts, nonce_limit, with_token, edited}
use Rattle.store_trait.specs.declared.cell.Cell.{Cell}
use Rattle.store_trait.specs.declared.cell.Cell.TheVariants as cell
use Rattle.store_trait.specs.declared.cell.DocCell.{DocCell}
use Rattle.store_trait.specs.declared.edit.Edit.{Edit}
use Rattle.store_trait.specs.declared.edit.Edit.TheVariants as edit
use Rattle.store_trait.specs.declared.edit.Edited.{Edited}
use Rattle.store_trait.specs.declared.name.Name.{Name}
use Rattle.store_trait.specs.declared.name.Name.TheVariants as name
use Rattle.store_laws.specs.Hits.{HasAdded}
use Rattle.store_laws.specs.Known.{HasNoDocAlone}
use Rattle.store_laws.specs.Nonces.{NoncesStay}
use Rattle.store_laws.specs.Queues.{QueuesStay, AddsAtEnd}
use Rattle.store_laws.specs.Readiness.{token, In}
use Rattle.store_laws.specs.Soundness.{IsSound}
use Rattle.store_laws.specs.Steps.{IsQuiet}
use Rattle.store_laws.specs.View.{look, record_at, doc_at, counter, valid_nonce, was_prepared, state_passes, HasKey, IsOn}
use Rattle.store_laws.proofs.cells.AfterEdits.{record_edit_queues, nonce_edit_queues}
use Rattle.store_laws.proofs.cells.Hits.{add_hit, draw_hit, move_hit, move_must}
use Rattle.store_laws.proofs.cells.Misses.{miss_leaves}
use Rattle.store_laws.proofs.steps.DocEdits.{draw_quiet, add_quiet}
use Rattle.store_laws.proofs.steps.EntryEdits.{add_entry_quiet, added_entry_waits}
use Rattle.store_laws.proofs.steps.Growing.{doc_grows, entry_grows}
use Rattle.store_laws.proofs.steps.Nonces.{nonce_below, doc_nonces, stash_nonces, draw_nonces, move_comes}
use Rattle.store_laws.proofs.steps.RecordEdits.{prepare_quiet}
use Rattle.store_laws.proofs.views.Queues.{in_put}
use Rattle.flush_prepare.specs.Draws.{drawn_of}
use Rattle.flush_prepare.specs.Moments.{WasStored}
use Rattle.flush_prepare.specs.Preparations.{name_at, edit_at, begun, key_done, drawn_answer, after_drawn, drawn_in, added_answer, after_added, moved_answer, edit_answer_at, after_edit_at}
use Rattle.flush_prepare.specs.PrepareFacts.{nonce_at, IsDone, IsQueueing, PlaceIsWorth, IsPreparing, MayStop, ComesTo}
use Rattle.flush_prepare.specs.declared.error.StepError.{StepError}
use Rattle.flush_prepare.specs.declared.error.StepError.TheVariants as step
use Rattle.flush_prepare.specs.declared.prepare.Place.{Place}
use Rattle.flush_prepare.specs.declared.prepare.Place.TheVariants.{Draw, Document, Entry, AddToDocument, AddToEntry, EntryAgain, Move}
use Rattle.flush_prepare.specs.declared.prepare.Prepare.{Prepare}
use Rattle.flush_prepare.specs.declared.prepare.PrepareStep.{PrepareStep}
use Rattle.flush_prepare.specs.declared.prepare.PrepareStep.TheVariants.{More, Ready}
use Rattle.flush_prepare.proofs.Preparing.{Comes, prepare_lasts, since_quiet, counted_later, done_later, queueing_later, come_same, begun_worth, done_worth}
use Rattle.flush_prepare.proofs.Records.{stored_step, moment_now, stored_has_key}

-- ---- a nonce is drawn

-- what a draw shows: the nonce that was the counter before, or that none is left
record Shows (c d : Content) (r : Result ℕ StepError) : Type 0 where
  drawn : (nonce : ℕ) → r ≡ Ok nonce → (nonce ≡ counter c) × (counter d ≡ counter c + 1)
  stops : (error : StepError) → r ≡ Err error → MayStop d error

shows_ok : (c d : Content) (n : ℕ) → n ≡ counter c → counter d ≡ counter c + 1 → Shows c d (Ok n)
shows_ok c d n same now = record { drawn = λ nonce e. (sym (same_ok n nonce (Ok n) refl e) ∙ same, now); stops = λ error e. absurd (cc e) }
  where
    same_ok : (a b : ℕ) (r : Result ℕ StepError) → r ≡ Ok a → r ≡ Ok b → a ≡ b
    same_ok a b r p q = cc

shows_spent : (c d : Content) → nonce_limit ≤ counter d → Shows c d (Err step.NoncesSpent)
shows_spent c d last = record { drawn = λ nonce e. absurd (cc e); stops = λ error e. subst (MayStop d) (same_err step.NoncesSpent error (Err step.NoncesSpent) refl e) last }
  where
    same_err : (a b : StepError) (r : Result ℕ StepError) → r ≡ Err a → r ≡ Err b → a ≡ b
    same_err a b r p q = cc

module _ (c d : Content) (id : TxnId) where
  by_hit : (o : Option ℕ) → unwrap_or o 0 ≡ counter d → counter d ≡ counter c + 1 → Shows c d (drawn_of id true o)
  by_hit None e now = absurd (omega (arith, e, now))
  by_hit (Some m) e now = by (nat_lt 0 m) refl
    where
      by : (t : Bool) → nat_lt 0 m ≡ t → Shows c d (cond t (Ok (m - 1)) (Err (step.Clash id name.Nonce)))
      by true more = shows_ok c d (m - 1) (omega (arith, e, now)) now
      by false none = absurd (grind (arith, nat_tests, e, now, none))

  by_miss : (m : ℕ) → m ≡ counter d → nonce_limit ≤ m → Shows c d (drawn_of id false (Some m))
  by_miss m e last = by (nat_le nonce_limit m) refl
    where
      by : (t : Bool) → nat_le nonce_limit m ≡ t → Shows c d (cond t (Err step.NoncesSpent) (Err (step.Clash id name.Nonce)))
      by true le = shows_spent c d (subst (λ (n : ℕ). nonce_limit ≤ n) e last)
      by false none = absurd (grind (arith, nat_tests, none, last))

-- a counter that a draw misses stands at its end
missed_at : (c : Content) → IsSound c → (found : Option Cell) → get c name.Nonce ≡ found → is_some (hit_draw_nonce name.Nonce found) ≡ false → (m : ℕ) × (found ≡ Some (cell.Nonce m)) × (nonce_limit ≤ m)
missed_at c s None e miss = cc
missed_at c s (Some (cell.Record rec)) e miss = absurd (cc (s.kinds name.Nonce (cell.Record rec) e))
missed_at c s (Some (cell.Doc doc)) e miss = absurd (cc (s.kinds name.Nonce (cell.Doc doc) e))
missed_at c s (Some (cell.Stash stash)) e miss = absurd (cc (s.kinds name.Nonce (cell.Stash stash) e))
missed_at c s (Some (cell.Nonce m)) e miss = (m, refl, by (nat_lt m nonce_limit) refl miss)
  where
    by : (t : Bool) → nat_lt m nonce_limit ≡ t → is_some (cond t (puts (cell.Nonce (m + 1))) None) ≡ false → nonce_limit ≤ m
    by true less h = absurd (cc h)
    by false past h = grind (arith, nat_tests, past)

draw_shows : (c : Content) (id : TxnId) → IsSound c → let d = edited c name.Nonce edit.DrawNonce in (t : Bool) → is_some (hit edit.DrawNonce name.Nonce (get c name.Nonce)) ≡ t → Shows c d (drawn_of id t (option_and_then as_counter (get d name.Nonce)))
unfolding counter
draw_shows c id s true hits = by_hit c (edited c name.Nonce edit.DrawNonce) id (option_and_then as_counter (get (edited c name.Nonce edit.DrawNonce) name.Nonce)) refl (draw_hit c hits).now
draw_shows c id s false miss =
    let d = edited c name.Nonce edit.DrawNonce in
    let at = missed_at c s (get c name.Nonce) refl miss in
    let same : d ≡ c = miss_leaves c name.Nonce edit.DrawNonce miss in
    let there : get d name.Nonce ≡ Some (cell.Nonce at.0) = ap (λ (x : Content). get x name.Nonce) same ∙ at.1 in
    subst (λ (o : Option Cell). Shows c d (drawn_of id false (option_and_then as_counter o))) (sym there) (by_miss c d id at.0 (sym (ap (λ (o : Option Cell). unwrap_or (option_and_then as_counter o) 0) there)) at.2)

-- what an edit of that name came to, as a store that tells answers it
pub record IsTold (c d : Content) (n : Name) (change : Edit) (done : Edited) : Type 0 where
  pub hit : done.hit ≡ is_some (hit change n (get c n))
  pub cell : done.cell ≡ get d n

module _ (c : Content) (prepare : Prepare) (worth : IsPreparing c prepare) where
  -- where no nonce is given, what is known lasts
  unchanged : (d : Content) → IsQuiet c d → NoncesStay (look c) (look d) → IsPreparing d prepare
  unchanged d quiet stay = prepare_lasts c d prepare (since_quiet c d quiet) (λ n drawn valid. sym (stay.same prepare.rec.id) ∙ valid) worth

  -- the nonce drawn is nobody's
  fresh : (d : Content) (n : ℕ) → NoncesStay (look c) (look d) → n ≡ counter c → valid_nonce (look d) prepare.rec.id ≢ Some n
  fresh d n stay same valid = absurd (omega (arith, nonce_below c prepare.rec.id n worth.sound (sym (stay.same prepare.rec.id) ∙ valid), same))

  draws : (done : Edited) → IsTold c (edited c name.Nonce edit.DrawNonce) name.Nonce edit.DrawNonce done → PlaceIsWorth c prepare Draw
      → Comes c (edited c name.Nonce edit.DrawNonce) prepare None (drawn_answer (drawn_in prepare done)) (after_drawn prepare (drawn_in prepare done))
  draws done told ahead = by (drawn_in prepare done) shows
    where
      d : Content
      d = edited c name.Nonce edit.DrawNonce

      quiet : IsQuiet c (edited c name.Nonce edit.DrawNonce)
      quiet = draw_quiet c worth.sound

      shows : Shows c (edited c name.Nonce edit.DrawNonce) (drawn_in prepare done)
      shows = subst (λ (o : Option Cell). Shows c (edited c name.Nonce edit.DrawNonce) (drawn_of prepare.rec.id done.hit (option_and_then as_counter o))) (sym told.cell) (draw_shows c prepare.rec.id worth.sound done.hit (sym told.hit))

      stay : NoncesStay (look c) (look (edited c name.Nonce edit.DrawNonce))
      stay = draw_nonces c edit.DrawNonce

      by : (r : Result ℕ StepError) → Shows c (edited c name.Nonce edit.DrawNonce) r → Comes c (edited c name.Nonce edit.DrawNonce) prepare None (drawn_answer r) (after_drawn prepare r)
      by (Ok n) s = record {
        quiet = quiet;
        gives = come_same prepare.rec.id None stay;
        queues = record { same = (nonce_edit_queues c edit.DrawNonce).queues };
        worth = begun_worth (edited c name.Nonce edit.DrawNonce) prepare quiet.step.sound (stored_step c _ prepare.rec quiet.step worth.stored) worth.own n
            (record { counted = omega (arith, (s.drawn n refl).0, (s.drawn n refl).1); free = fresh _ n stay (s.drawn n refl).0; done = λ key on. inl (ahead key on) });
        comes = tt;
      }
      by (Err error) s = record {
        quiet = quiet;
        gives = come_same prepare.rec.id None stay;
        queues = record { same = (nonce_edit_queues c edit.DrawNonce).queues };
        worth = unchanged (edited c name.Nonce edit.DrawNonce) quiet stay;
        comes = s.stops error refl;
      }

  -- the edit of a place is the one that was made
  by_edit : (own change : Edit) → own ≡ change → (n : Name) (nonce : Option ℕ) (answer : Edited → Result PrepareStep StepError) (after : Edited → Prepare) (done : Edited)
      → (IsTold c (edited c n own) n own done → Comes c (edited c n own) prepare nonce (answer done) (after done)) → IsTold c (edited c n change) n change done → Comes c (edited c n change) prepare nonce (answer done) (after done)
  by_edit own change same n nonce answer after done comes = subst (λ (e : Edit). IsTold c (edited c n e) n e done → Comes c (edited c n e) prepare nonce (answer done) (after done)) same comes

  present : IsOn prepare.key prepare.rec.ops
  present = worth.own prepare.key (inl refl)

  -- what an addition rests on, and what follows from it
  module _ (nonce : ℕ) (queueing : IsQueueing c prepare nonce) (d : Content) (quiet : IsQuiet c d) (stay : NoncesStay (look c) (look d)) where
    stored : WasStored d prepare.rec
    stored = stored_step c d prepare.rec quiet.step worth.stored

    goes_on : IsQueueing d prepare nonce
    goes_on = queueing_later c d prepare nonce quiet.step (λ valid. queueing.free (sym (stay.same prepare.rec.id) ∙ valid)) queueing

    starts : IsPreparing d (begun prepare nonce)
    starts = begun_worth d prepare quiet.step.sound stored worth.own nonce goes_on

    ends : IsDone d prepare nonce prepare.key → IsPreparing d (key_done prepare nonce)
    ends here = done_worth d prepare quiet.step.sound stored worth.own nonce goes_on here

    added : (queues : AddsAtEnd (look c) (look d) prepare.key (token prepare.rec.id nonce)) (next : Prepare) → IsPreparing d next → Comes c d prepare (Some nonce) (Ok More) next
    added queues next w = record { quiet = quiet; gives = come_same prepare.rec.id (Some nonce) stay; queues = queues; worth = w; comes = tt }

  its : ℕ → Edit
  its nonce = edit.AddToken (token prepare.rec.id nonce)

  adds_to_doc : (nonce : ℕ) (done : Edited) → let d = edited c (name.Doc prepare.key) (edit.AddToken (token prepare.rec.id nonce)) in IsTold c d (name.Doc prepare.key) (edit.AddToken (token prepare.rec.id nonce)) done → IsQueueing c prepare nonce
      → Comes c d prepare (Some nonce) (added_answer prepare done.hit (option_and_then as_doc done.cell)) (after_added prepare nonce done.hit (option_and_then as_doc done.cell))
  unfolding doc_at
  adds_to_doc nonce done told queueing = by done.hit (sym told.hit) (option_and_then as_doc done.cell) (ap (option_and_then as_doc) told.cell)
    where
      z : Token
      z = token prepare.rec.id nonce

      quiet : IsQuiet c (edited c (name.Doc prepare.key) (edit.AddToken (token prepare.rec.id nonce)))
      quiet = add_quiet c prepare.key (token prepare.rec.id nonce) worth.sound (stored_has_key c prepare.rec prepare.key worth.stored present) queueing.counted queueing.free

      stay : NoncesStay (look c) (look (edited c (name.Doc prepare.key) (edit.AddToken (token prepare.rec.id nonce))))
      stay = doc_nonces c prepare.key (edit.AddToken (token prepare.rec.id nonce))

      more : (next : Prepare) → IsPreparing (edited c (name.Doc prepare.key) (edit.AddToken (token prepare.rec.id nonce))) next → Comes c (edited c (name.Doc prepare.key) (edit.AddToken (token prepare.rec.id nonce))) prepare (Some nonce) (Ok More) next
      more next w = added nonce queueing _ quiet stay (doc_grows c prepare.key (token prepare.rec.id nonce)) next w

      by_doc : (was : HasAdded c (edited c (name.Doc prepare.key) (edit.AddToken (token prepare.rec.id nonce))) prepare.key (token prepare.rec.id nonce)) (o : Option DocCell) → o ≡ option_and_then as_doc (get (edited c (name.Doc prepare.key) (edit.AddToken (token prepare.rec.id nonce))) (name.Doc prepare.key))
          → Comes c (edited c (name.Doc prepare.key) (edit.AddToken (token prepare.rec.id nonce))) prepare (Some nonce) (added_answer prepare true o) (after_added prepare nonce true o)
      by_doc was None e = absurd (cc (e, was.now))
      by_doc was (Some doc) e =
          let same : record was.doc { queue = with_token (token prepare.rec.id nonce) was.doc.queue } ≡ doc = same_Some _ doc (sym was.now ∙ sym e) in
          let stored_there = stored nonce queueing _ quiet stay in
          let on = goes_on nonce queueing _ quiet stay in
          more _ (record {
            sound = quiet.step.sound;
            stored = stored_there;
            own = worth.own;
            place = (
              record { counted = on.counted; free = on.free; done = on.done },
              record {
                doc = doc;
                read = record { moment = moment_now _ prepare.rec quiet.step.sound stored_there; read = sym e };
                number = refl;
                waits = subst (λ (x : DocCell). In (token prepare.rec.id nonce) x.queue) same (in_put (token prepare.rec.id nonce) was.doc.queue);
              },
            );
          })

      by : (t : Bool) → is_some (hit (edit.AddToken (token prepare.rec.id nonce)) (name.Doc prepare.key) (get c (name.Doc prepare.key))) ≡ t → (o : Option DocCell) → o ≡ option_and_then as_doc (get (edited c (name.Doc prepare.key) (edit.AddToken (token prepare.rec.id nonce))) (name.Doc prepare.key))
          → Comes c (edited c (name.Doc prepare.key) (edit.AddToken (token prepare.rec.id nonce))) prepare (Some nonce) (added_answer prepare t o) (after_added prepare nonce t o)
      by false misses o e = more _ (starts nonce queueing _ quiet stay)
      by true hits o e = by_doc (add_hit c prepare.key (token prepare.rec.id nonce) hits) o e

  adds_to_entry : (nonce : ℕ) (done : Edited) → let d = edited c (name.Stash prepare.key) (edit.AddToken (token prepare.rec.id nonce)) in IsTold c d (name.Stash prepare.key) (edit.AddToken (token prepare.rec.id nonce)) done → IsQueueing c prepare nonce → HasNoDocAlone c prepare.key
      → Comes c d prepare (Some nonce) (Ok More) (cond done.hit (key_done prepare nonce) (begun prepare nonce))
  adds_to_entry nonce done told queueing alone = by done.hit (sym told.hit)
    where
      has : HasKey (look c) prepare.rec.id prepare.key
      has = stored_has_key c prepare.rec prepare.key worth.stored present

      quiet : IsQuiet c (edited c (name.Stash prepare.key) (edit.AddToken (token prepare.rec.id nonce)))
      quiet = add_entry_quiet c prepare.key (token prepare.rec.id nonce) worth.sound has queueing.counted queueing.free alone

      stay : NoncesStay (look c) (look (edited c (name.Stash prepare.key) (edit.AddToken (token prepare.rec.id nonce))))
      stay = stash_nonces c prepare.key (edit.AddToken (token prepare.rec.id nonce))

      more : (next : Prepare) → IsPreparing (edited c (name.Stash prepare.key) (edit.AddToken (token prepare.rec.id nonce))) next → Comes c (edited c (name.Stash prepare.key) (edit.AddToken (token prepare.rec.id nonce))) prepare (Some nonce) (Ok More) next
      more next w = added nonce queueing _ quiet stay (entry_grows c prepare.key (token prepare.rec.id nonce) worth.sound alone) next w

      by : (t : Bool) → is_some (hit (edit.AddToken (token prepare.rec.id nonce)) (name.Stash prepare.key) (get c (name.Stash prepare.key))) ≡ t
          → Comes c (edited c (name.Stash prepare.key) (edit.AddToken (token prepare.rec.id nonce))) prepare (Some nonce) (Ok More) (cond t (key_done prepare nonce) (begun prepare nonce))
      by false misses = more _ (starts nonce queueing _ quiet stay)
      by true hits = more _ (ends nonce queueing _ quiet stay (inl (added_entry_waits c prepare.key (token prepare.rec.id nonce) worth.sound has queueing.counted queueing.free alone hits)))

  -- ---- the record is moved on

  moves : (nonce : ℕ) (done : Edited) → prepare.place ≡ Move nonce → let change = edit.Move state.Preparing state.Prepared (Some nonce) None in let d = edited c (name.Record prepare.rec.id) change in IsTold c d (name.Record prepare.rec.id) change done → PlaceIsWorth c prepare (Move nonce)
      → Comes c d prepare (Some nonce) (moved_answer prepare.rec (option_and_then as_record done.cell)) prepare
  unfolding look record_at was_prepared
  moves nonce done at told was = record {
    quiet = quiet;
    gives = move_comes c prepare.rec.id state.Preparing state.Prepared (Some nonce) None worth.sound;
    queues = record { others = λ k apart. queues.same k; here = inl (queues.same prepare.key) };
    worth = record { sound = quiet.step.sound; stored = now; own = worth.own; place = subst (PlaceIsWorth d prepare) (sym at) (counted_later c d nonce quiet.step was.0, λ key on. done_later c d prepare nonce key quiet.step (was.1 key on)) };
    comes = subst (λ (o : Option Cell). ComesTo d prepare (moved_answer prepare.rec (option_and_then as_record o))) (sym told.cell) (subst (λ (o : Option Record). ComesTo d prepare (moved_answer prepare.rec o)) (sym now.there.there) answered);
  }
    where
      change : Edit
      change = edit.Move state.Preparing state.Prepared (Some nonce) None

      d : Content
      d = edited c (name.Record prepare.rec.id) (edit.Move state.Preparing state.Prepared (Some nonce) None)

      queues : QueuesStay (look c) (look (edited c (name.Record prepare.rec.id) (edit.Move state.Preparing state.Prepared (Some nonce) None)))
      queues = record { same = (record_edit_queues c prepare.rec.id (edit.Move state.Preparing state.Prepared (Some nonce) None)).queues }

      -- the token waits on each key, since a preparing record wasn't prepared
      waits : (r : Record) (key : Key) → record_at c prepare.rec.id ≡ Some r → r.state ≡ state.Preparing → IsOn key r.ops → In (token prepare.rec.id nonce) ((look c).queue_at key)
      waits r key there preparing on = ⊎_elim (λ inside. inside) (λ prepared. absurd (true≢false (sym prepared ∙ ap (state_passes was_prepared_state) there ∙ ap was_prepared_state preparing)))
          (was.1 key (subst (IsOn key) (ap (λ (x : Record). x.ops) (sym (same_Some worth.stored.there.now r (sym worth.stored.there.there ∙ there))) ∙ worth.stored.there.goes.ops) on))

      quiet : IsQuiet c (edited c (name.Record prepare.rec.id) (edit.Move state.Preparing state.Prepared (Some nonce) None))
      quiet = prepare_quiet c prepare.rec.id nonce worth.sound was.0 waits

      now : WasStored (edited c (name.Record prepare.rec.id) (edit.Move state.Preparing state.Prepared (Some nonce) None)) prepare.rec
      now = stored_step c _ prepare.rec quiet.step worth.stored

      unless_preparing : (s : State) → (s ≡ state.Preparing → ⊥) → was_prepared_state s ≡ true
      unless_preparing state.Preparing other = absurd (other refl)
      unless_preparing state.Prepared other = refl
      unless_preparing state.Aborting other = refl
      unless_preparing state.Applying other = refl
      unless_preparing state.Aborted other = refl
      unless_preparing state.Applied other = refl

      -- as it is now, the record was prepared
      prepared : was_prepared_state now.there.now.state ≡ true
      prepared = by (is_some (hit (edit.Move state.Preparing state.Prepared (Some nonce) None) (name.Record prepare.rec.id) (get c (name.Record prepare.rec.id)))) refl
        where
          by : (t : Bool) → is_some (hit (edit.Move state.Preparing state.Prepared (Some nonce) None) (name.Record prepare.rec.id) (get c (name.Record prepare.rec.id))) ≡ t → was_prepared_state now.there.now.state ≡ true
          by true hits =
              let moved_on = move_hit c prepare.rec.id state.Preparing state.Prepared (Some nonce) None hits in
              ap (λ (r : Record). was_prepared_state r.state) (same_Some now.there.now _ (sym now.there.there ∙ moved_on.now))
          by false misses = unless_preparing now.there.now.state (λ preparing. true≢false (sym (move_must c prepare.rec.id state.Preparing state.Prepared (Some nonce) None now.there.now (ap (λ (x : Content). record_at x prepare.rec.id) (sym (miss_leaves c (name.Record prepare.rec.id) (edit.Move state.Preparing state.Prepared (Some nonce) None) misses)) ∙ now.there.there) preparing) ∙ misses))

      answered : ComesTo d prepare (moved_answer prepare.rec (Some now.there.now))
      answered = subst (λ (t : Bool). ComesTo d prepare (cond t (Ok (Ready now.there.now)) (Err (step.Clash prepare.rec.id (name.Record prepare.rec.id))))) (sym prepared) (record { there = now.there.there; goes = now.there.goes; prepared = prepared })

  -- ---- each edit

  pub edit_comes : (place : Place) (change : Edit) (done : Edited) → prepare.place ≡ place → edit_at prepare.rec place ≡ Some change → let n = name_at prepare.rec prepare.key place in IsTold c (edited c n change) n change done → PlaceIsWorth c prepare place
      → Comes c (edited c n change) prepare (nonce_at place) (edit_answer_at prepare place done) (after_edit_at prepare place done)
  edit_comes Draw change done at is told was = by_edit edit.DrawNonce change (same_Some edit.DrawNonce change is) name.Nonce None (λ d. drawn_answer (drawn_in prepare d)) (λ d. after_drawn prepare (drawn_in prepare d)) done (λ told. draws done told was) told
  edit_comes (Document nonce) change done at is told was = absurd (cc is)
  edit_comes (Entry nonce doc) change done at is told was = absurd (cc is)
  edit_comes (EntryAgain nonce revno) change done at is told was = absurd (cc is)
  edit_comes (AddToDocument nonce) change done at is told was = by_edit (edit.AddToken (token prepare.rec.id nonce)) change (same_Some _ change is) (name.Doc prepare.key) (Some nonce) (λ d. added_answer prepare d.hit (option_and_then as_doc d.cell)) (λ d. after_added prepare nonce d.hit (option_and_then as_doc d.cell)) done (λ told. adds_to_doc nonce done told was) told
  edit_comes (AddToEntry nonce) change done at is told was = by_edit (edit.AddToken (token prepare.rec.id nonce)) change (same_Some _ change is) (name.Stash prepare.key) (Some nonce) (λ d. Ok More) (λ d. cond d.hit (key_done prepare nonce) (begun prepare nonce)) done (λ told. adds_to_entry nonce done told was.0 was.1) told
  edit_comes (Move nonce) change done at is told was = by_edit (edit.Move state.Preparing state.Prepared (Some nonce) None) change (same_Some _ change is) (name.Record prepare.rec.id) (Some nonce) (λ d. moved_answer prepare.rec (option_and_then as_record d.cell)) (λ d. prepare) done (λ told. moves nonce done at told was) told
