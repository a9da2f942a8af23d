-- The steps of a preparation over a store, and how many there are.
use Rattle.std.proofs.Common.{◌≡◌, ℕ, ◌+◌, ◌*◌, ◌<◌, ◌≤◌, nat_lt, nat_le, Bool, true, false, cond, Option, Some, None, Result, Ok, Err, IfOk, OnErr, IsTrue, List, [], ◌∷◌, length, inl, inr, sym, ap, ◌∙◌, refl, subst, arith}
use Rattle.std.specs.FinMap.{get}
use Rattle.std.specs.Option.{option_and_then}
use Rattle.txn_record.specs.States.{was_prepared_state}
use Rattle.txn_record.specs.declared.record.Record.{Record}
use Rattle.txn_key.specs.declared.id.TxnId.{TxnId}
use Rattle.txn_key.specs.declared.key.Key.{Key}
use Rattle.store_trait.specs.Cells.{as_record, as_doc, as_stash, as_counter}
use Rattle.store_trait.specs.Contents.{Content}
use Rattle.store_trait.specs.Edits.{edited, nonce_limit}
use Rattle.store_trait.specs.Stores.{OneCall}
use Rattle.store_trait.specs.declared.cell.Cell.{Cell}
use Rattle.store_trait.specs.declared.cell.DocCell.{DocCell}
use Rattle.store_trait.specs.declared.edit.Edit.{Edit}
use Rattle.store_trait.specs.declared.edit.Edited.{Edited}
use Rattle.store_trait.specs.declared.name.Name.{Name}
use Rattle.store_trait.specs.declared.name.Name.TheVariants as name
use Rattle.store_trait.specs.declared.side.Side.TheVariants as side
use Rattle.store_trait.specs.declared.store.Store.{Ghosts}
use Rattle.store_laws.specs.View.{View, look}
use Rattle.store_laws.proofs.cells.Misses.{quiet_itself}
use Rattle.flush_prepare.specs.Draws.{drawn_of}
use Rattle.flush_prepare.specs.Preparations.{name_of, edit_at, edit_of, begun, next_begun, key_done, seen_answer, after_seen, sight_of, read_answer_at, after_read_at, read_answer, after_read, drawn_answer, after_drawn, drawn_in, added_answer, after_added, moved_answer, edit_answer_at, after_edit_at, edit_answer, after_edit, PrepareGoes}
use Rattle.flush_prepare.specs.PrepareFacts.{nonce_at, nonce_of, ChangesQueuesAt, IsPreparing, ComesTo, Prepares}
use Rattle.flush_prepare.specs.Progress.{due, may_begin_again, BeginsAgain, ComesNearer}
use Rattle.flush_prepare.specs.Refusals.{IsOfStore, LeftAt}
use Rattle.flush_prepare.specs.Sights.{is_outdated}
use Rattle.flush_prepare.specs.declared.error.StepError.{StepError}
use Rattle.flush_prepare.specs.declared.error.StepError.TheVariants as step
use Rattle.flush_prepare.specs.declared.prepare.Place.{Place}
use Rattle.flush_prepare.specs.declared.prepare.Place.TheVariants.{Draw, Document, Entry, AddToDocument, AddToEntry, EntryAgain, Move}
use Rattle.flush_prepare.specs.declared.prepare.Prepare.{Prepare}
use Rattle.flush_prepare.specs.declared.prepare.PrepareStep.{PrepareStep}
use Rattle.flush_prepare.specs.declared.prepare.PrepareStep.TheVariants.{More, Ready}
use Rattle.flush_prepare.specs.declared.sight.Sight.{Sight}
use Rattle.flush_prepare.specs.declared.sight.Sight.TheVariants.{Queued, Marked, Free}
use Rattle.flush_prepare.proofs.CallsMade.{answered_on, refused_after}
use Rattle.flush_prepare.proofs.Preparing.{Comes, come_same}
use Rattle.flush_prepare.proofs.PrepareEdits.{edit_comes}
use Rattle.flush_prepare.proofs.PrepareReads.{read_comes}

-- ---- what a refusal leaves

-- a failed edit leaves the content as before, so far
left_same : (error : StepError) (c : Content) (n : Name) (change : Option Edit) (d : Content) → LeftAt error c n change d → d ≡ c
left_same step.StoreFault c n None d left = left
left_same step.StoreFault c n (Some change) d left = left
left_same step.NoncesSpent c n change d left = left
left_same (step.RevnoSpent key) c n change d left = left
left_same (step.Lost token) c n change d left = left
left_same (step.Clash id at) c n change d left = left
left_same step.OutOfMemory c n change d left = left

left_by_read : (error : StepError) (c : Content) (n : Name) (d : Content) → d ≡ c → LeftAt error c n None d
left_by_read step.StoreFault c n d same = same
left_by_read step.NoncesSpent c n d same = same
left_by_read (step.RevnoSpent key) c n d same = same
left_by_read (step.Lost token) c n d same = same
left_by_read (step.Clash id at) c n d same = same
left_by_read step.OutOfMemory c n d same = same

-- ---- no answer of an edit is a fault of the store

either_no_fault : {T : Type 0} (t : Bool) (a b : Result T StepError) → (a ≡ Err step.StoreFault → ⊥) → (b ≡ Err step.StoreFault → ⊥) → cond t a b ≡ Err step.StoreFault → ⊥
either_no_fault true a b p q e = p e
either_no_fault false a b p q e = q e

drawn_no_fault : (id : TxnId) (hit : Bool) (counter : Option ℕ) → drawn_of id hit counter ≡ Err step.StoreFault → ⊥
drawn_no_fault id true (Some n) e = either_no_fault (nat_lt 0 n) _ _ (λ p. cc p) (λ p. cc p) e
drawn_no_fault id false (Some n) e = either_no_fault (nat_le nonce_limit n) _ _ (λ p. cc p) (λ p. cc p) e
drawn_no_fault id true None e = cc e
drawn_no_fault id false None e = cc e

moved_no_fault : (rec : Record) (now : Option Record) → moved_answer rec now ≡ Err step.StoreFault → ⊥
moved_no_fault rec None e = cc e
moved_no_fault rec (Some now) e = either_no_fault (was_prepared_state now.state) _ _ (λ p. cc p) (λ p. cc p) e

no_fault_at : (prepare : Prepare) (place : Place) (done : Edited) → edit_answer_at prepare place done ≡ Err step.StoreFault → ⊥
no_fault_at prepare Draw done e = by (drawn_in prepare done) (drawn_no_fault prepare.rec.id done.hit (option_and_then as_counter done.cell)) e
  where
    by : (r : Result ℕ StepError) → (r ≡ Err step.StoreFault → ⊥) → drawn_answer r ≡ Err step.StoreFault → ⊥
    by (Ok n) other p = cc p
    by (Err error) other p = other (ap Err (same error (Err error) refl p))
      where
        same : (error : StepError) (r : Result PrepareStep StepError) → r ≡ Err error → r ≡ Err step.StoreFault → error ≡ step.StoreFault
        same error r p q = cc
no_fault_at prepare (AddToDocument nonce) done e = by done.hit (option_and_then as_doc done.cell) e
  where
    by : (t : Bool) (o : Option DocCell) → added_answer prepare t o ≡ Err step.StoreFault → ⊥
    by true None p = cc p
    by true (Some doc) p = cc p
    by false o p = cc p
no_fault_at prepare (Move nonce) done e = moved_no_fault prepare.rec (option_and_then as_record done.cell) e
no_fault_at prepare (Document nonce) done e = cc e
no_fault_at prepare (Entry nonce doc) done e = cc e
no_fault_at prepare (AddToEntry nonce) done e = cc e
no_fault_at prepare (EntryAgain nonce revno) done e = cc e

-- ---- a step over a store

module _ {S : Type 0} (store : Ghosts S) where
  -- the call is the one that was made, whatever its answer comes to
  pub judged : {T : Type 0} (old new : S) (x : T) (prepare : Prepare) (done : Edited) (result : Result PrepareStep StepError) → result ≡ edit_answer prepare done → OneCall store old new (Ok x) step.StoreFault → OneCall store old new result step.StoreFault
  judged old new x prepare done (Ok answer) e one = answered_on store old new x answer step.StoreFault step.StoreFault one
  judged old new x prepare done (Err error) e one = refused_after store old new x error (λ same. no_fault_at prepare prepare.place done (sym e ∙ ap Err same)) one

  pub read_refused : (old new : S) (prepare : Prepare) (error : StepError) → edit_of prepare ≡ None → IsOfStore error → (IsTrue store.tells → store.content new ≡ store.content old) → PrepareGoes store old prepare (Err error) prepare new
  read_refused old new prepare error reads kind left = PrepareGoes.Refused error kind (λ told. subst (λ (e : Option Edit). LeftAt error (store.content old) (name_of prepare) e (store.content new)) (sym reads) (left_by_read error (store.content old) (name_of prepare) (store.content new) (left told))) refl refl

  pub edit_refused : (old new : S) (prepare : Prepare) (error : StepError) (change : Edit) → edit_of prepare ≡ Some change → IsOfStore error → (IsTrue store.tells → LeftAt error (store.content old) (name_of prepare) (Some change) (store.content new)) → PrepareGoes store old prepare (Err error) prepare new
  edit_refused old new prepare error change edits kind left = PrepareGoes.Refused error kind (λ told. subst (λ (e : Option Edit). LeftAt error (store.content old) (name_of prepare) e (store.content new)) (sym edits) (left told)) refl refl

  pub never_begun : (s : S) (prepare : Prepare) → PrepareGoes store s prepare (Err step.OutOfMemory) prepare s
  never_begun s prepare = PrepareGoes.Refused step.OutOfMemory tt (λ told. refl) refl refl

  stays_at : (view : View) (prepare : Prepare) (nonce : Option ℕ) → ChangesQueuesAt view prepare nonce view
  stays_at view prepare None = record { same = λ key. refl }
  stays_at view prepare (Some n) = record { others = λ key apart. refl; here = inl refl }

  -- with the content as it was
  still_comes : (c : Content) (prepare : Prepare) (result : Result PrepareStep StepError) (next : Prepare) → IsPreparing c prepare → IsPreparing c next → ComesTo c prepare result → Comes c c prepare (nonce_of prepare) result next
  still_comes c prepare result next was worth comes = record {
    quiet = quiet_itself c was.sound;
    gives = come_same prepare.rec.id (nonce_of prepare) (record { same = λ id. refl });
    queues = stays_at (look c) prepare (nonce_of prepare);
    worth = worth;
    comes = comes;
  }

  may_stop : (c : Content) (prepare : Prepare) (error : StepError) → IsOfStore error → ComesTo c prepare (Err error)
  may_stop c prepare step.StoreFault kind = kind
  may_stop c prepare step.OutOfMemory kind = kind
  may_stop c prepare step.NoncesSpent kind = absurd kind
  may_stop c prepare (step.RevnoSpent key) kind = kind
  may_stop c prepare (step.Lost token) kind = kind
  may_stop c prepare (step.Clash id at) kind = kind

  -- what a step comes to, over a store that tells
  pub step_comes : (old new : S) (prepare : Prepare) (result : Result PrepareStep StepError) (next : Prepare) → PrepareGoes store old prepare result next new → IsTrue store.tells → IsPreparing (store.content old) prepare
      → Comes (store.content old) (store.content new) prepare (nonce_of prepare) result next
  step_comes old new prepare result next (PrepareGoes.ByRead found reads read answers follows) told worth =
      let c = store.content old in
      let r = read_comes c prepare worth prepare.place found reads (read.told told) worth.place in
      subst (λ (d : Content). Comes c d prepare (nonce_of prepare) result next) (sym (read.same told))
      (subst (λ (x : Result PrepareStep StepError). Comes c c prepare (nonce_of prepare) x next) (sym answers)
      (subst (λ (p : Prepare). Comes c c prepare (nonce_of prepare) (Ok (read_answer prepare found)) p) (sym follows)
      (still_comes c prepare (Ok (read_answer prepare found)) (after_read prepare found) worth r.worth r.comes)))
  step_comes old new prepare result next (PrepareGoes.ByEdit change done edits edit answers follows) told worth =
      let c = store.content old in
      let made = edit.told told in
      subst (λ (d : Content). Comes c d prepare (nonce_of prepare) result next) (sym made.made)
      (subst (λ (x : Result PrepareStep StepError). Comes c (edited c (name_of prepare) change) prepare (nonce_of prepare) x next) (sym answers)
      (subst (λ (p : Prepare). Comes c (edited c (name_of prepare) change) prepare (nonce_of prepare) (edit_answer prepare done) p) (sym follows)
      (edit_comes c prepare worth prepare.place change done refl edits (record { hit = made.hit; cell = subst (λ (d : Content). done.cell ≡ get d (name_of prepare)) made.made made.cell }) worth.place)))
  step_comes old new prepare result next (PrepareGoes.Refused error kind left refuses stays) told worth =
      let c = store.content old in
      subst (λ (d : Content). Comes c d prepare (nonce_of prepare) result next) (sym (left_same error c (name_of prepare) (edit_of prepare) (store.content new) (left told)))
      (subst (λ (x : Result PrepareStep StepError). Comes c c prepare (nonce_of prepare) x next) (sym refuses)
      (subst (λ (p : Prepare). Comes c c prepare (nonce_of prepare) (Err error) p) (sym stays)
      (still_comes c prepare (Err error) prepare worth worth (may_stop c prepare error kind))))

pub step_prepares : {S : Type 0} (store : Ghosts S) (old new : S) (prepare : Prepare) (result : Result PrepareStep StepError) (next : Prepare) → PrepareGoes store old prepare result next new → (IsTrue store.tells → IsPreparing (store.content old) prepare) → IsTrue store.tells
    → Prepares (store.content old) (store.content new) prepare result next
step_prepares store old new prepare result next goes worth told =
    let all = step_comes store old new prepare result next goes told (worth told) in
    record { quiet = all.quiet; gives = all.gives; queues = all.queues; worth = all.worth; comes = all.comes }

-- ---- how many steps there are

-- a key that is done
done_nearer : (prepare : Prepare) (nonce most : ℕ) (later : List Key) → prepare.later ≡ later → 4 * length prepare.later + 2 ≤ most → due (next_begun prepare nonce later) < most
done_nearer prepare nonce most [] e le = omega (arith, le)
done_nearer prepare nonce most (key ∷ later) e le = omega (arith, le, ap length e)

nearer : (prepare : Prepare) (next : Prepare) → due next < due prepare → ComesNearer prepare More next
nearer prepare next less = inl less

again : (prepare : Prepare) (nonce : ℕ) (place : Place) → prepare.place ≡ place → nonce_at place ≡ Some nonce → may_begin_again place ≡ true → 4 * length prepare.later + 2 ≤ due prepare → BeginsAgain prepare (begun prepare nonce)
again prepare nonce place e own may le = record { nonce = nonce; own = ap nonce_at e ∙ own; may = ap may_begin_again e ∙ may; begins = refl; more = omega (arith, le) }

module _ (prepare : Prepare) where
  seen_nearer : (nonce : ℕ) (doc : Option DocCell) → prepare.place ≡ Entry nonce doc → (s : Sight) → ComesNearer prepare (seen_answer s) (after_seen prepare nonce s)
  seen_nearer nonce doc e Queued = inl (rw e (done_nearer prepare nonce (4 * length prepare.later + 4) prepare.later refl (omega arith)))
  seen_nearer nonce doc e (Marked mark) = again prepare nonce (Entry nonce doc) e refl refl (rw e (omega arith))
  seen_nearer nonce doc e (Free side.Document) = inl (rw e (omega arith))
  seen_nearer nonce doc e (Free side.Stash) = inl (rw e (omega arith))
  seen_nearer nonce doc e (Free side.Neither) = inl (rw e (omega arith))

  read_nearer : (place : Place) (found : Option Cell) → prepare.place ≡ place → edit_of prepare ≡ None → ComesNearer prepare (read_answer_at prepare place found) (after_read_at prepare place found)
  read_nearer Draw found e reads = absurd (cc (ap (λ (p : Place). edit_at prepare.rec p) e, reads))
  read_nearer (AddToDocument nonce) found e reads = absurd (cc (ap (λ (p : Place). edit_at prepare.rec p) e, reads))
  read_nearer (AddToEntry nonce) found e reads = absurd (cc (ap (λ (p : Place). edit_at prepare.rec p) e, reads))
  read_nearer (Move nonce) found e reads = absurd (cc (ap (λ (p : Place). edit_at prepare.rec p) e, reads))
  read_nearer (Document nonce) found e reads = inl (rw e (omega arith))
  read_nearer (Entry nonce doc) found e reads = seen_nearer nonce doc e (sight_of prepare nonce doc found)
  read_nearer (EntryAgain nonce revno) found e reads = by (is_outdated revno _ (option_and_then as_stash found))
    where
      by : (t : Bool) → ComesNearer prepare More (cond t (begun prepare nonce) (key_done prepare nonce))
      by true = inr (again prepare nonce (EntryAgain nonce revno) e refl refl (rw e (omega arith)))
      by false = inl (rw e (done_nearer prepare nonce (4 * length prepare.later + 2) prepare.later refl (omega arith)))

  -- of an answer that is one
  NearerOk : Result PrepareStep StepError → Prepare → Type 0
  NearerOk result next = IfOk result (λ answer. ComesNearer prepare answer next)

  edit_nearer : (place : Place) (change : Edit) (done : Edited) → prepare.place ≡ place → edit_at prepare.rec place ≡ Some change → NearerOk (edit_answer_at prepare place done) (after_edit_at prepare place done)
  unfolding NearerOk
  edit_nearer Draw change done e edits = by (drawn_in prepare done)
    where
      by : (r : Result ℕ StepError) → IfOk (drawn_answer r) (λ answer. ComesNearer prepare answer (after_drawn prepare r))
      by (Ok n) = inl (rw e (omega arith))
      by (Err error) = tt
  edit_nearer (AddToDocument nonce) change done e edits = by done.hit (option_and_then as_doc done.cell)
    where
      by : (t : Bool) (o : Option DocCell) → IfOk (added_answer prepare t o) (λ answer. ComesNearer prepare answer (after_added prepare nonce t o))
      by true None = tt
      by true (Some doc) = inl (rw e (omega arith))
      by false o = inr (again prepare nonce (AddToDocument nonce) e refl refl (rw e (omega arith)))
  edit_nearer (AddToEntry nonce) change done e edits = by done.hit
    where
      by : (t : Bool) → ComesNearer prepare More (cond t (key_done prepare nonce) (begun prepare nonce))
      by true = inl (rw e (done_nearer prepare nonce (4 * length prepare.later + 3) prepare.later refl (omega arith)))
      by false = inr (again prepare nonce (AddToEntry nonce) e refl refl (rw e (omega arith)))
  edit_nearer (Move nonce) change done e edits = by (option_and_then as_record done.cell)
    where
      by_state : (now : Record) (t : Bool) → IfOk (cond t (Ok (Ready now)) (Err (step.Clash prepare.rec.id (name.Record prepare.rec.id)))) (λ answer. ComesNearer prepare answer prepare)
      by_state now true = refl
      by_state now false = tt

      by : (o : Option Record) → IfOk (moved_answer prepare.rec o) (λ answer. ComesNearer prepare answer prepare)
      by None = tt
      by (Some now) = by_state now (was_prepared_state now.state)
  edit_nearer (Document nonce) change done e edits = absurd (cc edits)
  edit_nearer (Entry nonce doc) change done e edits = absurd (cc edits)
  edit_nearer (EntryAgain nonce revno) change done e edits = absurd (cc edits)

edit_nearer_ok : (prepare : Prepare) (change : Edit) (done : Edited) → edit_of prepare ≡ Some change → IfOk (edit_answer prepare done) (λ answer. ComesNearer prepare answer (after_edit prepare done))
unfolding NearerOk
edit_nearer_ok prepare change done edits = edit_nearer prepare prepare.place change done refl edits

-- each answer of a step brings it nearer, or begins a key again
pub step_nearer : {S : Type 0} (store : Ghosts S) (old new : S) (prepare : Prepare) (result : Result PrepareStep StepError) (next : Prepare) → PrepareGoes store old prepare result next new → IfOk result (λ answer. ComesNearer prepare answer next)
step_nearer store old new prepare result next (PrepareGoes.ByRead found reads read answers follows) =
    subst (λ (x : Result PrepareStep StepError). IfOk x (λ answer. ComesNearer prepare answer next)) (sym answers)
    (subst (λ (p : Prepare). ComesNearer prepare (read_answer prepare found) p) (sym follows) (read_nearer prepare prepare.place found refl reads))
step_nearer store old new prepare result next (PrepareGoes.ByEdit change done edits edit answers follows) =
    subst (λ (x : Result PrepareStep StepError). IfOk x (λ answer. ComesNearer prepare answer next)) (sym answers)
    (subst (λ (p : Prepare). IfOk (edit_answer prepare done) (λ answer. ComesNearer prepare answer p)) (sym follows) (edit_nearer_ok prepare change done edits))
step_nearer store old new prepare result next (PrepareGoes.Refused error kind left refuses stays) =
    subst (λ (x : Result PrepareStep StepError). IfOk x (λ answer. ComesNearer prepare answer next)) (sym refuses) tt

-- ---- a refused step leaves the preparation

drawn_stays : (prepare : Prepare) (r : Result ℕ StepError) (error : StepError) → drawn_answer r ≡ Err error → after_drawn prepare r ≡ prepare
drawn_stays prepare (Ok n) error e = cc
drawn_stays prepare (Err other) error e = refl

added_stays : (prepare : Prepare) (nonce : ℕ) (hit : Bool) (doc : Option DocCell) (error : StepError) → added_answer prepare hit doc ≡ Err error → after_added prepare nonce hit doc ≡ prepare
added_stays prepare nonce true None error e = refl
added_stays prepare nonce true (Some doc) error e = cc
added_stays prepare nonce false doc error e = cc

edit_stays : (prepare : Prepare) (place : Place) (done : Edited) (error : StepError) → edit_answer_at prepare place done ≡ Err error → after_edit_at prepare place done ≡ prepare
edit_stays prepare Draw done error e = drawn_stays prepare (drawn_in prepare done) error e
edit_stays prepare (AddToDocument nonce) done error e = added_stays prepare nonce done.hit (option_and_then as_doc done.cell) error e
edit_stays prepare (Move nonce) done error e = refl
edit_stays prepare (Document nonce) done error e = refl
edit_stays prepare (Entry nonce doc) done error e = refl
edit_stays prepare (AddToEntry nonce) done error e = cc
edit_stays prepare (EntryAgain nonce revno) done error e = refl

pub step_stays : {S : Type 0} (store : Ghosts S) (old new : S) (prepare : Prepare) (result : Result PrepareStep StepError) (next : Prepare) → PrepareGoes store old prepare result next new → OnErr result (next ≡ prepare)
step_stays store old new prepare (Ok answer) next goes = tt
step_stays store old new prepare (Err error) next (PrepareGoes.ByRead found reads read answers follows) = absurd (cc answers)
step_stays store old new prepare (Err error) next (PrepareGoes.ByEdit change done edits edit answers follows) = follows ∙ edit_stays prepare prepare.place done error (sym answers)
step_stays store old new prepare (Err error) next (PrepareGoes.Refused other kind left refuses stays) = stays
