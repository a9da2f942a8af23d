-- What a call for one statement comes to: what is against it, and how it is refused.
use Rattle.std.proofs.Common.{◌≡◌, ◌⊎◌, Bool, true, false, not, ◌&&◌, cond, nat_le, length, List, [], Option, Some, None, Result, Ok, Err, IsTrue, IfErr, IsErrOf, OnErr, ⊎_elim, inl, inr, refl, sym, ap, ◌∙◌, subst}
use Rattle.std.specs.FinMap.{insert}
use Rattle.std.specs.Prelude.{IfOk, OnOk, OnErr}
use Rattle.doc_value.specs.declared.value.Value.{Value}
use Rattle.txn_key.specs.declared.key.Key.{Key}
use Rattle.store_trait.specs.Calls.{Rose}
use Rattle.store_trait.specs.Exchanges.{Exchanged}
use Rattle.store_trait.specs.Stores.{CallsGoOn, OneCall}
use Rattle.store_trait.specs.declared.cell.Cell.{Cell}
use Rattle.store_trait.specs.declared.name.Name.{Name}
use Rattle.store_trait.specs.declared.name.Name.TheVariants as name
use Rattle.store_trait.specs.declared.store.StoreError.{StoreError}
use Rattle.store_trait.specs.declared.store.StoreError.TheVariants as store_error
use Rattle.store_trait.specs.Contents.{Content}
use Rattle.store_trait.specs.declared.store.Store.{Ghosts}
use Rattle.txn_key.specs.declared.id.TxnId.{TxnId}
use Rattle.txn_record.specs.declared.op.Op.{Op}
use Rattle.txn_runner.specs.Calm.{IsCalm}
use Rattle.txn_runner.specs.Store.{has_record}
use Rattle.txn_runner.specs.declared.waiting.Waiting.{Waiting}
use Rattle.txn_script.specs.declared.statement.Statement.{Statement}
use Rattle.txn_script.specs.declared.statement.Statement.TheVariants as statement
use Rattle.txn_play.specs.Batches.{waits}
use Rattle.txn_play.specs.Progress.{Performs, Progress, against, against_placing, against_waiting, is_nothing, may_settle, most_waiting, lets_run, objection_at_end, objection_to, placed_doc, runs_batch, unless_alone}
use Rattle.txn_play.specs.Readings.{HasFound, IsOfReading, IsShownFor, ReadsAlone}
use Rattle.txn_play.specs.Refusals.{CallsAlone, HasCause, HasReason, IsNoObjection, IsUnfound, IsUnspent, refusal_of_store}
use Rattle.txn_play.specs.Remains.{HasLeft, Stays}
use Rattle.txn_play.specs.Runs.{RunsGoOn}
use Rattle.txn_play.specs.Sessions.{HasAttended, HasEnough, IsFoundFor, IsAgainst, IsCaused, IsKept, IsRefused, KeepsRest, Stands, at, holding}
use Rattle.txn_play.specs.declared.answer.Answer.{Answer}
use Rattle.txn_play.specs.declared.answer.Answer.TheVariants.{Nothing}
use Rattle.txn_play.specs.declared.objection.Objection.{Objection}
use Rattle.txn_play.specs.declared.objection.Objection.TheVariants as objection
use Rattle.txn_play.specs.declared.refusal.Refusal.{Refusal}
use Rattle.txn_play.specs.declared.refusal.Refusal.TheVariants as refusal
use Rattle.txn_play.specs.declared.run.Run.{Run}
use Rattle.txn_play.specs.declared.session.Session.{Session}
use Rattle.store_laws.proofs.trails.CallsMade.{call_after, calls_then, rose_before}
use Rattle.txn_play.proofs.BatchRuns.{stays_left}
use Rattle.store_laws.specs.Reads.{OnlyReads}
use Rattle.txn_play.proofs.Sessions.{kept_reading, no_run_yet, placing_stands, refused_reading}

-- where nothing waits, a statement is looked at at once
pub nothing_first : (p : Progress) (s : Statement) → p.waiting ≡ [] → objection_to p s ≡ against p s
nothing_first p s none = ap (λ (w : List Waiting). cond (lets_run s && not (is_nothing w)) (objection_at_end p) (against p s)) none ∙ by (lets_run s)
  where
    by : (b : Bool) → cond (b && false) (objection_at_end p) (against p s) ≡ against p s
    by true = refl
    by false = refl

-- and so is one that lets no batch run
pub none_first : (p : Progress) (s : Statement) → lets_run s ≡ false → objection_to p s ≡ against p s
none_first p s lets = ap (λ (b : Bool). cond (b && not (is_nothing p.waiting)) (objection_at_end p) (against p s)) lets

pub alone_may : (p : Progress) → p.documents_alone ≡ true → unless_alone p ≡ None
alone_may p alone = ap (λ (b : Bool). cond b None (Some objection.NotBuilt)) alone

-- what stands against a transaction where fewer than 10,000 wait, and none of its id
pub against_submitted : (p : Progress) (id : TxnId) (ops : List Op) (found : Option Objection) → nat_le most_waiting (length p.waiting) ≡ false → waits p.waiting id ≡ false
    → found ≡ cond (has_record p.content id) (Some objection.IdExists) (cond (may_settle p.content ops) None (Some objection.NotBuilt)) → against_waiting p id ops ≡ found
against_submitted p id ops found full none is = rw (full, none) (sym is)

-- the parts of that, where nothing does
pub nothing_against : (recorded settles : Bool) → None ≡ cond recorded (Some objection.IdExists) (cond settles None (Some objection.NotBuilt)) → (recorded ≡ false) × (settles ≡ true)
nothing_against true settles e = absurd (cc)
nothing_against false true e = (refl, refl)
nothing_against false false e = absurd (cc)

-- the refusal of a batch that runs is by no objection
pub of_run_against : (o : Option Objection) (why : Refusal) → IsNoObjection why → IsAgainst o why
of_run_against o (refusal.Objected w) h = elim h [ ]
of_run_against o (refusal.Found f) h = tt
of_run_against o refusal.Store h = tt
of_run_against o refusal.OutOfMemory h = tt
of_run_against o (refusal.Spent e) h = tt
of_run_against o (refusal.Broken e) h = tt
of_run_against o (refusal.Repeated id) h = tt

abbrev failed : {T : Type 0} → Refusal → Result T Refusal
failed why = Err why

-- nor is that of a few calls on the store
pub failed_against : {T : Type 0} (o : Option Objection) (why : Refusal) → (failed {T = T} why ≡ failed refusal.Store) ⊎ (failed {T = T} why ≡ failed refusal.OutOfMemory) → IsAgainst o why
failed_against o (refusal.Objected w) h = absurd (⊎_elim (λ e. cc) (λ e. cc) h)
failed_against o (refusal.Found f) h = absurd (⊎_elim (λ e. cc) (λ e. cc) h)
failed_against o refusal.Store h = tt
failed_against o refusal.OutOfMemory h = tt
failed_against o (refusal.Spent e) h = tt
failed_against o (refusal.Broken e) h = tt
failed_against o (refusal.Repeated id) h = tt

pub failed_caused : {S T : Type 0} (store : Ghosts S) (old new : Session S) (why : Refusal) → CallsAlone {T = T} store old.store new.store (Err why) → IsCaused store old new why
failed_caused store old new (refusal.Objected w) h = absurd (⊎_elim (λ e. cc) (λ e. cc) h.other)
failed_caused store old new (refusal.Found f) h = absurd (⊎_elim (λ e. cc) (λ e. cc) h.other)
failed_caused store old new refusal.Store h = record { fault = λ e. h.fault refl; reason = λ told. tt; enough = λ told enough. tt; cause = tt }
failed_caused store old new refusal.OutOfMemory h = record { fault = λ e. absurd (cc); reason = λ told. tt; enough = λ told enough. tt; cause = tt }
failed_caused store old new (refusal.Spent e) h = absurd (⊎_elim (λ x. cc) (λ x. cc) h.other)
failed_caused store old new (refusal.Broken e) h = absurd (⊎_elim (λ x. cc) (λ x. cc) h.other)
failed_caused store old new (refusal.Repeated id) h = absurd (⊎_elim (λ x. cc) (λ x. cc) h.other)

pub failed_refused : {S T : Type 0} (store : Ghosts S) (may_run : Bool) (old new : Session S) (why : Refusal) → CallsAlone {T = T} store old.store new.store (Err why)
    → (IsTrue store.tells → store.content new.store ≡ store.content old.store) → new.runs.items ≡ old.runs.items → KeepsRest old new → IsRefused store may_run old new why
failed_refused store may_run old new why h same runs rest = record {
  rest = rest;
  left = λ told. stays_left may_run old.batch (store.trail new.store) (holding store old) (holding store new) why (record { holds = same told; runs = runs });
  caused = failed_caused store old new why h;
}

-- where no audit found anything, no statement is refused so
pub unfound : (s : Statement) (why : Refusal) → IsUnfound why → IsFoundFor s why
unfound s (refusal.Found f) h = elim h [ ]
unfound s (refusal.Objected w) h = tt
unfound s refusal.Store h = tt
unfound s refusal.OutOfMemory h = tt
unfound s (refusal.Spent e) h = tt
unfound s (refusal.Broken e) h = tt
unfound s (refusal.Repeated id) h = tt

pub failed_unfound : {T : Type 0} (why : Refusal) → (failed {T = T} why ≡ failed refusal.Store) ⊎ (failed {T = T} why ≡ failed refusal.OutOfMemory) → IsUnfound why
failed_unfound (refusal.Found f) h = absurd (⊎_elim (λ e. cc) (λ e. cc) h)
failed_unfound (refusal.Objected w) h = tt
failed_unfound refusal.Store h = tt
failed_unfound refusal.OutOfMemory h = tt
failed_unfound (refusal.Spent e) h = tt
failed_unfound (refusal.Broken e) h = tt
failed_unfound (refusal.Repeated id) h = tt

-- documents are shown, and a batch is run, where an audit finds nothing
pub shows_found : (why : Refusal) → IsFoundFor statement.Show why
shows_found (refusal.Found f) = refl
shows_found (refusal.Objected w) = tt
shows_found refusal.Store = tt
shows_found refusal.OutOfMemory = tt
shows_found (refusal.Spent e) = tt
shows_found (refusal.Broken e) = tt
shows_found (refusal.Repeated id) = tt

-- reading a whole store is refused by no objection
pub read_against : (o : Option Objection) (why : Refusal) → IsOfReading why → IsAgainst o why
read_against o (refusal.Objected w) h = elim h [ ]
read_against o (refusal.Found f) h = tt
read_against o refusal.Store h = tt
read_against o refusal.OutOfMemory h = tt
read_against o (refusal.Spent e) h = tt
read_against o (refusal.Broken e) h = tt
read_against o (refusal.Repeated id) h = tt

read_reason : (c : Content) (why : Refusal) → IsOfReading why → HasFound c why → HasReason c why
read_reason c (refusal.Found f) kind h = h
read_reason c refusal.Store kind h = tt
read_reason c refusal.OutOfMemory kind h = tt
read_reason c (refusal.Objected w) kind h = elim kind [ ]
read_reason c (refusal.Spent e) kind h = elim kind [ ]
read_reason c (refusal.Broken e) kind h = elim kind [ ]
read_reason c (refusal.Repeated id) kind h = elim kind [ ]

read_unspent : (why : Refusal) → IsOfReading why → IsUnspent why
read_unspent (refusal.Found f) kind = tt
read_unspent refusal.Store kind = tt
read_unspent refusal.OutOfMemory kind = tt
read_unspent (refusal.Objected w) kind = elim kind [ ]
read_unspent (refusal.Spent e) kind = elim kind [ ]
read_unspent (refusal.Broken e) kind = elim kind [ ]
read_unspent (refusal.Repeated id) kind = elim kind [ ]

read_cause : {S : Type 0} (store : Ghosts S) (old new : S) (why : Refusal) → IsOfReading why → IsShownFor store old new why → HasCause store old new why
read_cause store old new (refusal.Found f) kind h = record { before = old; since = Exchanged.Nothing old; shows = h }
read_cause store old new refusal.Store kind h = tt
read_cause store old new refusal.OutOfMemory kind h = tt
read_cause store old new (refusal.Objected w) kind h = elim kind [ ]
read_cause store old new (refusal.Spent e) kind h = elim kind [ ]
read_cause store old new (refusal.Broken e) kind h = elim kind [ ]
read_cause store old new (refusal.Repeated id) kind h = elim kind [ ]

module _ {S T : Type 0} (store : Ghosts S) (old new : S) (why : Refusal) (h : ReadsAlone {T = T} store old new (Err why)) where
  -- how reading a whole store is refused
  pub reading_reason : IsTrue store.tells → HasReason (store.content new) why
  reading_reason told = subst (λ (c : Content). HasReason c why) (sym (h.only told).same) (read_reason (store.content old) why h.kind (h.found told))

  pub reading_unspent : IsUnspent why
  reading_unspent = read_unspent why h.kind

  pub reading_cause : HasCause store old new why
  reading_cause = read_cause store old new why h.kind h.shown

-- a statement that reads a whole store is refused so
pub reading_refused : {S T : Type 0} (store : Ghosts S) (s : Statement) (old new : Session S) (why : Refusal) → Stands store old → ReadsAlone {T = T} store old.store new.store (Err why)
    → IsFoundFor s why → new.runs.items ≡ old.runs.items → KeepsRest old new → HasAttended store s old new (Err why)
reading_refused store s old new why stands h found runs rest = record {
  found = found;
  done = λ told. tt;
  against = λ told. read_against _ why h.kind;
  refused = record {
    rest = rest;
    left = λ told. stays_left (runs_batch s) old.batch (store.trail new.store) (holding store old) (holding store new) why (record { holds = (h.only told).same; runs = runs });
    caused = record {
      fault = λ e. h.fault (ap Err e);
      reason = reading_reason store old.store new.store why h;
      enough = λ told enough. reading_unspent store old.store new.store why h;
      cause = reading_cause store old.store new.store why h;
    };
  };
  kept = refused_reading store old new why stands h.only h.calls runs;
}

-- one that tells what it read is done
pub reading_done : {S : Type 0} (store : Ghosts S) (s : Statement) (old new : Session S) (said : Answer) → Stands store old → (IsTrue store.tells → OnlyReads store old.store new.store) → CallsGoOn store old.store new.store
    → old.batch ≡ [] → against (at store old) s ≡ None → (IsTrue store.tells → at store new ≡ record (at store old) { begun = true; calls = store.calls new.store } → Performs s (at store old) (at store new) said)
    → new.runs.items ≡ old.runs.items → KeepsRest (record old { begun = new.begun }) new → new.begun ≡ true → HasAttended store s old new (Ok said)
reading_done store s old new said stands reads on cleared free performs runs rest begun = record {
  found = tt;
  done = λ told. record {
    cleared = λ lets. cleared;
    allowed = nothing_first (at store old) s cleared ∙ free;
    performs = performs told (λ i. record {
      content = (reads told).same i;
      calls = store.calls new.store;
      waiting = rest.batch i;
      begun = begun i;
      documents_alone = rest.alone i;
      runs = runs i;
    });
  };
  against = λ told. tt;
  refused = tt;
  kept = kept_reading store old new said stands reads on runs rest.alone rest.batch begun;
}

-- an objection leaves all as it was
pub objected_refused : {S : Type 0} (store : Ghosts S) (may_run : Bool) (old new : Session S) (why : Objection)
    → (IsTrue store.tells → store.content new.store ≡ store.content old.store) → new.runs.items ≡ old.runs.items → KeepsRest old new → IsRefused store may_run old new (refusal.Objected why)
objected_refused store may_run old new why same runs rest = record {
  rest = rest;
  left = λ told. record { holds = same told; runs = runs };
  caused = record { fault = λ e. absurd (cc); reason = λ told. tt; enough = λ told enough. tt; cause = tt };
}

-- nor does want of memory
pub memory_refused : {S : Type 0} (store : Ghosts S) (may_run : Bool) (old new : Session S)
    → (IsTrue store.tells → store.content new.store ≡ store.content old.store) → new.runs.items ≡ old.runs.items → KeepsRest old new → IsRefused store may_run old new refusal.OutOfMemory
memory_refused store may_run old new same runs rest = record {
  rest = rest;
  left = λ told. inl (record { holds = same told; runs = runs });
  caused = record { fault = λ e. absurd (cc); reason = λ told. tt; enough = λ told enough. tt; cause = tt };
}

-- how a store's refusal of a call refuses the statement
pub store_failed : {S T A : Type 0} (store : Ghosts S) (old new : S) (error : StoreError) → CallsGoOn store old new
    → (IsErrOf {T = A} (Err error) store_error.Failed → Rose (store.faults old) (store.faults new)) → CallsAlone {T = T} store old new (Err (refusal_of_store error))
store_failed store old new store_error.Failed on rose = record { calls = on; fault = λ e. rose refl; other = inl refl }
store_failed store old new store_error.OutOfMemory on rose = record { calls = on; fault = λ e. absurd (cc); other = inr refl }

-- calls on the store, and then a few that were refused
pub calls_after : {S T U : Type 0} (store : Ghosts S) (a b c : S) (why : Refusal) → CallsGoOn store a b → CallsAlone {T = T} store b c (Err why) → CallsAlone {T = U} store a c (Err why)
calls_after store a b c refusal.Store on h = record { calls = calls_then store a b c on h.calls; fault = λ e. rose_before on.later (h.fault refl); other = inl refl }
calls_after store a b c refusal.OutOfMemory on h = record { calls = calls_then store a b c on h.calls; fault = λ e. absurd (cc); other = inr refl }
calls_after store a b c (refusal.Found f) on h = absurd (⊎_elim (λ e. cc) (λ e. cc) h.other)
calls_after store a b c (refusal.Objected w) on h = absurd (⊎_elim (λ e. cc) (λ e. cc) h.other)
calls_after store a b c (refusal.Spent x) on h = absurd (⊎_elim (λ e. cc) (λ e. cc) h.other)
calls_after store a b c (refusal.Broken x) on h = absurd (⊎_elim (λ e. cc) (λ e. cc) h.other)
calls_after store a b c (refusal.Repeated x) on h = absurd (⊎_elim (λ e. cc) (λ e. cc) h.other)

-- calls on the store, and then one that was refused
pub alone_after : {S T U : Type 0} (store : Ghosts S) (a b c : S) (result : Result T Refusal) (why : Refusal) → result ≡ Err why → CallsGoOn store a b
    → OneCall store b c result refusal.Store → OnErr result ((result ≡ Err refusal.Store) ⊎ (result ≡ Err refusal.OutOfMemory)) → CallsAlone {T = U} store a c (Err why)
alone_after {S} {T} {U} store a b c result why is on one other = by why is (subst (λ (r : Result T Refusal). OnErr r ((r ≡ Err refusal.Store) ⊎ (r ≡ Err refusal.OutOfMemory))) is other)
  where
    calls : CallsGoOn store a c
    calls = call_after store a b c result refusal.Store on one

    by : (w : Refusal) → result ≡ Err w → (failed {T = T} w ≡ failed refusal.Store) ⊎ (failed {T = T} w ≡ failed refusal.OutOfMemory) → CallsAlone {T = U} store a c (Err w)
    by refusal.Store same h = record { calls = calls; fault = λ e. rose_before on.later (one.fault same); other = inl refl }
    by refusal.OutOfMemory same h = record { calls = calls; fault = λ e. absurd (cc); other = inr refl }
    by (refusal.Objected w) same h = absurd (⊎_elim (λ e. cc) (λ e. cc) h)
    by (refusal.Found f) same h = absurd (⊎_elim (λ e. cc) (λ e. cc) h)
    by (refusal.Spent x) same h = absurd (⊎_elim (λ e. cc) (λ e. cc) h)
    by (refusal.Broken x) same h = absurd (⊎_elim (λ e. cc) (λ e. cc) h)
    by (refusal.Repeated x) same h = absurd (⊎_elim (λ e. cc) (λ e. cc) h)

-- ---- a cell is placed

module _ {S : Type 0} (store : Ghosts S) (old new : Session S) (stands : Stands store old) (cleared : old.batch ≡ []) (under : Name) (cell : Cell)
    (batch : new.batch ≡ old.batch) (begun : new.begun ≡ old.begun) (runs : new.runs.items ≡ old.runs.items) (calls : CallsGoOn store old.store new.store) where
  -- nothing was placed
  pub placing_refused : (s : Statement) (why : Refusal) → against (at store old) s ≡ against_placing (at store old) under cell
      → (IsTrue store.tells → IsAgainst (against_placing (at store old) under cell) why) → (IsTrue store.tells → store.content new.store ≡ store.content old.store)
      → (old.begun ≡ true → new.store ≡ old.store) → new.documents_alone ≡ old.documents_alone → IsCaused store old new why → IsUnfound why → HasAttended store s old new (Err why)
  placing_refused s why is objected left idle alone caused none = record {
    found = unfound s why none;
    done = λ told. tt;
    against = λ told. subst (λ (o : Option Objection). IsAgainst o why) (sym (nothing_first (at store old) s cleared ∙ is)) (objected told);
    refused = record {
      left = λ told. stays_left (runs_batch s) old.batch (store.trail new.store) (holding store old) (holding store new) why (record { holds = left told; runs = runs });
      rest = record { batch = batch; begun = begun; alone = alone };
      caused = caused;
    };
    kept = record { stands = tt; runs = λ told. by old.begun refl (stands told).runs told; calls = calls };
  }
    where
      by : (b : Bool) → old.begun ≡ b → RunsGoOn (store.trail old.store) old.runs.items (store.calls old.store) → IsTrue store.tells → RunsGoOn (store.trail new.store) new.runs.items (store.calls new.store)
      by true e going told =
          subst (λ (s : S). RunsGoOn (store.trail s) new.runs.items (store.calls s)) (sym (idle e))
          (subst (λ (rs : List Run). RunsGoOn (store.trail old.store) rs (store.calls old.store)) (sym runs) going)
      by false e going told = no_run_yet store old new (stands told) e runs

  -- it was
  pub placing_kept : {E : Type 0} (said : Answer) → old.begun ≡ false → (IsTrue store.tells → IsTrue new.documents_alone → IsCalm (store.content new.store)) → IsKept {E = E} store old new (Ok said)
  placing_kept said unbegun calm = record {
    stands = λ told. placing_stands store old new (stands told) unbegun begun batch runs (calm told);
    runs = λ told. no_run_yet store old new (stands told) unbegun runs;
    calls = calls;
  }

  pub placing_doc : (key : Key) (body : Value) → under ≡ name.Doc key → cell ≡ placed_doc body → old.begun ≡ false → new.documents_alone ≡ old.documents_alone
      → (IsTrue store.tells → (against_placing (at store old) under cell ≡ None) × (store.content new.store ≡ insert (store.content old.store) under cell))
      → (IsTrue store.tells → IsTrue new.documents_alone → IsCalm (store.content new.store)) → HasAttended store (statement.Doc key body) old new (Ok Nothing)
  placing_doc key body is_under is_cell unbegun alone placed calm = record {
    found = tt;
    done = λ told.
        let it = placed told in
        let here : store.content new.store ≡ insert (store.content old.store) (name.Doc key) (placed_doc body) = it.1 ∙ (λ i. insert (store.content old.store) (is_under i) (is_cell i)) in
        record {
          cleared = λ lets. cleared;
          allowed = nothing_first (at store old) (statement.Doc key body) cleared ∙ (λ i. against_placing (at store old) (sym is_under i) (sym is_cell i)) ∙ it.0;
          performs = (λ i. record { content = here i; calls = store.calls new.store; waiting = batch i; begun = begun i; documents_alone = alone i; runs = runs i }, refl);
        };
    against = λ told. tt;
    refused = tt;
    kept = placing_kept Nothing unbegun calm;
  }

  pub placing_cell : old.begun ≡ false → new.documents_alone ≡ false
      → (IsTrue store.tells → (against_placing (at store old) under cell ≡ None) × (store.content new.store ≡ insert (store.content old.store) under cell))
      → HasAttended store (statement.Place under cell) old new (Ok Nothing)
  placing_cell unbegun alone placed = record {
    found = tt;
    done = λ told.
        let it = placed told in
        record {
          cleared = λ lets. cleared;
          allowed = nothing_first (at store old) (statement.Place under cell) cleared ∙ it.0;
          performs = (λ i. record { content = it.1 i; calls = store.calls new.store; waiting = batch i; begun = begun i; documents_alone = alone i; runs = runs i }, refl);
        };
    against = λ told. tt;
    refused = tt;
    kept = placing_kept Nothing unbegun (λ told lone. absurd (clash lone alone));
  }
    where
      clash : {b : Bool} → b ≡ true → b ≡ false → ⊥
      clash p q = cc
