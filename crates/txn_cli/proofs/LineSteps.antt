-- A line in two steps: a batch that is let run first, and the line itself.
use Rattle.std.proofs.Common.{◌≡◌, ◌≢◌, ◌≤◌, ◌⊎◌, ⊎_elim, inl, inr, ℕ, Bool, true, false, List, [], ◌∷◌, ◌==◌, Option, Some, None, Result, Ok, Err, OnOk, IfErr, IsTrue, length, refl, sym, ap, ◌∙◌, subst, arith, cond}
use Rattle.std.specs.Prelude.{IfSome, ◌&&◌, ◌||◌, not}
use Rattle.std.proofs.lemmas.List.{append-nil}
use Rattle.store_trait.specs.Exchanges.{Exchanged}
use Rattle.store_trait.specs.Stores.{CallsGoOn}
use Rattle.store_trait.specs.declared.store.Store.{Ghosts}
use Rattle.txn_script.specs.Statements.{line_in}
use Rattle.txn_script.specs.Faults.{fault_text as script_text}
use Rattle.txn_script.specs.declared.fault.ScriptFault.{ScriptFault}
use Rattle.txn_script.specs.declared.fault.ScriptFault.TheVariants as script_fault
use Rattle.txn_script.specs.declared.statement.Statement.{Statement}
use Rattle.txn_play.specs.Remains.{Stays}
use Rattle.txn_play.specs.Progress.{Progress, Does, is_nothing, lets_run, may_find, may_find_at, objection_at_end, objection_to, runs_batch, unless_alone}
use Rattle.txn_play.specs.Sessions.{HasEnough, IsCaused, IsKept, Stands, at, holding}
use Rattle.txn_play.proofs.Causing.{caused_before}
use Rattle.store_laws.proofs.trails.CallsMade.{calls_none, calls_then, rose_before}
use Rattle.txn_runner.specs.Numbers.{Suffices}
use Rattle.txn_runner.specs.declared.waiting.Waiting.{Waiting}
use Rattle.txn_play.specs.declared.answer.Answer.{Answer}
use Rattle.txn_play.specs.declared.answer.Answer.TheVariants.{Nothing}
use Rattle.txn_play.specs.declared.finding.Finding.{Finding}
use Rattle.txn_play.specs.declared.objection.Objection.{Objection}
use Rattle.txn_play.specs.declared.refusal.Refusal.{Refusal}
use Rattle.txn_play.specs.declared.refusal.Refusal.TheVariants as refusal
use Rattle.txn_play.specs.declared.session.Session.{Session}
use Rattle.txn_play.proofs.BatchRuns.{left_more}
use Rattle.txn_cli.specs.Causes.{counts}
use Rattle.txn_cli.specs.Faults.{objection_text, refusal_in_stop, stop_of_reading}
use Rattle.txn_cli.specs.Line.{Between, Deed, HasDone, HasDoneLine, HasRunFirst, HasStoppedLine, IsKeptLine, IsOfStatement, LeftBy, MayStop, RefusedBy, RunsFirst, RunsWaiting, StoppedByFinding, StoppedFirst, StoppedFor, StopsFor, performing, playing, running, running_first, up_to, from}
use Rattle.txn_cli.specs.Output.{Writing, Wrote, WrotePart, answer_text, prints}
use Rattle.txn_cli.proofs.Scripts.{first_as}
use Rattle.txn_cli.specs.Script.{MayFindAs, MayRefuseAs, PlaysAs, RefusedAs, RefusedFor, Stated, line_lets_run, line_may_run}
use Rattle.txn_cli.specs.declared.stop.Stop.{Stop}
use Rattle.txn_cli.specs.declared.stop.Stop.TheVariants as stop

-- what stands against a batch that a statement lets run stands against the statement
against_first : (p : Progress) (s : Statement) (why : Objection) → lets_run s ≡ true → objection_at_end p ≡ Some why → objection_to p s ≡ Some why
against_first p s why lets e = by (is_nothing p.waiting) refl
  where
    none_or : (b : Bool) → is_nothing p.waiting ≡ b → cond b None (unless_alone p) ≡ Some why
    none_or b is = subst (λ (t : Bool). cond t None (unless_alone p) ≡ Some why) is e

    by : (b : Bool) → is_nothing p.waiting ≡ b → objection_to p s ≡ Some why
    by true is = absurd (nothing (none_or true is))
      where
        nothing : {A : Type 0} {x : A} → None ≡ Some x → ⊥
        nothing h = cc
    by false is = rw (lets, is) (none_or false is)

runs_may : (s : Statement) → runs_batch s ≡ true → line_may_run (Ok (Some s)) ≡ true
runs_may s runs = ap (λ (b : Bool). cond b true (lets_run s)) runs

-- what is left by a stop of one deed is left by that of another which may more
left_by_more : {S : Type 0} (store : Ghosts S) (a b : Deed) (old new : Session S) (w : Writing) (why : Stop) → (a.may_run ≡ true → b.may_run ≡ true) → ((p q : Progress) (answer : Answer) → a.does p q answer → b.does p q answer)
    → LeftBy store a old new w why → LeftBy store b old new w why
left_by_more store a b old new w (stop.Misread e) may does h = h
left_by_more store a b old new w stop.Output may does h = record { done = record { answer = h.done.answer; did = does (at store old) (at store new) h.done.answer h.done.did }; part = h.part }
left_by_more store a b old new w (stop.Refused (refusal.Objected o)) may does h = h
left_by_more store a b old new w (stop.Refused (refusal.Found found)) may does h = h
left_by_more store a b old new w (stop.Refused refusal.Store) may does h = (left_more a.may_run b.may_run old.batch (store.trail new.store) (holding store old) (holding store new) refusal.Store may h.0, h.1)
left_by_more store a b old new w (stop.Refused refusal.OutOfMemory) may does h = (
  ⊎_elim (λ l. inl (left_more a.may_run b.may_run old.batch (store.trail new.store) (holding store old) (holding store new) refusal.OutOfMemory may l))
      (λ d. inr (record { done = record { answer = d.done.answer; did = does (at store old) (at store new) d.done.answer d.done.did }; lines = d.lines })) h.0,
  h.1,
)
left_by_more store a b old new w (stop.Refused (refusal.Spent e)) may does h = (left_more a.may_run b.may_run old.batch (store.trail new.store) (holding store old) (holding store new) (refusal.Spent e) may h.0, h.1)
left_by_more store a b old new w (stop.Refused (refusal.Broken e)) may does h = (left_more a.may_run b.may_run old.batch (store.trail new.store) (holding store old) (holding store new) (refusal.Broken e) may h.0, h.1)
left_by_more store a b old new w (stop.Refused (refusal.Repeated id)) may does h = (left_more a.may_run b.may_run old.batch (store.trail new.store) (holding store old) (holding store new) (refusal.Repeated id) may h.0, h.1)

pub left_by_first : {S T : Type 0} (store : Ghosts S) (lets : Bool) (old new : Session S) (w : Writing) (result : Result T Stop) → lets ≡ true
    → IfErr result (LeftBy store running old new w) → IfErr result (LeftBy store (running_first lets) old new w)
left_by_first store lets old new w (Ok x) is l = tt
left_by_first store lets old new w (Err why) is l = left_by_more store running (running_first lets) old new w why (λ may. is) (λ p q answer ran. (is, ran)) l

-- what was done is left where its answer couldn't be written
pub left_by_write : {S T : Type 0} (store : Ghosts S) (deed : Deed) (old new : Session S) (w : Writing) (answer : Answer) (result : Result T Stop) → deed.does (at store old) (at store new) answer
    → IfErr result (λ why. (why ≡ stop.Output) ⊎ (why ≡ stop.Refused refusal.OutOfMemory))
    → (result ≡ Err stop.Output → WrotePart w [] (answer_text answer)) → (result ≡ Err (stop.Refused refusal.OutOfMemory) → Wrote w []) → (result ≡ Err (stop.Refused refusal.OutOfMemory) → prints answer ≡ true)
    → IfErr result (LeftBy store deed old new w)
left_by_write store deed old new w answer (Ok x) did kind part none lines = tt
left_by_write store deed old new w answer (Err stop.Output) did kind part none lines = record { done = record { answer = answer; did = did }; part = part refl }
left_by_write store deed old new w answer (Err (stop.Refused refusal.OutOfMemory)) did kind part none lines = (inr (record { done = record { answer = answer; did = did }; lines = lines refl }), none refl)
left_by_write store deed old new w answer (Err (stop.Misread e)) did kind part none lines = absurd (⊎_elim (λ h. cc) (λ h. cc) kind)
left_by_write store deed old new w answer (Err (stop.Refused (refusal.Objected o))) did kind part none lines = absurd (⊎_elim (λ h. cc) (λ h. cc) kind)
left_by_write store deed old new w answer (Err (stop.Refused (refusal.Found found))) did kind part none lines = absurd (⊎_elim (λ h. cc) (λ h. cc) kind)
left_by_write store deed old new w answer (Err (stop.Refused refusal.Store)) did kind part none lines = absurd (⊎_elim (λ h. cc) (λ h. cc) kind)
left_by_write store deed old new w answer (Err (stop.Refused (refusal.Spent e))) did kind part none lines = absurd (⊎_elim (λ h. cc) (λ h. cc) kind)
left_by_write store deed old new w answer (Err (stop.Refused (refusal.Broken e))) did kind part none lines = absurd (⊎_elim (λ h. cc) (λ h. cc) kind)
left_by_write store deed old new w answer (Err (stop.Refused (refusal.Repeated id))) did kind part none lines = absurd (⊎_elim (λ h. cc) (λ h. cc) kind)

-- what is left for a batch is left once it was run first, or none was
pub enough_first : {S : Type 0} (store : Ghosts S) (lets : Bool) (old between : Session S) (answer : Answer) → RunsFirst lets (at store old) (at store between) answer → HasEnough store old → HasEnough store between
enough_first store lets old between answer ran enough = ⊎_elim
    (λ same. λ was.
    let is : at store between ≡ at store old = same.0 in
    subst (λ (p : Progress). Suffices p.content (length p.waiting)) (sym is) (enough (subst (λ (p : Progress). IsTrue p.documents_alone) is was)))
    (λ batch. λ was.
    let u = batch.1.runs.ran.ran.uses in
    let s = enough (subst (λ (b : Bool). IsTrue b) batch.1.runs.alone was) in
    subst (λ (w : List Waiting). Suffices (store.content between.store) (length w)) (sym batch.1.runs.none_waits) (record { nonces = omega (arith, s.nonces, u.counter); numbers = λ key. omega (arith, s.numbers key, u.numbers key) }))
    (first_as lets (at store old) (at store between) answer ran)

-- a refusal behind the first step has its cause since before that step
pub caused_since : {S T : Type 0} (store : Ghosts S) (old between new : Session S) (result : Result T Stop) → Exchanged store old.store between.store → store.faults old.store ≤ store.faults between.store
    → (IsTrue store.tells → HasEnough store old → HasEnough store between) → IfErr result (StopsFor store between new) → IfErr result (StopsFor store old new)
caused_since store old between new (Ok x) chain faults enough h = tt
caused_since {S} store old between new (Err why) chain faults enough h = by (refusal_in_stop why) h
  where
    by : (o : Option Refusal) → IfSome o (IsCaused store between new) → IfSome o (IsCaused store old new)
    by None h = tt
    by (Some r) h = record {
      fault = λ is. rose_before faults (h.fault is);
      reason = h.reason;
      enough = λ told e. h.enough told (enough told e);
      cause = caused_before store old.store between.store new.store r chain h.cause;
    }

-- what two steps keep, one after the other
pub kept_then : {S : Type 0} (store : Ghosts S) (old between new : Session S) (a b c : ℕ) (result : Result (Unit {0}) Stop) → CallsGoOn store old.store between.store → a ≤ b
    → (IsTrue store.tells → HasEnough store old → HasEnough store between) → IsKeptLine store between new (counts b c) result → IsKeptLine store old new (counts a c) result
kept_then store old between new a b c result calls le enough then = record {
  session = record { stands = then.session.stands; runs = then.session.runs; calls = calls_then store old.store between.store new.store calls then.session.calls };
  caused = caused_since store old between new result calls.chain calls.later enough then.caused;
  output = record { later = omega (arith, le, then.output.later); fault = λ is. rose_before le (then.output.fault is) };
}

-- what an audit finds may refuse a statement where it may refuse it wherever it stands
finds_at : (p : Progress) (s : Statement) (found : Finding) → may_find s found ≡ true → may_find_at p s found ≡ true
finds_at p s found may = by (lets_run s && not (is_nothing p.waiting))
  where
    by : (b : Bool) → cond b true (may_find s found) ≡ true
    by true = refl
    by false = may

-- or where it lets a batch run first that waits
finds_first : (p : Progress) (s : Statement) (found : Finding) → lets_run s ≡ true → is_nothing p.waiting ≡ false → may_find_at p s found ≡ true
finds_first p s found lets waits = rw (lets, waits) refl

-- what stands against a statement, or an audit finds, refuses its line
refused_by : (s : Statement) (p : Progress) (why : Stop) → StoppedFor (objection_to p s) why
    → ((found : Finding) → why ≡ stop.Refused (refusal.Found found) → may_find_at p s found ≡ true) → RefusedBy (Ok (Some s)) p why
refused_by s p (stop.Misread e) h finds = elim h [ ]
refused_by s p stop.Output h finds = tt
refused_by s p (stop.Refused (refusal.Found found)) h finds = finds found refl
refused_by s p (stop.Refused (refusal.Objected o)) h finds = subst (λ (against : Option Objection). RefusedFor against (objection_text o)) (sym h) refl
refused_by s p (stop.Refused refusal.Store) h finds = tt
refused_by s p (stop.Refused refusal.OutOfMemory) h finds = tt
refused_by s p (stop.Refused (refusal.Spent e)) h finds = tt
refused_by s p (stop.Refused (refusal.Broken e)) h finds = tt
refused_by s p (stop.Refused (refusal.Repeated id)) h finds = tt

-- the same of one that was found for it
found_by : (s : Statement) (p : Progress) (why : Stop) → StoppedByFinding s why → (found : Finding) → why ≡ stop.Refused (refusal.Found found) → may_find_at p s found ≡ true
found_by s p why h found is = finds_at p s found (subst (StoppedByFinding s) is h)

first_for : (p : Progress) (s : Statement) (why : Stop) → StoppedFirst (lets_run s) p why → StoppedFor (objection_to p s) why
first_for p s (stop.Misread e) h = elim h.1.1 [ ]
first_for p s stop.Output h = tt
first_for p s (stop.Refused (refusal.Objected o)) h = against_first p s o h.0 h.1.1
first_for p s (stop.Refused (refusal.Found found)) h = tt
first_for p s (stop.Refused refusal.Store) h = tt
first_for p s (stop.Refused refusal.OutOfMemory) h = tt
first_for p s (stop.Refused (refusal.Spent e)) h = tt
first_for p s (stop.Refused (refusal.Broken e)) h = tt
first_for p s (stop.Refused (refusal.Repeated id)) h = tt

reads_as : (why : ScriptFault) → ((why ≢ script_fault.OutOfMemory) × (stop_of_reading why ≡ stop.Misread why)) ⊎ (why ≡ script_fault.OutOfMemory)
reads_as script_fault.OutOfMemory = inr refl
reads_as (script_fault.Operation number op) = inl ((λ e. cc), refl)
reads_as script_fault.NotJson = inl ((λ e. cc), refl)
reads_as script_fault.TooDeep = inl ((λ e. cc), refl)
reads_as script_fault.BadName = inl ((λ e. cc), refl)
reads_as script_fault.NotWhole = inl ((λ e. cc), refl)
reads_as script_fault.BadId = inl ((λ e. cc), refl)
reads_as script_fault.BadBody = inl ((λ e. cc), refl)
reads_as script_fault.BadInfo = inl ((λ e. cc), refl)
reads_as script_fault.NoOperations = inl ((λ e. cc), refl)
reads_as script_fault.TooManyOperations = inl ((λ e. cc), refl)
reads_as script_fault.BadStatement = inl ((λ e. cc), refl)
reads_as script_fault.BadCell = inl ((λ e. cc), refl)
reads_as script_fault.NotBuilt = inl ((λ e. cc), refl)

module _ {S : Type 0} (store : Ghosts S) (line : List ℕ) where
  -- a line that states nothing
  pub skipped_line : (old : Session S) (w : Writing) → w.after ≡ w.before → line_in line ≡ Ok None → store.trail old.store (store.calls old.store) ≡ store.content old.store → HasDoneLine store line old old w
  skipped_line old w unwritten read here = record {
    between = record { session = old; written = w.before };
    first = record {
      ran = record { answer = Nothing; did = subst (λ (r : Result (Option Statement) ScriptFault). RunsFirst (line_lets_run r) (at store old) (at store old) Nothing) (sym read) (refl, refl); writes = λ told. sym (append-nil w.before) };
      since = omega arith;
      later = omega arith;
      stands = here;
    };
    done = record { answer = Nothing; did = subst (λ (r : Result (Option Statement) ScriptFault). PlaysAs r (at store old) (at store old) Nothing) (sym read) (refl, refl); writes = λ told. unwritten ∙ sym (append-nil w.before) };
  }

  -- a line that is no statement
  pub misread_line : (old : Session S) (w : Writing) (why : ScriptFault) → w.after ≡ w.before → (why ≢ script_fault.OutOfMemory → line_in line ≡ Err why) → HasStoppedLine store line old old w (stop_of_reading why)
  misread_line old w why unwritten read = ⊎_elim
      (λ text. subst (HasStoppedLine store line old old w) (sym text.1) (HasStoppedLine.First
      (subst (λ (r : Result (Option Statement) ScriptFault). RefusedAs r (at store old) (script_text why)) (sym (read text.0)) refl) (still, none)))
      (λ memory. subst (λ (e : ScriptFault). HasStoppedLine store line old old w (stop_of_reading e)) (sym memory) (HasStoppedLine.First tt (inl (inl still), none)))
      (reads_as why)
    where
      still : Stays (holding store old) (holding store old)
      still = record { holds = refl; runs = refl }

      none : Wrote w []
      none told = unwritten ∙ sym (append-nil w.before)

  module _ (s : Statement) (read : line_in line ≡ Ok (Some s)) where
    -- the first step is stopped
    pub stops_first : (old new : Session S) (w : Writing) (why : Stop) → StoppedFirst (lets_run s) (at store old) why
        → LeftBy store (running_first (lets_run s)) old new w why → HasStoppedLine store line old new w why
    stops_first old new w why refused l = HasStoppedLine.First
        (subst (λ (r : Result (Option Statement) ScriptFault). RefusedBy r (at store old) why) (sym read) (refused_by s (at store old) why (first_for (at store old) s why refused) (λ found is. finds_first (at store old) s found refused.0 refused.1.0)))
        (subst (λ (r : Result (Option Statement) ScriptFault). LeftBy store (running_first (line_lets_run r)) old new w why) (sym read) l)

    module _ (old new : Session S) (w : Writing) (between : Between S) (ran : HasDone store (RunsFirst (lets_run s)) old between.session (up_to w between))
        (since : store.calls old.store ≤ store.calls between.session.store) (later : store.calls between.session.store ≤ store.calls new.store)
        (stands : store.trail new.store (store.calls between.session.store) ≡ store.content between.session.store) where
      first : HasRunFirst store line old new w between
      first = record {
        ran = subst (λ (r : Result (Option Statement) ScriptFault). HasDone store (RunsFirst (line_lets_run r)) old between.session (up_to w between)) (sym read) ran;
        since = since;
        later = later;
        stands = stands;
      }

      pub done_line : {T : Type 0} (result : Result T Stop) → OnOk result (HasDone store (Does s) between.session new (from w between)) → OnOk result (HasDoneLine store line old new w)
      done_line (Ok x) done = record {
        between = between;
        first = first;
        done = subst (λ (r : Result (Option Statement) ScriptFault). HasDone store (PlaysAs r) between.session new (from w between)) (sym read) done;
      }
      done_line (Err e) done = tt

      -- the second step is stopped
      pub stops_then : {T : Type 0} (result : Result T Stop) → IfErr result (StoppedFor (objection_to (at store between.session) s)) → IfErr result (StoppedByFinding s)
          → IfErr result (LeftBy store (performing s) between.session new (from w between)) → IfErr result (HasStoppedLine store line old new w)
      stops_then (Ok x) refused found l = tt
      stops_then (Err why) refused found l = HasStoppedLine.Then between first
          (subst (λ (r : Result (Option Statement) ScriptFault). RefusedBy r (at store between.session) why) (sym read) (refused_by s (at store between.session) why refused (found_by s (at store between.session) why found)))
          (left_by_more store (performing s) (playing line) between.session new (from w between) why
          (λ runs. ap line_may_run read ∙ runs_may s runs) (λ p q answer does. subst (λ (r : Result (Option Statement) ScriptFault). PlaysAs r p q answer) (sym read) does) l)

-- ---- where no batch is run

none_waits : (waiting : List Waiting) → (length waiting == 0) ≡ true → waiting ≡ []
none_waits [] e = refl
none_waits (txn ∷ waiting) e = absurd (grind (arith, e))

pub waits_none : {S : Type 0} (store : Ghosts S) (session : Session S) (w : Writing) → (length session.batch == 0) ≡ true → w.after ≡ w.before → HasDone store (RunsWaiting session.batch) session session w
waits_none store session w none unwritten = record {
  answer = Nothing;
  did = subst (λ (batch : List Waiting). RunsWaiting batch (at store session) (at store session) Nothing) (sym (none_waits session.batch none)) (refl, refl);
  writes = λ told. unwritten ∙ sym (append-nil w.before);
}

pub lets_none : {S : Type 0} (store : Ghosts S) (lets : Bool) (session : Session S) (w : Writing) → lets ≡ false → w.after ≡ w.before → HasDone store (RunsFirst lets) session session w
lets_none store lets session w none unwritten = record {
  answer = Nothing;
  did = subst (λ (b : Bool). RunsFirst b (at store session) (at store session) Nothing) (sym none) (refl, refl);
  writes = λ told. unwritten ∙ sym (append-nil w.before);
}

-- ---- where no call was made

pub kept_still : {S : Type 0} (store : Ghosts S) (s : Session S) (b : ℕ) (x : Unit {0}) → Stands store s
    → (IsTrue store.tells → store.trail s.store (store.calls s.store) ≡ store.content s.store) → IsKeptLine store s s (counts b b) (Ok x)
kept_still store s b x stands present = record {
  session = record { stands = stands; runs = λ told. (stands told).runs; calls = calls_none store s.store present };
  caused = tt;
  output = record { later = omega arith; fault = λ e. absurd (cc e) };
}

pub kept_misread : {S : Type 0} (store : Ghosts S) (s : Session S) (b : ℕ) (why : ScriptFault) → Stands store s
    → (IsTrue store.tells → store.trail s.store (store.calls s.store) ≡ store.content s.store) → IsKeptLine store s s (counts b b) (Err (stop_of_reading why))
kept_misread {S} store s b why stands present = ⊎_elim
    (λ text. subst (λ (e : Stop). IsKeptLine store s s (counts b b) (Err e)) (sym text.1) (record { session = session; caused = tt; output = record { later = omega arith; fault = λ e. absurd (cc e) } }))
    (λ memory. subst (λ (f : ScriptFault). IsKeptLine store s s (counts b b) (Err (stop_of_reading f))) (sym memory) (record {
      session = session;
      caused = record { fault = λ e. absurd (cc e); reason = λ told. tt; enough = λ told enough. tt; cause = tt };
      output = record { later = omega arith; fault = λ e. absurd (cc e) };
    }))
    (reads_as why)
  where
    session : {E : Type 0} {e : E} → IsKept {T = Unit {0}} store s s (Err e)
    session = record { stands = tt; runs = λ told. (stands told).runs; calls = calls_none store s.store present }

-- ---- by what texts a line may be refused

pub may_misread : (stated : Stated) (why : ScriptFault) → (why ≢ script_fault.OutOfMemory → stated ≡ Err why) → MayStop stated (stop_of_reading why)
may_misread stated why read = ⊎_elim
    (λ text. subst (MayStop stated) (sym text.1) (subst (λ (r : Stated). MayRefuseAs r (script_text why)) (sym (read text.0)) refl))
    (λ memory. subst (λ (e : ScriptFault). MayStop stated (stop_of_reading e)) (sym memory) tt)
    (reads_as why)

may_stated : (stated : Stated) (s : Statement) (why : Stop) → stated ≡ Ok (Some s) → IsOfStatement why
    → ((found : Finding) → why ≡ stop.Refused (refusal.Found found) → MayFindAs (Ok (Some s)) found) → MayStop stated why
may_stated stated s (stop.Misread w) read of finds = elim of [ ]
may_stated stated s (stop.Refused (refusal.Found found)) read of finds = subst (λ (r : Stated). MayFindAs r found) (sym read) (finds found refl)
may_stated stated s (stop.Refused (refusal.Objected o)) read of finds = subst (λ (r : Stated). MayRefuseAs r (objection_text o)) (sym read) (record { why = o; is = refl })
may_stated stated s (stop.Refused refusal.Store) read of finds = tt
may_stated stated s (stop.Refused refusal.OutOfMemory) read of finds = tt
may_stated stated s (stop.Refused (refusal.Spent e)) read of finds = tt
may_stated stated s (stop.Refused (refusal.Broken e)) read of finds = tt
may_stated stated s (stop.Refused (refusal.Repeated id)) read of finds = tt
may_stated stated s stop.Output read of finds = tt

pub may_stop_first : (stated : Stated) (s : Statement) (p : Progress) (why : Stop) → stated ≡ Ok (Some s) → StoppedFirst (lets_run s) p why → MayStop stated why
may_stop_first stated s p why read h = may_stated stated s why read (of why h.1.1) (λ found is. ap (λ (b : Bool). b || may_find s found) h.0)
  where
    of : (w : Stop) → StoppedFor (objection_at_end p) w → IsOfStatement w
    of (stop.Misread w) h = h
    of (stop.Refused r) h = tt
    of stop.Output h = tt

pub may_stop : (stated : Stated) (s : Statement) (result : Result (Unit {0}) Stop) → stated ≡ Ok (Some s) → IfErr result IsOfStatement → IfErr result (StoppedByFinding s) → IfErr result (MayStop stated)
may_stop stated s (Ok x) read h found = tt
may_stop stated s (Err why) read h found = may_stated stated s why read h (λ f is. either f (subst (StoppedByFinding s) is found))
  where
    either : (f : Finding) → may_find s f ≡ true → (lets_run s || may_find s f) ≡ true
    either f may = by (lets_run s)
      where
        by : (b : Bool) → (b || may_find s f) ≡ true
        by true = refl
        by false = may
