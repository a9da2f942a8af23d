-- How a call stops: at a line, at the end of the input, or where no line is read.
use Rattle.std.proofs.Common.{◌≡◌, ◌≤◌, ℕ, ◌+◌, Bool, true, false, List, [], Option, Some, None, Result, Ok, Err, OnOk, IsTrue, ◌⊎◌, ⊎_elim, inl, inr, refl, sym, ap, ◌∙◌, subst, cond, codes, arith}
use Rattle.std.specs.Prelude.{IfSome}
use Rattle.std.proofs.lemmas.List.{append-nil}
use Rattle.store_trait.specs.Contents.{Content}
use Rattle.store_trait.specs.declared.store.Store.{Ghosts}
use Rattle.txn_io.specs.Lines.{IsPartTaken, reading}
use Rattle.txn_io.specs.Pour.{IsPartPut}
use Rattle.txn_io.specs.Unread.{Unread, HasRead, IsRefused}
use Rattle.txn_io.specs.declared.source.Source.{Ghosts as SourceGhosts}
use Rattle.txn_io.specs.declared.lines.LineFault.{LineFault}
use Rattle.txn_io.specs.declared.lines.LineFault.TheVariants as line_fault
use Rattle.txn_script.specs.Faults.{fault_text as script_text}
use Rattle.txn_script.specs.Statements.{line_in}
use Rattle.txn_script.specs.declared.fault.ScriptFault.{ScriptFault}
use Rattle.txn_script.specs.declared.statement.Statement.{Statement}
use Rattle.txn_play.specs.Remains.{HasLeft, Stays}
use Rattle.txn_play.specs.Progress.{Progress, lets_run, runs_batch}
use Rattle.txn_play.specs.Refusals.{IsUnspent}
use Rattle.txn_play.specs.Sessions.{HasEnough, IsCaused, at, holding}
use Rattle.txn_play.specs.declared.answer.Answer.{Answer}
use Rattle.txn_play.specs.declared.finding.Finding.TheVariants as finding
use Rattle.txn_play.specs.declared.objection.Objection.{Objection}
use Rattle.txn_play.specs.declared.refusal.Refusal.{Refusal}
use Rattle.txn_play.specs.declared.refusal.Refusal.TheVariants as refusal
use Rattle.txn_play.specs.declared.session.Session.{Session}
use Rattle.txn_play.proofs.BatchRuns.{left_more}
use Rattle.txn_cli.specs.Call.{HasDoneNext, HasPlayed, HasStopped, Held, StopsWith, Taken, held}
use Rattle.txn_cli.specs.Causes.{NoneSpent}
use Rattle.txn_cli.specs.Faults.{OrShort, fault_of_line, fault_of_stop, objection_text, refusal_in_stop}
use Rattle.txn_cli.specs.Line.{Deed, HasDone, HasDoneIdly, HasStoppedLine, LeftBy, RefusedBy, StoppedWaiting, RunsWaiting, playing, running, running_first}
use Rattle.txn_cli.specs.Output.{Writing, Wrote, answer_text, answers_text}
use Rattle.txn_cli.specs.Script.{DoesNext, Finds, Reached, RefusedFor, Refuses, line_lets_run, line_may_run, next_lets_run, next_may_run, next_of}
use Rattle.txn_cli.specs.declared.fault.Fault.{Fault}
use Rattle.txn_cli.specs.declared.fault.Fault.TheVariants as fault
use Rattle.txn_cli.specs.declared.stop.Stop.{Stop}
use Rattle.txn_cli.specs.declared.stop.Stop.TheVariants as stop
use Rattle.txn_cli.proofs.Coming.{HasCome, comes_between, comes_first, comes_still, next_is}
use Rattle.txn_cli.proofs.Scripts.{lets_next, may_next, read_out}

-- what comes next is refused by the text of what stopped it, where that has one, or by what an audit finds
abbrev pub RefusesBy : Result (Option (List ℕ)) LineFault → Progress → Stop → Type 0
RefusesBy next p (stop.Misread why) = Refuses next p (script_text why)
RefusesBy next p (stop.Refused (refusal.Objected why)) = Refuses next p (objection_text why)
RefusesBy next p (stop.Refused (refusal.Found found)) = Finds next p found
RefusesBy next p _ = Unit {0}

of_line : (line : List ℕ) (p : Progress) (why : Stop) → RefusedBy (line_in line) p why → RefusesBy (Ok (Some line)) p why
of_line line p (stop.Misread w) h = h
of_line line p (stop.Refused (refusal.Objected o)) h = h
of_line line p (stop.Refused (refusal.Found found)) h = h
of_line line p (stop.Refused refusal.Store) h = tt
of_line line p (stop.Refused refusal.OutOfMemory) h = tt
of_line line p (stop.Refused (refusal.Spent e)) h = tt
of_line line p (stop.Refused (refusal.Broken e)) h = tt
of_line line p (stop.Refused (refusal.Repeated id)) h = tt
of_line line p stop.Output h = tt

-- where nonces and numbers suffice, neither is wanting
pub unspent_stop : (number : ℕ) (why : Stop) (f : Fault) → OrShort (fault_of_stop number why) f → IfSome (refusal_in_stop why) IsUnspent → NoneSpent f
unspent_stop number (stop.Misread why) f is un = ⊎_elim (λ e. subst NoneSpent (sym e) tt) (λ e. subst NoneSpent (sym e) tt) is
unspent_stop number stop.Output f is un = subst NoneSpent (sym is) tt
unspent_stop number (stop.Refused (refusal.Objected o)) f is un = ⊎_elim (λ e. subst NoneSpent (sym e) tt) (λ e. subst NoneSpent (sym e) tt) is
unspent_stop number (stop.Refused (refusal.Found (finding.Unsound rule name))) f is un = subst NoneSpent (sym is) tt
unspent_stop number (stop.Refused (refusal.Found finding.TooManyCells)) f is un = subst NoneSpent (sym is) tt
unspent_stop number (stop.Refused refusal.Store) f is un = subst NoneSpent (sym is) tt
unspent_stop number (stop.Refused refusal.OutOfMemory) f is un = subst NoneSpent (sym is) tt
unspent_stop number (stop.Refused (refusal.Spent e)) f is un = elim un [ ]
unspent_stop number (stop.Refused (refusal.Broken e)) f is un = subst NoneSpent (sym is) tt
unspent_stop number (stop.Refused (refusal.Repeated id)) f is un = subst NoneSpent (sym is) tt

-- a script has come so far, and what stopped it
module _ {S : Type 0} (store : Ghosts S) (script untaken : List ℕ) (begun : Progress) (n : ℕ) (left : Unread) (tells : Bool) (before : List ℕ)
    (session next : Session S) (now after : List ℕ) (deed : Deed)
    (h : HasCome store script (store.trail next.store) begun n left session (record { tells = tells; before = before; after = now }))
    (later : store.calls session.store ≤ store.calls next.store)
    (does : (p q : Progress) (answer : Answer) → deed.does p q answer → DoesNext script n p q answer)
    (may : deed.may_run ≡ true → next_may_run (next_of n script) ≡ true) where
  abbrev taken : Taken
  taken = record { script = script; untaken = untaken }

  abbrev reached : Reached
  reached = record { count = n; last = at store session; answers = h.answers }

  abbrev end : Held
  end = held store next.store next.runs.items

  abbrev whole : Writing
  whole = record { tells = tells; before = before; after = after }

  abbrev step : Writing
  step = record { tells = tells; before = now; after = after }

  unwritten : Wrote step [] → Wrote whole (answers_text h.answers)
  unwritten none told = none told ∙ append-nil now ∙ h.writes told

  ends : (why : Fault) → NoneSpent why → StopsWith taken reached end whole why → HasStopped taken begun end whole why
  ends why unspent stops = record { reached = reached; plays = h.at.plays; later = later; unspent = unspent; stops = stops }

  left_next : (why : Refusal) → HasLeft deed.may_run session.batch (store.trail next.store) (holding store session) (holding store next) why
      → HasLeft (next_may_run (next_of n script)) session.batch (store.trail next.store) (holding store session) (holding store next) why
  left_next why l = left_more deed.may_run (next_may_run (next_of n script)) session.batch (store.trail next.store) (holding store session) (holding store next) why may l

  abbrev done_next : HasDoneIdly store deed session next → HasDoneNext script reached end
  done_next d = record {
    next = at store next;
    answer = d.answer;
    does = does (at store session) (at store next) d.answer d.did;
    holds = record { content = refl; calls = refl; runs = refl };
  }

  -- a line is refused by its text, or memory for that is wanting
  by_text : (text : List ℕ) (f : Fault) → (f ≡ fault.Line (n + 1) text) ⊎ (f ≡ fault.OutOfMemory) → Refuses (next_of n script) (at store session) text
      → Stays (holding store session) (holding store next) → Wrote step [] → HasStopped taken begun end whole f
  by_text text f is refused stays none = ⊎_elim
      (λ e. subst (HasStopped taken begun end whole) (sym e) (ends (fault.Line (n + 1) text) tt (record { next = (refl, refused); left = stays }, unwritten none)))
      (λ e. subst (HasStopped taken begun end whole) (sym e) (ends fault.OutOfMemory tt (inl (record { next = tt; left = inl stays }), unwritten none)))
      is

  -- what stopped it ends the call
  pub stops_here : (why : Stop) (f : Fault) → OrShort (fault_of_stop (n + 1) why) f
      → RefusesBy (next_of n script) (at store session) why
      → IfSome (refusal_in_stop why) IsUnspent → LeftBy store deed session next step why → HasStopped taken begun end whole f
  stops_here (stop.Misread w) f is text unspent l = by_text (script_text w) f is text l.0 l.1
  stops_here (stop.Refused (refusal.Objected o)) f is text unspent l = by_text (objection_text o) f is text l.0 l.1
  stops_here (stop.Refused (refusal.Found (finding.Unsound rule name))) f is found unspent l =
      subst (HasStopped taken begun end whole) (sym is) (ends (fault.Unsound rule name) tt (record { next = found; left = l.0 }, unwritten l.1))
  stops_here (stop.Refused (refusal.Found finding.TooManyCells)) f is found unspent l =
      subst (HasStopped taken begun end whole) (sym is) (ends fault.TooManyCells tt (record { next = found; left = l.0 }, unwritten l.1))
  stops_here (stop.Refused refusal.OutOfMemory) f is text unspent l =
      subst (HasStopped taken begun end whole) (sym is) (ends fault.OutOfMemory tt (⊎_elim (λ held. inl (record { next = tt; left = left_next refusal.OutOfMemory held })) (λ d. inr (record { done = done_next d.done; lines = d.lines })) l.0, unwritten l.1))
  stops_here (stop.Refused refusal.Store) f is text unspent l =
      subst (HasStopped taken begun end whole) (sym is) (ends fault.Store tt (record { next = tt; left = left_next refusal.Store l.0 }, unwritten l.1))
  stops_here (stop.Refused (refusal.Spent e)) f is text unspent l = elim unspent [ ]
  stops_here (stop.Refused (refusal.Broken e)) f is text unspent l =
      subst (HasStopped taken begun end whole) (sym is) (ends (fault.Broken e) tt (record { next = tt; left = left_next (refusal.Broken e) l.0 }, unwritten l.1))
  stops_here (stop.Refused (refusal.Repeated id)) f is text unspent l =
      subst (HasStopped taken begun end whole) (sym is) (ends (fault.Repeated id) tt (record { next = tt; left = left_next (refusal.Repeated id) l.0 }, unwritten l.1))
  stops_here stop.Output f is text unspent l =
      subst (HasStopped taken begun end whole) (sym is) (ends fault.Output tt (record {
        done = done_next l.done;
        part = λ told. subst (λ (w : List ℕ). IsPartPut w after (answer_text l.done.answer)) (append-nil now ∙ h.writes told) (l.part told);
      }))

-- ---- a line is stopped

module _ {S : Type 0} (store : Ghosts S) (script untaken : List ℕ) (begun : Progress) (n : ℕ) (left : Unread) (tells : Bool) (before : List ℕ)
    (session next : Session S) (now after line : List ℕ) (old : ℕ → Content)
    (same : (k : ℕ) → k ≤ store.calls session.store → store.trail next.store k ≡ old k) (later : store.calls session.store ≤ store.calls next.store)
    (h : HasCome store script old begun n left session (record { tells = tells; before = before; after = now })) (first : next_of n script ≡ Ok (Some line)) where
  came : HasCome store script (store.trail next.store) begun n left session (record { tells = tells; before = before; after = now })
  came = comes_still store script begun n left tells before old (store.trail next.store) session (record { tells = tells; before = before; after = now }) same h

  refuses : (p : Progress) (why : Stop) → RefusedBy (line_in line) p why → RefusesBy (next_of n script) p why
  refuses p why refused = subst (λ (r : Result (Option (List ℕ)) LineFault). RefusesBy r p why) (sym first) (of_line line p why refused)

  pub stops_line : (why : Stop) (f : Fault) → OrShort (fault_of_stop (n + 1) why) f → IfSome (refusal_in_stop why) IsUnspent
      → HasStoppedLine store line session next (record { tells = tells; before = now; after = after }) why
      → HasStopped (record { script = script; untaken = untaken }) begun (held store next.store next.runs.items) (record { tells = tells; before = before; after = after }) f
  stops_line why f is unspent (HasStoppedLine.First refused l) =
      stops_here store script untaken begun n left tells before session next now after (running_first (line_lets_run (line_in line))) came later
      (λ p q answer ran. DoesNext.Batch (lets_next n script line first ran.0) ran.1)
      (λ lets. may_next n script line first (lets_may (line_in line) lets))
      why f is (refuses (at store session) why refused) unspent l
    where
      lets_may : (r : Result (Option Statement) ScriptFault) → line_lets_run r ≡ true → line_may_run r ≡ true
      lets_may (Ok None) lets = absurd (cc)
      lets_may (Ok (Some s)) lets = by (runs_batch s)
        where
          by : (b : Bool) → cond b true (lets_run s) ≡ true
          by true = refl
          by false = lets
      lets_may (Err e) lets = absurd (cc)
  stops_line why f is unspent (HasStoppedLine.Then between ran refused l) =
      stops_here store script untaken begun n left tells before between.session next between.written after (playing line)
      (comes_between store script begun n left tells before old (store.trail next.store) line session next now after between refl same h first ran) ran.later
      (λ p q answer does. DoesNext.Line line first does)
      (λ may. may_next n script line first may)
      why f is (refuses (at store between.session) why refused) unspent l

-- ---- the end of the input

module _ {S : Type 0} (store : Ghosts S) (script untaken : List ℕ) (begun : Progress) (n : ℕ) (left new : Unread) (tells : Bool) (before : List ℕ)
    (session next : Session S) (now after : List ℕ) (old : ℕ → Content)
    (same : (k : ℕ) → k ≤ store.calls session.store → store.trail next.store k ≡ old k) (later : store.calls session.store ≤ store.calls next.store)
    (h : HasCome store script old begun n left session (record { tells = tells; before = before; after = now })) (read : HasRead left new None) where
  came_out : HasCome store script (store.trail next.store) begun n left session (record { tells = tells; before = before; after = now })
  came_out = comes_still store script begun n left tells before old (store.trail next.store) session (record { tells = tells; before = before; after = now }) same h

  at_end : next_of n script ≡ Ok None
  at_end = next_is script old begun n (at store session) h.answers left new None h.at read

  -- every line was done, and nothing waits
  pub plays_out : (result : Result (Unit {0}) Stop) → store.trail next.store (store.calls next.store) ≡ store.content next.store
      → OnOk result (HasDone store (RunsWaiting session.batch) session next (record { tells = tells; before = now; after = after })) → OnOk result (next.batch ≡ [])
      → OnOk result (HasPlayed script begun (held store next.store next.runs.items) (record { tells = tells; before = before; after = after }))
  plays_out (Err e) here done cleared = tt
  plays_out (Ok x) here done cleared =
      let come = comes_first store script begun n left tells before (store.trail next.store) true session next now after came_out (λ lets. ap next_lets_run at_end) (record { answer = done.answer; did = done.did; writes = done.writes }) later here in
      record {
        reached = record { count = n; last = at store next; answers = come.answers };
        plays = record { plays = come.at.plays; ended = come.at.rest ∙ read_out left.taken left.left read.line; none_waits = cleared };
        holds = record { content = refl; calls = refl; runs = refl };
        writes = come.writes;
      }

  -- the end is refused where a batch waits that may not run, or over what an audit finds something against
  refuses_end : (why : Stop) → StoppedWaiting (at store session) why → RefusesBy (next_of n script) (at store session) why
  refuses_end (stop.Misread w) refused = elim refused.1 [ ]
  refuses_end (stop.Refused (refusal.Objected o)) refused =
      subst (λ (r : Result (Option (List ℕ)) LineFault). Refuses r (at store session) (objection_text o)) (sym at_end)
      (subst (λ (against : Option Objection). RefusedFor against (objection_text o)) (sym refused.1) refl)
  refuses_end (stop.Refused (refusal.Found found)) refused =
      subst (λ (r : Result (Option (List ℕ)) LineFault). Finds r (at store session) found) (sym at_end) refused.0
  refuses_end (stop.Refused refusal.Store) refused = tt
  refuses_end (stop.Refused refusal.OutOfMemory) refused = tt
  refuses_end (stop.Refused (refusal.Spent e)) refused = tt
  refuses_end (stop.Refused (refusal.Broken e)) refused = tt
  refuses_end (stop.Refused (refusal.Repeated id)) refused = tt
  refuses_end stop.Output refused = tt

  pub stops_end : (why : Stop) (f : Fault) → OrShort (fault_of_stop (n + 1) why) f → IfSome (refusal_in_stop why) IsUnspent
      → StoppedWaiting (at store session) why
      → LeftBy store running session next (record { tells = tells; before = now; after = after }) why
      → HasStopped (record { script = script; untaken = untaken }) begun (held store next.store next.runs.items) (record { tells = tells; before = before; after = after }) f
  stops_end why f is unspent refused l =
      stops_here store script untaken begun n left tells before session next now after running came_out later
      (λ p q answer ran. DoesNext.Batch (ap next_lets_run at_end) ran) (λ may. ap next_may_run at_end)
      why f is (refuses_end why refused) unspent l

-- ---- a line isn't read

module _ {S : Type 0} (store : Ghosts S) (script untaken : List ℕ) (begun : Progress) (n : ℕ) (left : Unread) (session : Session S) (w : Writing)
    (h : HasCome store script (store.trail session.store) begun n left session w) where
  next_refused : (r : Result (Option (List ℕ)) LineFault) (text : List ℕ) → reading left.taken left.left ≡ r → Refuses r (at store session) text → Refuses (next_of n script) (at store session) text
  next_refused r text read refused =
      let is : next_of n script ≡ r = rw (h.at.taken, h.at.rest) read in
      subst (λ (r : Result (Option (List ℕ)) LineFault). Refuses r (at store session) text) (sym is) refused

  stopped : (f : Fault) → NoneSpent f → StopsWith (record { script = script; untaken = untaken }) (record { count = n; last = at store session; answers = h.answers }) (held store session.store session.runs.items) w f
      → HasStopped (record { script = script; untaken = untaken }) begun (held store session.store session.runs.items) w f
  stopped f unspent stops = record { reached = record { count = n; last = at store session; answers = h.answers }; plays = h.at.plays; later = omega arith; unspent = unspent; stops = stops }

  still : Stays (holding store session) (holding store session)
  still = record { holds = refl; runs = refl }

  short : HasStopped (record { script = script; untaken = untaken }) begun (held store session.store session.runs.items) w fault.OutOfMemory
  short = stopped fault.OutOfMemory tt (inl (record { next = tt; left = inl still }), h.writes)

  limit : (text : List ℕ) (f : Fault) → (f ≡ fault.Line (n + 1) text) ⊎ (f ≡ fault.OutOfMemory) → Refuses (next_of n script) (at store session) text
      → HasStopped (record { script = script; untaken = untaken }) begun (held store session.store session.runs.items) w f
  limit text f is refused = ⊎_elim
      (λ e. subst (HasStopped (record { script = script; untaken = untaken }) begun (held store session.store session.runs.items) w) (sym e) (stopped (fault.Line (n + 1) text) tt (record { next = (refl, refused); left = still }, h.writes)))
      (λ e. subst (HasStopped (record { script = script; untaken = untaken }) begun (held store session.store session.runs.items) w) (sym e) short)
      is

  pub stops_unread : (why : LineFault) (f : Fault) → OrShort (fault_of_line (n + 1) why) f
      → (why ≡ line_fault.ReadFault → IsPartTaken left.left untaken)
      → (why ≡ line_fault.TooLong → reading left.taken left.left ≡ Err line_fault.TooLong)
      → (why ≡ line_fault.ScriptTooLong → reading left.taken left.left ≡ Err line_fault.ScriptTooLong)
      → HasStopped (record { script = script; untaken = untaken }) begun (held store session.store session.runs.items) w f
  stops_unread line_fault.ReadFault f is part long script_long =
      subst (HasStopped (record { script = script; untaken = untaken }) begun (held store session.store session.runs.items) w) (sym is)
      (stopped fault.Input tt (record { next = subst (λ (l : List ℕ). IsPartTaken l untaken) (sym h.at.rest) (part refl); left = still }, h.writes))
  stops_unread line_fault.TooLong f is part long script_long = limit (codes "too long") f is (next_refused (Err line_fault.TooLong) (codes "too long") (long refl) refl)
  stops_unread line_fault.ScriptTooLong f is part long script_long = limit (codes "script too long") f is (next_refused (Err line_fault.ScriptTooLong) (codes "script too long") (script_long refl) refl)
  stops_unread line_fault.OutOfMemory f is part long script_long = subst (HasStopped (record { script = script; untaken = untaken }) begun (held store session.store session.runs.items) w) (sym is) short

-- a line isn't read, as its reader says
pub stops_refused : {S I : Type 0} (store : Ghosts S) (source : SourceGhosts I) (script : List ℕ) (begun : Progress) (n : ℕ) (left : Unread) (session : Session S) (w : Writing) (before after : I)
    → HasCome store script (store.trail session.store) begun n left session w → IsTrue source.tells
    → (why : LineFault) (f : Fault) → OrShort (fault_of_line (n + 1) why) f → IsRefused source before after left why
    → HasStopped (record { script = script; untaken = source.rest after }) begun (held store session.store session.runs.items) w f
stops_refused store source script begun n left session w before after h tells why f is refused =
    stops_unread store script (source.rest after) begun n left session w h why f is
    (λ e. (subst (IsRefused source before after left) e refused).part tells)
    (λ e. (subst (IsRefused source before after left) e refused) tells)
    (λ e. (subst (IsRefused source before after left) e refused) tells)

-- where there were nonces and numbers enough, none is wanting
pub unspent_enough : {S : Type 0} (store : Ghosts S) (old new : Session S) (why : Option Refusal) → IsTrue store.tells → HasEnough store old → IfSome why (IsCaused store old new) → IfSome why IsUnspent
unspent_enough store old new None told enough h = tt
unspent_enough store old new (Some why) told enough h = h.enough told enough
