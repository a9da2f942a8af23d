-- Why a call was refused, by what stopped it.
use Rattle.std.proofs.Common.{◌≡◌, ◌≤◌, ℕ, ◌+◌, Bool, true, false, List, Option, Some, None, Ok, Err, IsTrue, ◌⊎◌, ⊎_elim, refl, sym, ap, subst, cond, codes}
use Rattle.std.specs.Prelude.{IfSome, Result}
use Rattle.store_trait.specs.Stores.{CallsGoOn}
use Rattle.store_trait.specs.declared.store.Store.{Ghosts}
use Rattle.txn_io.specs.declared.lines.LineFault.{LineFault}
use Rattle.txn_io.specs.declared.lines.LineFault.TheVariants as line_fault
use Rattle.txn_io.specs.declared.source.Source.{Ghosts as SourceGhosts}
use Rattle.txn_io.specs.Unread.{IsRefused, Unread}
use Rattle.store_laws.proofs.trails.CallsMade.{rose_before}
use Rattle.txn_play.proofs.Causing.{caused_before}
use Rattle.txn_play.specs.Sessions.{IsCaused as IsCausedIn}
use Rattle.txn_play.specs.declared.finding.Finding.{Finding}
use Rattle.txn_play.specs.declared.finding.Finding.TheVariants as finding
use Rattle.txn_play.specs.declared.refusal.Refusal.TheVariants as refusal
use Rattle.txn_play.specs.Progress.{Progress, is_nothing, objection_at_end}
use Rattle.txn_play.specs.declared.objection.Objection.{Objection}
use Rattle.txn_play.specs.declared.objection.Objection.TheVariants as objection
use Rattle.txn_play.specs.declared.session.Session.{Session}
use Rattle.txn_script.specs.Faults.{fault_text as script_text}
use Rattle.txn_script.specs.Statements.{line_in}
use Rattle.txn_cli.specs.Causes.{Circumstances, Counts, HasRisen, IsCaused, MayBeFound, MayBeRefused, circumstances, counts, told_script}
use Rattle.txn_cli.specs.Faults.{OrShort, fault_of_line, fault_of_stop, objection_text, refusal_in_stop}
use Rattle.txn_cli.specs.Line.{MayStop, StoppedWaiting}
use Rattle.txn_cli.specs.Script.{HasLines, MayFind, MayRefuse, next_of}
use Rattle.txn_cli.specs.declared.fault.Fault.{Fault}
use Rattle.txn_cli.specs.declared.fault.Fault.TheVariants as fault
use Rattle.txn_cli.specs.declared.stop.Stop.{Stop}
use Rattle.txn_cli.specs.declared.stop.Stop.TheVariants as stop
use Rattle.txn_cli.proofs.Coming.{IsReadTo, next_to}

-- what comes next may be refused by the text of what stopped it, where that has one, or by what an audit finds
abbrev pub MayRefuseBy : Result (Option (List ℕ)) LineFault → Stop → Type 0
MayRefuseBy next (stop.Misread why) = MayRefuse next (script_text why)
MayRefuseBy next (stop.Refused (refusal.Objected why)) = MayRefuse next (objection_text why)
MayRefuseBy next (stop.Refused (refusal.Found found)) = MayFind next found
MayRefuseBy next _ = Unit {0}

-- a line, and the end, by what stopped them
pub line_by : (line : List ℕ) (why : Stop) → MayStop (line_in line) why → MayRefuseBy (Ok (Some line)) why
line_by line (stop.Misread w) h = h
line_by line (stop.Refused (refusal.Objected o)) h = h
line_by line (stop.Refused (refusal.Found found)) h = h
line_by line (stop.Refused refusal.Store) h = tt
line_by line (stop.Refused refusal.OutOfMemory) h = tt
line_by line (stop.Refused (refusal.Spent e)) h = tt
line_by line (stop.Refused (refusal.Broken e)) h = tt
line_by line (stop.Refused (refusal.Repeated id)) h = tt
line_by line stop.Output h = tt

-- a batch that waits isn't built where it may not run
not_built : (p : Progress) (o : Objection) → objection_at_end p ≡ Some o → o ≡ objection.NotBuilt
not_built p o h = by (is_nothing p.waiting) p.documents_alone h
  where
    by : (none alone : Bool) → cond none None (cond alone None (Some objection.NotBuilt)) ≡ Some o → o ≡ objection.NotBuilt
    by true alone e = absurd (cc e)
    by false true e = absurd (cc e)
    by false false e = cc e

pub end_by : (p : Progress) (why : Stop) → StoppedWaiting p why → MayRefuseBy (Ok None) why
end_by p (stop.Misread w) h = elim h.1 [ ]
end_by p (stop.Refused (refusal.Objected o)) h = ap objection_text (not_built p o h.1)
end_by p (stop.Refused (refusal.Found found)) h = tt
end_by p (stop.Refused refusal.Store) h = tt
end_by p (stop.Refused refusal.OutOfMemory) h = tt
end_by p (stop.Refused (refusal.Spent e)) h = tt
end_by p (stop.Refused (refusal.Broken e)) h = tt
end_by p (stop.Refused (refusal.Repeated id)) h = tt
end_by p stop.Output h = tt

module _ {S I : Type 0} (store : Ghosts S) (source : SourceGhosts I) (in_grammar : Bool) (begun_input : I) (n : ℕ) (old : S) (next : Session S) (input output : Counts)
    (there : IsTrue source.tells → HasLines n (source.rest begun_input)) where
  abbrev call : Circumstances S
  call = circumstances in_grammar (told_script source begun_input) old next.store input output

  -- what is told of the script, of a source that tells or of one that doesn't
  of_told : (text : List ℕ) → (IsTrue source.tells → MayRefuse (next_of n (source.rest begun_input)) text)
      → IfSome (told_script source begun_input) (MayBeRefused (n + 1) text)
  of_told text may = by source.tells there may
    where
      by : (tells : Bool) → (IsTrue tells → HasLines n (source.rest begun_input)) → (IsTrue tells → MayRefuse (next_of n (source.rest begun_input)) text)
          → IfSome (cond tells (Some (source.rest begun_input)) None) (MayBeRefused (n + 1) text)
      by true lines h = record { count = n; next = refl; there = lines refl; may = h refl }
      by false lines h = tt

  -- the same of what an audit finds
  found_told : (found : Finding) → (IsTrue source.tells → MayFind (next_of n (source.rest begun_input)) found)
      → IfSome (told_script source begun_input) (MayBeFound found)
  found_told found may = by source.tells there may
    where
      by : (tells : Bool) → (IsTrue tells → HasLines n (source.rest begun_input)) → (IsTrue tells → MayFind (next_of n (source.rest begun_input)) found)
          → IfSome (cond tells (Some (source.rest begun_input)) None) (MayBeFound found)
      by true lines h = record { count = n; there = lines refl; may = h refl }
      by false lines h = tt

  short : IsCaused store call fault.OutOfMemory
  short = record { shown = tt; reason = λ told. tt }

  by_text : (text : List ℕ) (f : Fault) → (f ≡ fault.Line (n + 1) text) ⊎ (f ≡ fault.OutOfMemory)
      → (IsTrue source.tells → MayRefuse (next_of n (source.rest begun_input)) text) → IsCaused store call f
  by_text text f is may = ⊎_elim
      (λ e. subst (IsCaused store call) (sym e) (record { shown = of_told text may; reason = λ told. tt }))
      (λ e. subst (IsCaused store call) (sym e) short)
      is

  -- what stopped a line, or a batch behind the last one
  pub caused_stop : (between : Session S) (mid : ℕ) → CallsGoOn store old between.store → output.before ≤ mid
      → (why : Stop) (f : Fault) → OrShort (fault_of_stop (n + 1) why) f
      → (IsTrue source.tells → MayRefuseBy (next_of n (source.rest begun_input)) why)
      → IfSome (refusal_in_stop why) (IsCausedIn store between next)
      → (why ≡ stop.Output → HasRisen (counts mid output.after)) → IsCaused store call f
  caused_stop between mid made le (stop.Misread w) f is may h rose = by_text (script_text w) f is may
  caused_stop between mid made le (stop.Refused (refusal.Objected o)) f is may h rose = by_text (objection_text o) f is may
  caused_stop between mid made le (stop.Refused (refusal.Found (finding.Unsound rule name))) f is may h rose = subst (IsCaused store call) (sym is) (record { shown = (caused_before store old between.store next.store (refusal.Found (finding.Unsound rule name)) made.chain h.cause, found_told (finding.Unsound rule name) may); reason = h.reason })
  caused_stop between mid made le (stop.Refused (refusal.Found finding.TooManyCells)) f is may h rose = subst (IsCaused store call) (sym is) (record { shown = (caused_before store old between.store next.store (refusal.Found finding.TooManyCells) made.chain h.cause, found_told finding.TooManyCells may); reason = h.reason })
  caused_stop between mid made le (stop.Refused refusal.OutOfMemory) f is may h rose = subst (IsCaused store call) (sym is) short
  caused_stop between mid made le (stop.Refused refusal.Store) f is may h rose = subst (IsCaused store call) (sym is) (record { shown = rose_before made.later (h.fault refl); reason = λ told. tt })
  caused_stop between mid made le (stop.Refused (refusal.Spent e)) f is may h rose = subst (IsCaused store call) (sym is) (record { shown = caused_before store old between.store next.store (refusal.Spent e) made.chain h.cause; reason = h.reason })
  caused_stop between mid made le (stop.Refused (refusal.Broken e)) f is may h rose = subst (IsCaused store call) (sym is) (record { shown = caused_before store old between.store next.store (refusal.Broken e) made.chain h.cause; reason = h.reason })
  caused_stop between mid made le (stop.Refused (refusal.Repeated id)) f is may h rose = subst (IsCaused store call) (sym is) (record { shown = caused_before store old between.store next.store (refusal.Repeated id) made.chain h.cause; reason = h.reason })
  caused_stop between mid made le stop.Output f is may h rose = subst (IsCaused store call) (sym is) (record { shown = rose_before le (rose refl); reason = λ told. tt })

  -- a line wasn't read
  pub caused_unread : (left : Unread) (before after : I) → (IsTrue source.tells → IsReadTo (source.rest begun_input) n left)
      → (why : LineFault) (f : Fault) → OrShort (fault_of_line (n + 1) why) f → IsRefused source before after left why
      → (HasRisen (counts (source.faults before) (source.faults after)) → HasRisen input) → IsCaused store call f
  caused_unread left before after at line_fault.ReadFault f is refused rose = subst (IsCaused store call) (sym is) (record { shown = rose refused.rose; reason = λ told. tt })
  caused_unread left before after at line_fault.OutOfMemory f is refused rose = subst (IsCaused store call) (sym is) short
  caused_unread left before after at line_fault.TooLong f is refused rose =
      by_text (codes "too long") f is (λ told. subst (λ (r : Result (Option (List ℕ)) LineFault). MayRefuse r (codes "too long")) (sym (next_to (source.rest begun_input) n left (Err line_fault.TooLong) (at told) (refused told))) refl)
  caused_unread left before after at line_fault.ScriptTooLong f is refused rose =
      by_text (codes "script too long") f is (λ told. subst (λ (r : Result (Option (List ℕ)) LineFault). MayRefuse r (codes "script too long")) (sym (next_to (source.rest begun_input) n left (Err line_fault.ScriptTooLong) (at told) (refused told))) refl)
