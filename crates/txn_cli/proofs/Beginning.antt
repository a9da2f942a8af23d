-- How a call begins.
use Rattle.std.proofs.Common.{◌≡◌, ◌≤◌, ℕ, Bool, true, List, [], ◌++◌, IsTrue, Result, Err, ◌⊎◌, ⊎_elim, inl, inr, refl, sym, ◌∙◌, subst, arith}
use Rattle.std.proofs.lemmas.List.{append-nil}
use Rattle.store_trait.specs.declared.store.Store.{Ghosts}
use Rattle.txn_io.specs.Unread.{Unread}
use Rattle.txn_runner.specs.Calm.{IsCalm}
use Rattle.txn_play.specs.Batches.{MayRun}
use Rattle.txn_play.specs.Remains.{Stays}
use Rattle.txn_play.specs.Progress.{Progress, has_no_cell, holding_at}
use Rattle.txn_play.specs.Runs.{RunsGoOn}
use Rattle.txn_play.specs.Sessions.{IsBetween, IsNew, at}
use Rattle.txn_play.specs.declared.run.Run.{Run}
use Rattle.txn_play.specs.declared.session.Session.{Session}
use Rattle.txn_play.proofs.Opening.{none_is_empty}
use Rattle.txn_play.proofs.Sessions.{opens_calm, nothing_waits}
use Rattle.txn_cli.specs.Call.{HasStopped, Held, Taken, holding_in, start}
use Rattle.txn_cli.specs.Output.{Writing}
use Rattle.txn_cli.specs.Script.{Plays}
use Rattle.txn_cli.specs.Faults.{OrShort, fault_of_stop}
use Rattle.txn_play.specs.declared.refusal.Refusal.{Refusal}
use Rattle.txn_play.specs.declared.refusal.Refusal.TheVariants as refusal
use Rattle.txn_cli.specs.declared.stop.Stop.TheVariants as stop
use Rattle.txn_cli.specs.declared.fault.Fault.{Fault}
use Rattle.txn_cli.specs.declared.fault.Fault.TheVariants as fault
use Rattle.txn_cli.proofs.Coming.{HasCome}

-- the first look at the store was made, by one call that changed nothing
module _ {S : Type 0} (store : Ghosts S) (old new : Session S) (begins : IsNew old) where
  pub begins_stands : (IsTrue new.documents_alone → has_no_cell (store.content old.store) ≡ true) → store.content new.store ≡ store.content old.store → new.batch ≡ old.batch → new.runs.items ≡ old.runs.items → new.begun ≡ old.begun → IsBetween store new
  begins_stands nothing same batch runs begun = record {
    may_run = λ alone. subst (MayRun (store.content new.store)) (sym (batch ∙ begins.batch)) (nothing_waits (store.content new.store) (subst IsCalm (sym (same ∙ none_is_empty (store.content old.store) (nothing alone))) opens_calm));
    none_run = λ e. runs ∙ begins.runs;
    runs = subst (λ (rs : List Run). RunsGoOn (store.trail new.store) rs (store.calls new.store)) (sym (runs ∙ begins.runs)) tt;
    unbegun = λ e. (batch ∙ begins.batch, runs ∙ begins.runs);
  }

  pub begins_come : (script : List ℕ) (left : Unread) (w : Writing) → left.taken ≡ 0 → left.left ≡ script → w.after ≡ w.before
      → store.calls old.store ≤ store.calls new.store → store.trail new.store (store.calls new.store) ≡ store.content new.store
      → store.content new.store ≡ store.content old.store → new.documents_alone ≡ has_no_cell (store.content old.store) → new.batch ≡ old.batch → new.runs.items ≡ old.runs.items → new.begun ≡ old.begun
      → HasCome store script (store.trail new.store) (start store old.store) 0 left new w
  begins_come script left w none all unwritten later here same was batch runs begun = record {
    answers = [];
    at = record {
      plays = subst (λ (p : Progress). Plays script (store.trail new.store) (start store old.store) 0 p []) (sym still) (Plays.Opens (store.calls new.store) (record { later = later; stands = here ∙ same }));
      rest = sym all;
      taken = sym none;
    };
    writes = λ told. unwritten ∙ sym (append-nil w.before);
  }
    where
      still : at store new ≡ record (start store old.store) { calls = store.calls new.store }
      still = λ i. record { content = same i; calls = store.calls new.store; waiting = (batch ∙ begins.batch) i; begun = (begun ∙ begins.begun) i; documents_alone = was i; runs = (runs ∙ begins.runs) i }

-- the call is refused before any line
module _ (taken : Taken) (begun : Progress) (end : Held) (w : Writing) (unwritten : w.after ≡ w.before) (later : begun.calls ≤ end.calls) (here : end.trail end.calls ≡ begun.content)
    (holds : end.content ≡ begun.content) (runs : end.runs ≡ begun.runs) where
  stays : Stays (holding_at (record begun { calls = end.calls })) (holding_in end)
  stays = record { holds = holds; runs = runs }

  written : IsTrue w.tells → w.after ≡ w.before ++ []
  written told = unwritten ∙ sym (append-nil w.before)

  abbrev last : Progress
  last = record begun { calls = end.calls }

  opens : Plays taken.script end.trail begun 0 last []
  opens = Plays.Opens end.calls (record { later = later; stands = here })

  -- the words aren't in the grammar
  pub begins_refused : HasStopped taken begun end w fault.Words
  begins_refused = record { reached = record { count = 0; last = last; answers = [] }; plays = opens; later = omega arith; unspent = tt; stops = (record { next = refl; left = stays }, written) }

  -- the first look at the store is refused
  pub begins_stopped : (why : Fault) → (why ≡ fault.Store) ⊎ (why ≡ fault.OutOfMemory) → HasStopped taken begun end w why
  begins_stopped why is = ⊎_elim
      (λ e. subst (HasStopped taken begun end w) (sym e) (record { reached = record { count = 0; last = last; answers = [] }; plays = opens; later = omega arith; unspent = tt; stops = (record { next = tt; left = inl stays }, written) }))
      (λ e. subst (HasStopped taken begun end w) (sym e) (record { reached = record { count = 0; last = last; answers = [] }; plays = opens; later = omega arith; unspent = tt; stops = (inl (record { next = tt; left = inl stays }), written) }))
      is

abbrev failed : Refusal → Result Bool Refusal
failed why = Err why

-- the first look fails by the store, or for want of memory
pub look_fault : (why : Refusal) (f : Fault) → (failed why ≡ failed refusal.Store) ⊎ (failed why ≡ failed refusal.OutOfMemory) → OrShort (fault_of_stop 1 (stop.Refused why)) f → (f ≡ fault.Store) ⊎ (f ≡ fault.OutOfMemory)
look_fault refusal.Store f h is = inl is
look_fault refusal.OutOfMemory f h is = inr is
look_fault (refusal.Found found) f h is = absurd (⊎_elim (λ e. cc) (λ e. cc) h)
look_fault (refusal.Objected o) f h is = absurd (⊎_elim (λ e. cc) (λ e. cc) h)
look_fault (refusal.Spent x) f h is = absurd (⊎_elim (λ e. cc) (λ e. cc) h)
look_fault (refusal.Broken x) f h is = absurd (⊎_elim (λ e. cc) (λ e. cc) h)
look_fault (refusal.Repeated x) f h is = absurd (⊎_elim (λ e. cc) (λ e. cc) h)
