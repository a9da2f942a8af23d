-- What the store answered, as the cause of a refusal.
use Rattle.std.proofs.Common.{◌≡◌, ℕ, ℤ, ◌+◌, ◌-◌, ◌<◌, ◌≤◌, ◌⊎◌, ⊎_elim, inl, inr, Bool, List, Option, Some, None, Result, Ok, Err, IfOk, IfErr, true, false, cond, nat_le, nat_lt, refl, sym, ap, ◌∙◌, subst, arith}
use Rattle.std.specs.Option.{option_and_then, ok_or}
use Rattle.std.proofs.lemmas.Bool.Decides.{nat_tests}
use Rattle.txn_key.specs.declared.key.Key.{Key}
use Rattle.txn_key.specs.declared.id.TxnId.{TxnId}
use Rattle.txn_record.specs.declared.entry.Outcome.{Outcome}
use Rattle.txn_record.specs.declared.state.State.{State}
use Rattle.store_trait.specs.Calls.{Exchange, Edits, Reads}
use Rattle.store_trait.specs.Cells.{as_counter, as_doc}
use Rattle.store_trait.specs.Edits.{nonce_limit}
use Rattle.store_trait.specs.declared.cell.Cell.TheVariants as cell
use Rattle.store_trait.specs.declared.cell.DocCell.{DocCell}
use Rattle.txn_record.specs.declared.record.Record.{Record}
use Rattle.store_trait.specs.Exchanges.{Exchanged}
use Rattle.store_trait.specs.declared.cell.Cell.{Cell}
use Rattle.store_trait.specs.declared.edit.Edit.{Edit}
use Rattle.store_trait.specs.declared.edit.Edit.TheVariants as edit
use Rattle.store_trait.specs.declared.name.Name.{Name}
use Rattle.store_trait.specs.declared.name.Name.TheVariants as name
use Rattle.txn_runner.specs.Causes.{AnsweredEdit, EndIsShown, HasCause, IsMissed, LastShows, NoneLeft, ShowsClash, ShowsEnd, ShowsMiss, ShowsNoNonce, ShowsRepeated, drawn_of, is_no_document}
use Rattle.txn_runner.specs.Settling.{settled_state}
use Rattle.txn_runner.specs.Stages.{steps_left}
use Rattle.txn_runner.specs.declared.error.StepError.{StepError}
use Rattle.txn_runner.specs.declared.error.StepError.TheVariants as step
use Rattle.txn_runner.specs.declared.stage.Stage.{Stage}
use Rattle.txn_runner.specs.declared.stage.Stage.TheVariants as stage
use Rattle.store_trait.specs.declared.store.Store.{Ghosts}
use Rattle.store_laws.proofs.trails.Exchanges.{joined}

err_of : {A E : Type 0} (b : Bool) (x : A) (y z : E) → cond b (Ok x) (Err y) ≡ Err z → y ≡ z
err_of true x y z e = absurd (cc e)
err_of false x y z e = cc e

abbrev undrawn : StepError → Result ℕ StepError
undrawn error = Err error

either_err : (b : Bool) (x y z : StepError) → cond b (undrawn x) (undrawn y) ≡ undrawn z → (x ≡ z) ⊎ (y ≡ z)
either_err true x y z e = inl (cc e)
either_err false x y z e = inr (cc e)

drawn_errs : (id : TxnId) (hit : Bool) (counter : Option ℕ) (error : StepError) → drawn_of id hit counter ≡ Err error
    → (error ≡ step.Clash id name.Nonce) ⊎ (error ≡ step.NoncesSpent)
drawn_errs id true None error h = inl (cc h)
drawn_errs id false None error h = inl (cc h)
drawn_errs id true (Some n) error h = inl (sym (err_of (nat_lt 0 n) (n - 1) (step.Clash id name.Nonce) error h))
drawn_errs id false (Some n) error h = ⊎_elim (λ spent. inr (sym spent)) (λ clash. inl (sym clash)) (either_err (nat_le nonce_limit n) step.NoncesSpent (step.Clash id name.Nonce) error h)

none_left : (id : TxnId) (hit : Bool) (found : Option Cell) → drawn_of id hit (option_and_then as_counter found) ≡ Err step.NoncesSpent → NoneLeft hit found
none_left id true found h = absurd (by (option_and_then as_counter found) h)
  where
    by : (counter : Option ℕ) → drawn_of id true counter ≡ Err step.NoncesSpent → ⊥
    by None e = absurd (cc e)
    by (Some n) e = absurd (cc (err_of (nat_lt 0 n) (n - 1) (step.Clash id name.Nonce) step.NoncesSpent e))
none_left id false None h = absurd (cc h)
none_left id false (Some (cell.Record rec)) h = absurd (cc h)
none_left id false (Some (cell.Doc doc)) h = absurd (cc h)
none_left id false (Some (cell.Stash stash)) h = absurd (cc h)
none_left id false (Some (cell.Nonce n)) h = by (nat_le nonce_limit n) refl h
  where
    by : (b : Bool) → nat_le nonce_limit n ≡ b → cond b (undrawn step.NoncesSpent) (undrawn (step.Clash id name.Nonce)) ≡ undrawn step.NoncesSpent → nonce_limit ≤ n
    by true is e = grind (arith, nat_tests, is)
    by false is e = absurd (cc e)

module _ {S : Type 0} (store : Ghosts S) where
  -- one call alone was made, and its answer shows this
  pub shows_now : (old new : S) (Shows : Exchange → Type 0) (exchange : Exchange) → store.calls new ≡ store.calls old + 1
      → store.answered old exchange new → Shows exchange → LastShows store old new Shows
  shows_now old new Shows exchange counted answer shows = record {
    before = old;
    exchange = exchange;
    since = Exchanged.Nothing old;
    last = counted;
    answer = answer;
    shows = shows;
  }

  shows_before : (first old new : S) (Shows : Exchange → Type 0) → Exchanged store first old → LastShows store old new Shows → LastShows store first new Shows
  shows_before first old new Shows chain it = record {
    before = it.before;
    exchange = it.exchange;
    since = joined store first old it.before chain it.since;
    last = it.last;
    answer = it.answer;
    shows = it.shows;
  }

  -- what was answered in later calls was answered since before
  pub caused_before : (first old new : S) (id : TxnId) (error : StepError) → Exchanged store first old → HasCause store old new id error → HasCause store first new id error
  caused_before first old new id step.StoreFault chain h = h
  caused_before first old new id step.OutOfMemory chain h = h
  caused_before first old new id step.NoncesSpent chain h = shows_before first old new _ chain h
  caused_before first old new id (step.RevnoSpent key) chain h = shows_before first old new _ chain h
  caused_before first old new id (step.Lost token) chain h = h
  caused_before first old new id (step.Clash who at) chain h = (h.0, shows_before first old new _ chain h.1)

  -- an edit that must hit missed, which shows that the record and the cell disagree
  pub missed_cause : (old new : S) (id : TxnId) (at : Name) (change : Edit) (error : StepError)
      → ((found : Option Cell) → ShowsMiss id at change false found)
      → IsMissed store old id at change new error → HasCause store old new id error
  missed_cause old new id at change step.StoreFault miss h = h
  missed_cause old new id at change step.OutOfMemory miss h = h
  missed_cause old new id at change step.NoncesSpent miss h = elim h [ ]
  missed_cause old new id at change (step.RevnoSpent key) miss h = elim h [ ]
  missed_cause old new id at change (step.Lost token) miss h = elim h [ ]
  missed_cause old new id at change (step.Clash who where_) miss h = (
    h.0,
    shows_now old new (ShowsClash id where_) (Edits at change (Ok (record { hit = false; cell = h.2.found }))) h.2.counted h.2.answer
        (sym h.1, subst (λ (n : Name). ShowsMiss id n change false h.2.found) (sym h.1) (miss h.2.found)),
  )

  -- a draw that gave no nonce
  pub drawn_cause : (old new : S) (id : TxnId) (hit : Bool) (found : Option Cell) (error : StepError)
      → store.calls new ≡ store.calls old + 1 → store.answered old (Edits name.Nonce edit.DrawNonce (Ok (record { hit = hit; cell = found }))) new
      → drawn_of id hit (option_and_then as_counter found) ≡ Err error → HasCause store old new id error
  drawn_cause old new id hit found error counted answer h = ⊎_elim
      (λ clash. subst (HasCause store old new id) (sym clash) (refl, shows_now old new (ShowsClash id name.Nonce) (Edits name.Nonce edit.DrawNonce (Ok (record { hit = hit; cell = found }))) counted answer (refl, h ∙ ap Err clash)))
      (λ spent. subst (HasCause store old new id) (sym spent) (shows_now old new ShowsNoNonce (Edits name.Nonce edit.DrawNonce (Ok (record { hit = hit; cell = found }))) counted answer (none_left id hit found (h ∙ ap Err spent))))
      (drawn_errs id hit (option_and_then as_counter found) error h)

  -- where a document should be, none was read
  pub missing_cause : (old new : S) (id : TxnId) (key : Key) (found : Option Cell) (result : Result DocCell StepError)
      → store.calls new ≡ store.calls old + 1 → store.answered old (Reads (name.Doc key) (Ok found)) new
      → result ≡ ok_or (option_and_then as_doc found) (step.Clash id (name.Doc key)) → IfErr result (HasCause store old new id)
  missing_cause old new id key found result counted answer is = subst (λ (r : Result DocCell StepError). IfErr r (HasCause store old new id)) (sym is) (by found answer)
    where
      missing : (f : Option Cell) → store.answered old (Reads (name.Doc key) (Ok f)) new → is_no_document f ≡ true → HasCause store old new id (step.Clash id (name.Doc key))
      missing f a none = (refl, shows_now old new (ShowsClash id (name.Doc key)) (Reads (name.Doc key) (Ok f)) counted a (refl, none))

      by : (f : Option Cell) → store.answered old (Reads (name.Doc key) (Ok f)) new → IfErr (ok_or (option_and_then as_doc f) (step.Clash id (name.Doc key))) (HasCause store old new id)
      by None a = missing None a refl
      by (Some (cell.Doc doc)) a = tt
      by (Some (cell.Record rec)) a = missing (Some (cell.Record rec)) a refl
      by (Some (cell.Stash stash)) a = missing (Some (cell.Stash stash)) a refl
      by (Some (cell.Nonce next)) a = missing (Some (cell.Nonce next)) a refl

  -- a record of that id was there
  pub repeated : (old new : S) (id : TxnId) (rec : Record) (result : Result Bool StepError)
      → IfOk result (λ hits. AnsweredEdit store old (name.Record id) (edit.InsertRecord rec) hits new)
      → IfOk result (λ hits. hits ≡ false → LastShows store old new (ShowsRepeated id))
  repeated old new id rec (Err e) answered = tt
  repeated old new id rec (Ok hits) answered = λ missed.
      shows_now old new (ShowsRepeated id) (Edits (name.Record id) (edit.InsertRecord rec) (Ok (record { hit = hits; cell = answered.found }))) answered.counted answered.answer (refl, missed)

  -- an end is shown by the move that led to it
  pub end_shown : (old new : S) (id : TxnId) (outcome : Outcome) (from to : State) (nonce : Option ℕ) (revnos : Option (List ℤ)) → to ≡ settled_state outcome
      → AnsweredEdit store old (name.Record id) (edit.Move from to nonce revnos) true new → LastShows store old new (ShowsEnd id outcome)
  end_shown old new id outcome from to nonce revnos ends a = record {
    before = old;
    exchange = Edits (name.Record id) (edit.Move from to nonce revnos) (Ok (record { hit = true; cell = a.found }));
    since = Exchanged.Nothing old;
    last = a.counted;
    answer = a.answer;
    shows = (refl, ends, refl);
  }

  pub end_before : (first old new : S) (id : TxnId) (next : Stage) → Exchanged store first old → EndIsShown store old new id next → EndIsShown store first new id next
  end_before first old new id (stage.Settled outcome) chain h = shows_before first old new (ShowsEnd id outcome) chain h
  end_before first old new id stage.Draw chain h = tt
  end_before first old new id (stage.Queue n) chain h = tt
  end_before first old new id (stage.Prepare n) chain h = tt
  end_before first old new id (stage.Look n) chain h = tt
  end_before first old new id (stage.Decide n r h) chain it = tt
  end_before first old new id (stage.Update n r) chain h = tt
  end_before first old new id stage.Finish chain h = tt
  end_before first old new id stage.Abort chain h = tt

  -- a step that leads to no end has none to show
  pub on_the_way : (old new : S) (id : TxnId) (next : Stage) → 0 < steps_left next → EndIsShown store old new id next
  on_the_way old new id (stage.Settled outcome) left = absurd (omega (arith, left))
  on_the_way old new id stage.Draw left = tt
  on_the_way old new id (stage.Queue n) left = tt
  on_the_way old new id (stage.Prepare n) left = tt
  on_the_way old new id (stage.Look n) left = tt
  on_the_way old new id (stage.Decide n r h) left = tt
  on_the_way old new id (stage.Update n r) left = tt
  on_the_way old new id stage.Finish left = tt
  on_the_way old new id stage.Abort left = tt
