-- The last line of a refusal was written, or another refusal came.
use Rattle.std.proofs.Common.{◌≡◌, ◌≢◌, ◌≤◌, ℕ, Bool, true, List, [], ◌++◌, Option, Result, Ok, Err, OnOk, OnErr, IsTrue, ◌⊎◌, ⊎_elim, inl, inr, refl, sym, ap, ◌∙◌, subst}
use Rattle.std.proofs.lemmas.List.{append-nil, append_assoc}
use Rattle.txn_io.specs.Pour.{IsPartPut}
use Rattle.txn_cli.specs.Call.{EndsWith, HasStopped, HasRefused, Held, Leaves, StopsWith, Taken}
use Rattle.store_trait.specs.declared.store.Store.{Ghosts}
use Rattle.store_laws.proofs.trails.CallsMade.{rose_before}
use Rattle.txn_cli.specs.Causes.{Counts, HasRisen, IsCaused, NoneSpent, circumstances, counts}
use Rattle.txn_cli.specs.Output.{EndsIn, IsEnd, Writing, Wrote, WroteOrFailed, WrotePart, answer_text, answers_text, fault_text}
use Rattle.txn_cli.specs.Script.{Reached, next_may_run, next_of}
use Rattle.txn_play.specs.Progress.{Progress}
use Rattle.txn_cli.specs.declared.fault.Fault.{Fault}
use Rattle.txn_cli.specs.declared.fault.Fault.TheVariants as fault

-- a piece was put whole, or the output failed
pub put_or_failed : {T E : Type 0} (r : Result T E) (tells : Bool) (before after piece : List ℕ) (failed : Type 0)
    → OnOk r (IsTrue tells → after ≡ before ++ piece) → OnErr r (IsTrue tells → IsPartPut before after piece) → OnErr r failed
    → WroteOrFailed (record { tells = tells; before = before; after = after }) [] piece failed
put_or_failed (Ok x) tells before after piece failed whole part cause told = inl (whole told)
put_or_failed (Err e) tells before after piece failed whole part cause told = inr (subst (λ (l : List ℕ). IsPartPut l after piece) (sym (append-nil before)) (part told), cause)

is_output : (f : Fault) → (f ≡ fault.Output) ⊎ (f ≢ fault.Output)
is_output fault.Output = inl refl
is_output fault.OutOfMemory = inr (λ e. cc)
is_output fault.Words = inr (λ e. cc)
is_output (fault.Line number text) = inr (λ e. cc)
is_output (fault.Unsound rule name) = inr (λ e. cc)
is_output fault.TooManyCells = inr (λ e. cc)
is_output fault.Store = inr (λ e. cc)
is_output fault.Input = inr (λ e. cc)
is_output (fault.Spent error) = inr (λ e. cc)
is_output (fault.Broken error) = inr (λ e. cc)
is_output (fault.Repeated id) = inr (λ e. cc)

is_memory : (f : Fault) → (f ≡ fault.OutOfMemory) ⊎ (f ≢ fault.OutOfMemory)
is_memory fault.OutOfMemory = inl refl
is_memory fault.Output = inr (λ e. cc)
is_memory fault.Words = inr (λ e. cc)
is_memory (fault.Line number text) = inr (λ e. cc)
is_memory (fault.Unsound rule name) = inr (λ e. cc)
is_memory fault.TooManyCells = inr (λ e. cc)
is_memory fault.Store = inr (λ e. cc)
is_memory fault.Input = inr (λ e. cc)
is_memory (fault.Spent error) = inr (λ e. cc)
is_memory (fault.Broken error) = inr (λ e. cc)
is_memory (fault.Repeated id) = inr (λ e. cc)

-- want of memory leaves what any other refusal may leave
begun_any : (may_run : Bool) {A B C : Type 0} → A ⊎ ((may_run ≡ true) × B × C) → A ⊎ ((may_run ≡ true) × B)
begun_any may_run (inl stays) = inl stays
begun_any may_run (inr begun) = inr (begun.0, begun.1)

module _ (taken : Taken) (reached : Reached) (end : Held) where
  leaves_memory : (why : Fault) → Leaves taken reached end why → Leaves taken reached end fault.OutOfMemory
  leaves_memory fault.Output h = elim h.left [ ]
  leaves_memory fault.OutOfMemory h = h
  leaves_memory fault.Words h = record { next = tt; left = inl h.left }
  leaves_memory (fault.Line number text) h = record { next = tt; left = inl h.left }
  leaves_memory (fault.Unsound rule name) h = record { next = tt; left = inl h.left }
  leaves_memory fault.TooManyCells h = record { next = tt; left = inl h.left }
  leaves_memory fault.Store h = record { next = tt; left = begun_any (next_may_run (next_of reached.count taken.script)) h.left }
  leaves_memory fault.Input h = record { next = tt; left = inl h.left }
  leaves_memory (fault.Spent error) h = record { next = tt; left = begun_any (next_may_run (next_of reached.count taken.script)) h.left }
  leaves_memory (fault.Broken error) h = record { next = tt; left = begun_any (next_may_run (next_of reached.count taken.script)) h.left }
  leaves_memory (fault.Repeated id) h = record { next = tt; left = begun_any (next_may_run (next_of reached.count taken.script)) h.left }

  stops_plain : (why : Fault) (w : Writing) → why ≢ fault.Output → why ≢ fault.OutOfMemory → StopsWith taken reached end w why → Leaves taken reached end why × Wrote w (answers_text reached.answers)
  stops_plain fault.Output w other full h = absurd (other refl)
  stops_plain fault.OutOfMemory w other full h = absurd (full refl)
  stops_plain fault.Words w other full h = h
  stops_plain (fault.Line number text) w other full h = h
  stops_plain (fault.Unsound rule name) w other full h = h
  stops_plain fault.TooManyCells w other full h = h
  stops_plain fault.Store w other full h = h
  stops_plain fault.Input w other full h = h
  stops_plain (fault.Spent error) w other full h = h
  stops_plain (fault.Broken error) w other full h = h
  stops_plain (fault.Repeated id) w other full h = h

  ends_plain : (Caused : Fault → Type 0) (why : Fault) (w : Writing) → why ≢ fault.Output → why ≢ fault.OutOfMemory → Leaves taken reached end why × Wrote w (answers_text reached.answers ++ fault_text why) → EndsWith Caused taken reached end w why
  ends_plain Caused fault.Output w other full h = absurd (other refl)
  ends_plain Caused fault.OutOfMemory w other full h = absurd (full refl)
  ends_plain Caused fault.Words w other full h = h
  ends_plain Caused (fault.Line number text) w other full h = h
  ends_plain Caused (fault.Unsound rule name) w other full h = h
  ends_plain Caused fault.TooManyCells w other full h = h
  ends_plain Caused fault.Store w other full h = h
  ends_plain Caused fault.Input w other full h = h
  ends_plain Caused (fault.Spent error) w other full h = h
  ends_plain Caused (fault.Broken error) w other full h = h
  ends_plain Caused (fault.Repeated id) w other full h = h

-- what `tell` wrote behind what was written before it
module _ (Caused : Fault → Type 0) (tells : Bool) (before now after : List ℕ) (rose : Type 0) (why told : Fault) (failed : rose → Caused fault.Output) (caused : why ≢ fault.Output → Caused why) where
  abbrev first : Writing
  first = record { tells = tells; before = before; after = now }

  abbrev last : Writing
  last = record { tells = tells; before = now; after = after }

  abbrev both : Writing
  both = record { tells = tells; before = before; after = after }

  module _ (taken : Taken) (reached : Reached) (end : Held) (unspent : NoneSpent why)
      (is : (told ≡ why) ⊎ (told ≡ fault.OutOfMemory) ⊎ ((told ≡ fault.Output) × rose))
      (output : why ≡ fault.Output → (told ≡ fault.Output) × Wrote last [])
      (memory : why ≡ fault.OutOfMemory → told ≡ fault.OutOfMemory)
      (whole : told ≢ fault.Output → told ≢ fault.OutOfMemory → Wrote last (fault_text told))
      (short : told ≡ fault.OutOfMemory → WroteOrFailed last [] (fault_text fault.OutOfMemory) rose)
      (cut : why ≢ fault.Output → told ≡ fault.Output → WrotePart last [] (fault_text why)) where
    -- behind what the lines print
    behind : (piece : List ℕ) → Wrote first (answers_text reached.answers) → Wrote last piece → Wrote both (answers_text reached.answers ++ piece)
    behind piece a b tell = b tell ∙ ap (λ (l : List ℕ). l ++ piece) (a tell) ∙ append_assoc before (answers_text reached.answers) piece

    front : Wrote first (answers_text reached.answers) → IsTrue tells → now ++ [] ≡ before ++ answers_text reached.answers
    front a tell = append-nil now ∙ a tell

    behind_part : (piece : List ℕ) → Wrote first (answers_text reached.answers) → WrotePart last [] piece → WrotePart both (answers_text reached.answers) piece
    behind_part piece a b tell = subst (λ (l : List ℕ). IsPartPut l after piece) (front a tell) (b tell)

    behind_failed : (piece : List ℕ) → Wrote first (answers_text reached.answers) → WroteOrFailed last [] piece rose → WroteOrFailed both (answers_text reached.answers) piece (Caused fault.Output)
    behind_failed piece a b tell = ⊎_elim
        (λ all. inl (behind piece a (λ t. all) tell))
        (λ part. inr (subst (λ (l : List ℕ). IsPartPut l after piece) (front a tell) part.0, failed part.1))
        (b tell)

    -- the output had failed before
    ends_output : why ≡ fault.Output → StopsWith taken reached end first why → EndsWith Caused taken reached end both told
    ends_output same stops =
        let o = output same in
        let h = subst (StopsWith taken reached end first) same stops in
        subst (EndsWith Caused taken reached end both) (sym o.0) (inl (record {
          done = h.done;
          part = λ tell. subst (λ (l : List ℕ). IsPartPut (before ++ answers_text reached.answers) l (answer_text h.done.answer)) (sym (o.1 tell ∙ append-nil now)) (h.part tell);
        }))

    ends_memory : why ≡ fault.OutOfMemory → StopsWith taken reached end first why → EndsWith Caused taken reached end both told
    ends_memory same stops =
        let m = memory same in
        let h = subst (StopsWith taken reached end first) same stops in
        subst (EndsWith Caused taken reached end both) (sym m) (h.0, behind_failed (fault_text fault.OutOfMemory) h.1 (short m))

    ends_other : why ≢ fault.Output → why ≢ fault.OutOfMemory → StopsWith taken reached end first why → EndsWith Caused taken reached end both told
    ends_other other full stops = ⊎_elim
        (λ same. subst (EndsWith Caused taken reached end both) (sym same)
        (ends_plain taken reached end Caused why both other full (h.0, behind (fault_text why) h.1 (subst (λ (f : Fault). Wrote last (fault_text f)) same (whole (λ e. other (sym same ∙ e)) (λ e. full (sym same ∙ e)))))))
        (λ rest. ⊎_elim
        (λ m. subst (EndsWith Caused taken reached end both) (sym m) (inl (leaves_memory taken reached end why h.0), behind_failed (fault_text fault.OutOfMemory) h.1 (short m)))
        (λ o. subst (EndsWith Caused taken reached end both) (sym o.0) (inr (record { why = why; caused = caused other; memory = full; unspent = unspent; leaves = h.0; part = behind_part (fault_text why) h.1 (cut other o.0) })))
        rest)
        is
      where
        h : Leaves taken reached end why × Wrote first (answers_text reached.answers)
        h = stops_plain taken reached end why first other full stops

    pub ends_told : StopsWith taken reached end first why → EndsWith Caused taken reached end both told
    ends_told stops = ⊎_elim (λ same. ends_output same stops) (λ other. ⊎_elim (λ same. ends_memory same stops) (λ full. ends_other other full stops) (is_memory why)) (is_output why)

-- a refusal that was told
pub refuses_out : (Caused : Fault → Type 0) (tells : Bool) (before now after : List ℕ) (rose : Type 0) (why told : Fault) (taken : Taken) (begun : Progress) (end : Held)
    → HasStopped taken begun end (record { tells = tells; before = before; after = now }) why
    → (rose → Caused fault.Output) → (why ≢ fault.Output → Caused why)
    → ((told ≡ why) ⊎ (told ≡ fault.OutOfMemory) ⊎ ((told ≡ fault.Output) × rose))
    → (why ≡ fault.Output → (told ≡ fault.Output) × Wrote (record { tells = tells; before = now; after = after }) [])
    → (why ≡ fault.OutOfMemory → told ≡ fault.OutOfMemory)
    → (told ≢ fault.Output → told ≢ fault.OutOfMemory → Wrote (record { tells = tells; before = now; after = after }) (fault_text told))
    → (told ≡ fault.OutOfMemory → WroteOrFailed (record { tells = tells; before = now; after = after }) [] (fault_text fault.OutOfMemory) rose)
    → (why ≢ fault.Output → told ≡ fault.Output → WrotePart (record { tells = tells; before = now; after = after }) [] (fault_text why))
    → HasRefused Caused taken begun end (record { tells = tells; before = before; after = after }) told
refuses_out Caused tells before now after rose why told taken begun end stops failed caused is output memory whole short cut = record {
  reached = stops.reached;
  plays = stops.plays;
  later = stops.later;
  unspent = ⊎_elim (λ same. subst NoneSpent (sym same) stops.unspent) (λ rest. ⊎_elim (λ m. subst NoneSpent (sym m) tt) (λ o. subst NoneSpent (sym o.0) tt) rest) is;
  ends = ends_told Caused tells before now after rose why told failed caused taken stops.reached end stops.unspent is output memory whole short cut stops.stops;
}

-- ---- causes, as they stand once the refusal was told

module _ {S : Type 0} (store : Ghosts S) (in_grammar : Bool) (script : Option (List ℕ)) (old new : S) (input : Counts) (before now after : ℕ) where
  -- what isn't the output's doesn't hang on what it did since
  pub caused_still : (f : Fault) → f ≢ fault.Output → IsCaused store (circumstances in_grammar script old new input (counts before now)) f → IsCaused store (circumstances in_grammar script old new input (counts before after)) f
  caused_still fault.Output other h = absurd (other refl)
  caused_still fault.Words other h = record { shown = h.shown; reason = h.reason }
  caused_still (fault.Line number text) other h = record { shown = h.shown; reason = h.reason }
  caused_still (fault.Unsound rule name) other h = record { shown = h.shown; reason = h.reason }
  caused_still fault.TooManyCells other h = record { shown = h.shown; reason = h.reason }
  caused_still fault.Store other h = record { shown = h.shown; reason = h.reason }
  caused_still fault.Input other h = record { shown = h.shown; reason = h.reason }
  caused_still fault.OutOfMemory other h = record { shown = h.shown; reason = h.reason }
  caused_still (fault.Spent e) other h = record { shown = h.shown; reason = h.reason }
  caused_still (fault.Broken e) other h = record { shown = h.shown; reason = h.reason }
  caused_still (fault.Repeated id) other h = record { shown = h.shown; reason = h.reason }

  pub caused_output : before ≤ now → HasRisen (counts now after) → IsCaused store (circumstances in_grammar script old new input (counts before after)) fault.Output
  caused_output le rose = record { shown = rose_before le rose; reason = λ told. tt }

-- ---- the last line

-- what was told stands at the end of what was written
pub told_last : (f : Fault) (tells : Bool) (now after : List ℕ)
    → (f ≢ fault.Output → f ≢ fault.OutOfMemory → Wrote (record { tells = tells; before = now; after = after }) (fault_text f))
    → IsTrue tells → EndsIn f after
told_last f tells now after whole told = ⊎_elim
    (λ o. subst (λ (g : Fault). EndsIn g after) (sym o) tt)
    (λ other. ⊎_elim
    (λ m. subst (λ (g : Fault). EndsIn g after) (sym m) tt)
    (λ full. ends f other full (record { before = now; is = whole other full told }))
    (is_memory f))
    (is_output f)
  where
    ends : (g : Fault) → g ≢ fault.Output → g ≢ fault.OutOfMemory → IsEnd (fault_text g) after → EndsIn g after
    ends fault.Output other full h = tt
    ends fault.OutOfMemory other full h = tt
    ends fault.Words other full h = h
    ends (fault.Line number text) other full h = h
    ends (fault.Unsound rule name) other full h = h
    ends fault.TooManyCells other full h = h
    ends fault.Store other full h = h
    ends fault.Input other full h = h
    ends (fault.Spent e) other full h = h
    ends (fault.Broken e) other full h = h
    ends (fault.Repeated id) other full h = h
