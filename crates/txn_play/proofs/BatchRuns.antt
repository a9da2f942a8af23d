-- The Run of a batch: from the listing of its base to the end of its calls.
use Rattle.std.proofs.Common.{◌≡◌, ◌⊎◌, ℕ, Bool, List, [], ◌∷◌, ◌++◌, Result, Ok, Err, IfOk, IfErr, IsTrue, true, inl, inr, refl, sym, ap, ◌∙◌, subst, arith, length, false, None, ⊎_elim}
use Rattle.txn_key.specs.Documents.{Docs}
use Rattle.store_trait.specs.Stores.{CallsGoOn}
use Rattle.store_trait.specs.Contents.{Content}
use Rattle.store_laws.specs.Meaning.{meaning}
use Rattle.store_laws.specs.Soundness.{IsSound}
use Rattle.txn_audit.specs.Audits.{PassesAudit}
use Rattle.txn_play.specs.Batches.{MayRun, WorksOnBatch, IsDoneWith, MayBegin, HasOutcome, StandsIn, LeavesRecords}
use Rattle.txn_play.specs.Remains.{HasBegun, HasLeft, Holding, LeavesUnfinished, Stays}
use Rattle.txn_play.specs.Progress.{RanBatch, HasRunBatch}
use Rattle.txn_play.specs.Refusals.{IsOfSteps}
use Rattle.txn_play.specs.declared.refusal.Refusal.{Refusal}
use Rattle.txn_play.specs.declared.refusal.Refusal.TheVariants as refusal
use Rattle.store_laws.specs.View.{record_at, look, was_decided, state_passes}
use Rattle.txn_runner.specs.Numbers.{Uses}
use Rattle.store_laws.specs.Reads.{OnlyReads}
use Rattle.txn_runner.specs.Running.{HasRun}
use Rattle.txn_play.specs.Runs.{RunsGoOn}
use Rattle.txn_play.specs.declared.run.Run.{Run}
use Rattle.txn_play.specs.declared.answer.RecordState.{RecordState}
use Rattle.txn_runner.specs.declared.waiting.Waiting.{Waiting}
use Rattle.txn_play.proofs.OnlyReading.{runs_only_read}
use Rattle.txn_runner.proofs.Running.{run_opens}
use Rattle.txn_play.proofs.Runs.{runs_same, runs_add, run_means, run_legal}
use Rattle.txn_key.specs.declared.id.TxnId.{TxnId}
use Rattle.txn_record.specs.Orders.{after}
use Rattle.txn_record.specs.States.{was_decided_state}
use Rattle.txn_record.specs.declared.entry.Entry.{Entry}
use Rattle.txn_record.specs.declared.entry.Outcome.{Outcome}
use Rattle.txn_record.specs.declared.entry.Outcome.TheVariants as outcome
use Rattle.txn_record.specs.declared.state.State.{State}
use Rattle.store_laws.proofs.trails.TrailTells.{trail_records}
use Rattle.store_laws.specs.Trail.{IsRecorded}
use Rattle.txn_runner.specs.Settling.{settled_state}
use Rattle.txn_play.proofs.Batches.{both_every}
use Rattle.store_trait.specs.declared.store.Store.{Ghosts}

chosen_end : (o : Outcome) (s : State) → s ≡ settled_state o → was_decided_state s ≡ true
chosen_end outcome.Applied s e = ap was_decided_state e
chosen_end outcome.Aborted s e = ap was_decided_state e

unchosen : (c : Content) (id : TxnId) → record_at c id ≡ None → was_decided (look c) id ≡ false
unfolding look was_decided
unchosen c id none = ap (state_passes was_decided_state) none

pub ran_batch : {S : Type 0} (store : Ghosts S) (old now : S) (waiting : List Waiting) (run : Run) (states : List RecordState)
    → MayRun (store.content old) waiting → PassesAudit (store.content old) → store.trail old (store.calls old) ≡ store.content old → store.trail now (store.calls now) ≡ store.content now
    → run.mark ≡ store.calls old → run.base ≡ meaning (store.content old) → run.turns ≡ []
    → WorksOnBatch store old now [] run.order waiting → Uses (store.content old) (store.content now) (length waiting) (length waiting) 0 0 → IsDoneWith (store.content now) waiting states
    → HasRun (store.trail now) run.mark (store.calls now) run.base run.order
    → store.trail now run.mark ≡ store.content old
    → RanBatch (store.content old) (store.content now) waiting run states
ran_batch store old now waiting run states may passes was is mark base turns works uses done has from = record {
  opens = passes;
  step = works.step;
  calm = done.calm;
  base = base;
  legal = run_legal (store.trail now) run.mark (store.calls now) run.base run.order has;
  means = ap meaning (sym is) ∙ run_means (store.trail now) run.mark (store.calls now) run.base run.order has;
  stand = both_every (MayBegin (store.content old)) (HasOutcome (store.content now)) (StandsIn (store.content now) run.order) stands waiting may.may_begin done.ended;
  only = works.decided refl;
  others = works.others.records;
  uses = uses;
  turns = turns;
  are = done.are;
}
  where
    stands : (txn : Waiting) → MayBegin (store.content old) txn → HasOutcome (store.content now) txn → StandsIn (store.content now) run.order txn
    stands txn m e = record {
      ended = e;
      entry = ⊎_elim (λ was_chosen. absurd (clash (subst (λ (x : Content). was_decided (look x) txn.id ≡ true) from was_chosen) (unchosen (store.content old) txn.id m.fresh))) (λ recorded. recorded)
          (subst (λ (l : List Entry). (was_decided (look (store.trail now run.mark)) txn.id ≡ true) ⊎ IsRecorded l e.settled.rec) (sym has.order_is)
          (trail_records (store.trail now) run.mark has.made run.base has.told txn.id e.settled.rec (ap (λ (x : Content). record_at x txn.id) (ap (store.trail now) (sym has.counted) ∙ is) ∙ e.settled.there) (chosen_end e.outcome e.settled.rec.state e.settled.ends)));
    }
      where
        clash : {b : Bool} → b ≡ true → b ≡ false → ⊥
        clash p q = cc

pub if_ok : {T E : Type 0} (r : Result T E) (P Q : T → Type 0) → IfOk r P → ((x : T) → P x → Q x) → IfOk r Q
if_ok (Ok x) P Q h f = f x h
if_ok (Err e) P Q h f = tt

-- a batch that is on its way, as a refusal leaves it
begun_left : (waiting : List Waiting) (trail : ℕ → Content) (old new : Holding) (why : Refusal) → IsOfSteps why → HasBegun waiting trail old new → LeavesUnfinished new.content waiting why → HasLeft true waiting trail old new why
begun_left waiting trail old new refusal.Store kind h un = inr (refl, h, un)
begun_left waiting trail old new refusal.OutOfMemory kind h un = inr (refl, h)
begun_left waiting trail old new (refusal.Spent e) kind h un = inr (refl, h, un)
begun_left waiting trail old new (refusal.Broken e) kind h un = inr (refl, h, un)
begun_left waiting trail old new (refusal.Repeated id) kind h un = inr (refl, h, un)
begun_left waiting trail old new (refusal.Objected w) kind h un = elim kind [ ]
begun_left waiting trail old new (refusal.Found f) kind h un = elim kind [ ]

-- a refusal before it
pub stays_left : (may_run : Bool) (waiting : List Waiting) (trail : ℕ → Content) (old new : Holding) (why : Refusal) → Stays old new → HasLeft may_run waiting trail old new why
stays_left may_run waiting trail old new (refusal.Objected w) h = h
stays_left may_run waiting trail old new (refusal.Found f) h = h
stays_left may_run waiting trail old new refusal.Store h = inl h
stays_left may_run waiting trail old new refusal.OutOfMemory h = inl h
stays_left may_run waiting trail old new (refusal.Spent e) h = inl h
stays_left may_run waiting trail old new (refusal.Broken e) h = inl h
stays_left may_run waiting trail old new (refusal.Repeated id) h = inl h

-- where a batch may be on its way, it may be where more is allowed
pub left_more : (a b : Bool) (waiting : List Waiting) (trail : ℕ → Content) (old new : Holding) (why : Refusal) → (a ≡ true → b ≡ true) → HasLeft a waiting trail old new why → HasLeft b waiting trail old new why
left_more a b waiting trail old new (refusal.Objected w) more h = h
left_more a b waiting trail old new (refusal.Found f) more h = h
left_more a b waiting trail old new refusal.Store more h = ⊎_elim inl (λ begun. inr (more begun.0, begun.1, begun.2)) h
left_more a b waiting trail old new refusal.OutOfMemory more h = ⊎_elim inl (λ begun. inr (more begun.0, begun.1)) h
left_more a b waiting trail old new (refusal.Spent e) more h = ⊎_elim inl (λ begun. inr (more begun.0, begun.1, begun.2)) h
left_more a b waiting trail old new (refusal.Broken e) more h = ⊎_elim inl (λ begun. inr (more begun.0, begun.1, begun.2)) h
left_more a b waiting trail old new (refusal.Repeated id) more h = ⊎_elim inl (λ begun. inr (more begun.0, begun.1, begun.2)) h

-- the store as the batch is run over it, as its base was listed, and as the batch was run
module _ {S : Type 0} (store : Ghosts S) (old mid now : S) (waiting : List Waiting) (run : Run)
    (told : IsTrue store.tells) (present : (s : S) → store.trail s (store.calls s) ≡ store.content s)
    (may : MayRun (store.content old) waiting) (reads : OnlyReads store old mid) (first : CallsGoOn store old mid) (second : CallsGoOn store mid now)
    (passes : PassesAudit (store.content mid)) (mark : run.mark ≡ store.calls mid) (base : run.base ≡ meaning (store.content mid)) (works : WorksOnBatch store mid now [] run.order waiting) where
  may_mid : MayRun (store.content mid) waiting
  may_mid = subst (λ (c : Content). MayRun c waiting) (sym reads.same) may

  opens : HasRun (store.trail mid) run.mark (store.calls mid) run.base []
  opens =
      subst (λ (k : ℕ). HasRun (store.trail mid) k (store.calls mid) run.base []) (sym mark)
      (subst (λ (d : Docs). HasRun (store.trail mid) (store.calls mid) (store.calls mid) d []) (ap meaning (present mid) ∙ sym base)
      (run_opens (store.trail mid) (store.calls mid) (subst IsSound (sym (present mid)) may_mid.calm.sound)))

  has : HasRun (store.trail now) run.mark (store.calls now) run.base run.order
  has = works.run run.mark run.base opens

  still_there : store.trail now run.mark ≡ store.content mid
  still_there = ap (store.trail now) mark ∙ (second.trail told).before (store.calls mid) (omega arith) ∙ present mid

  pub batch_runs : (runs after : List Run) → after ≡ runs ++ run ∷ [] → RunsGoOn (store.trail old) runs (store.calls old) → RunsGoOn (store.trail now) after (store.calls now)
  batch_runs runs after kept h =
      let before = runs_only_read store old mid runs reads first told may.calm.sound h in
      let there = runs_same (store.trail mid) (store.trail now) runs (store.calls mid) (second.trail told).before before in
      subst (λ (rs : List Run). RunsGoOn (store.trail now) rs (store.calls now)) (sym kept)
      (runs_add (store.trail now) runs run (store.calls mid) (store.calls now) there mark (base ∙ ap meaning (sym still_there ∙ ap (store.trail now) mark)) has)

  pub batch_done : (before after : List Run) (states : List RecordState) → run.turns ≡ [] → after ≡ before ++ run ∷ [] → Uses (store.content mid) (store.content now) (length waiting) (length waiting) 0 0 → IsDoneWith (store.content now) waiting states
      → HasRunBatch (record { content = store.content old; calls = store.calls old; runs = before }) (record { content = store.content now; calls = store.calls now; runs = after }) waiting states
  batch_done before after states turns kept uses done = record {
    run = run;
    ran = subst (λ (c : Content). RanBatch c (store.content now) waiting run states) reads.same
        (ran_batch store mid now waiting run states may_mid passes (present mid) (present now) mark base turns works uses done has still_there);
    kept = kept;
    since = omega (arith, mark, first.counted);
    made = omega (arith, mark, second.counted);
  }

  pub batch_left : {T : Type 0} (result : Result T Refusal) (before after : List Run) → run.turns ≡ [] → after ≡ before ++ run ∷ [] → LeavesRecords (store.content now) [] run.order waiting → Uses (store.content mid) (store.content now) (length waiting) (length waiting) 0 0
      → IfErr result IsOfSteps → IfErr result (LeavesUnfinished (store.content now) waiting)
      → IfErr result (HasLeft true waiting (store.trail now) (record { content = store.content old; calls = store.calls old; runs = before }) (record { content = store.content now; calls = store.calls now; runs = after }))
  batch_left (Ok x) before after turns kept records uses kind un = tt
  batch_left (Err why) before after turns kept records uses kind un = begun_left waiting (store.trail now) (record { content = store.content old; calls = store.calls old; runs = before }) (record { content = store.content now; calls = store.calls now; runs = after }) why kind (record {
    run = run;
    kept = kept;
    opens = still_there ∙ reads.same;
    base = base ∙ ap meaning reads.same;
    only = works.decided refl;
    others = λ id none. works.others.records id none ∙ ap (λ (c : Content). record_at c id) reads.same;
    own = records.own;
    whole = records.whole;
    uses = subst (λ (c : Content). Uses c (store.content now) (length waiting) (length waiting) 0 0) reads.same uses;
    turns = turns;
  }) un
