-- A batch from its submission to its end.
use Rattle.std.proofs.Common.{◌≡◌, ◌≢◌, ℕ, suc, arith, ◌+◌, ◌<◌, ◌≤◌, length, drop, Bool, true, false, not, ◌||◌, List, [], ◌∷◌, ◌++◌, Option, Some, None, refl, sym, ap, ◌∙◌, subst}
use Rattle.std.proofs.lemmas.Bool.{and_parts}
use Rattle.std.proofs.lemmas.Slice.Eq.{bytes_eq-Decides}
use Rattle.std.proofs.lemmas.List.{append_assoc, append-nil, drop_more}
use Rattle.std.proofs.Math.ListN.{drop_of_length-le, get_or}
use Rattle.txn_key.specs.declared.id.TxnId.{TxnId}
use Rattle.txn_record.specs.Orders.{after}
use Rattle.txn_record.specs.States.{is_settled_state}
use Rattle.txn_record.specs.declared.entry.Entry.{Entry}
use Rattle.txn_record.specs.declared.entry.Outcome.{Outcome}
use Rattle.txn_record.specs.declared.entry.Outcome.TheVariants as outcome
use Rattle.txn_record.specs.declared.record.Record.{Record}
use Rattle.txn_record.specs.declared.state.State.{State}
use Rattle.txn_record.specs.declared.state.State.TheVariants as state
use Rattle.store_trait.specs.Contents.{Content}
use Rattle.store_laws.specs.Later.{may_follow}
use Rattle.store_trait.specs.Names.{same_id}
use Rattle.store_laws.specs.Soundness.{IsSound}
use Rattle.store_laws.specs.Steps.{IsStep}
use Rattle.store_laws.specs.View.{look, record_at, settled, state_passes}
use Rattle.store_laws.proofs.views.AmongSettled.{rest_alone, alone_rest}
use Rattle.store_laws.proofs.steps.Chained.{step_then}
use Rattle.store_laws.proofs.cells.Misses.{quiet_itself}
use Rattle.txn_runner.proofs.Beside.{docs_stay}
use Rattle.txn_runner.proofs.Numbers.{uses_none, uses_then, uses_within}
use Rattle.txn_runner.specs.Numbers.{Uses}
use Rattle.txn_play.specs.Batches.{waits, Every, HasOwnOperations, KeepsPresent, MayBegin, MayRun, state_of, record_states, KeepsAllBut, WorksOnBatch, IsBegun, IsDoneWith, IsSubmitting, IsSettling}
use Rattle.txn_runner.specs.Calm.{IsCalm}
use Rattle.txn_runner.specs.Settling.{settled_state, IsSettled, IsSubmitted, HasDocuments, IsWorth, WorksOn, KeepsOthers, preparing_record}
use Rattle.txn_play.proofs.OwnOperations.{own_none, own_submitted}
use Rattle.txn_play.specs.declared.answer.RecordState.{RecordState}
use Rattle.txn_runner.specs.declared.stage.Stage.TheVariants as stage
use Rattle.txn_runner.specs.declared.waiting.Waiting.{Waiting}
use Rattle.store_trait.specs.declared.store.Store.{Ghosts}

-- the item of a loop, and what is left behind it
pub at_item : {A : Type 0} (xs : List A) (i : ℕ) (x : A) → x ≡ get_or xs i x → i < length xs → drop i xs ≡ x ∷ drop (i + 1) xs
at_item xs i x is less = drop_more xs i x less ∙ ap (λ y. y ∷ drop (i + 1) xs) (sym is)

pub none_left : {A : Type 0} (xs : List A) (i : ℕ) → length xs ≤ i → drop i xs ≡ []
none_left xs i le = drop_of_length-le xs le

pub every_map : (P Q : Waiting → Type 0) → ((txn : Waiting) → P txn → Q txn) → (waiting : List Waiting) → Every P waiting → Every Q waiting
every_map P Q f [] h = tt
every_map P Q f (txn ∷ waiting) h = (f txn h.0, every_map P Q f waiting h.1)

id_itself : (id : TxnId) → same_id id id ≡ true
id_itself id = (bytes_eq-Decides id.0 id.0).1 refl

or_left : (a b : Bool) → (a || b) ≡ false → a ≡ false
or_left false b e = refl
or_left true b e = absurd (cc)

or_right : (a b : Bool) → (a || b) ≡ false → b ≡ false
or_right false b e = e
or_right true b e = absurd (cc)

not_false : (b : Bool) → not b ≡ true → b ≡ false
not_false false e = refl
not_false true e = absurd (cc)

-- among transactions with ids of their own none of the later ones has the first one's
apart_from : (id : TxnId) (waiting : List Waiting) → waits waiting id ≡ false → Every (λ txn. txn.id ≢ id) waiting
apart_from id [] e = tt
apart_from id (txn ∷ waiting) e =
    (λ same. absurd (true_false (or_left (same_id txn.id id) (waits waiting id) e) (ap (λ (x : TxnId). same_id x id) same ∙ id_itself id)), apart_from id waiting (or_right (same_id txn.id id) (waits waiting id) e))
  where
    true_false : {b : Bool} → b ≡ false → b ≡ true → ⊥
    true_false p q = cc

-- each transaction of a batch is one that waits
pub all_wait : (waiting : List Waiting) → Every (λ txn. waits waiting txn.id ≡ true) waiting
all_wait [] = tt
all_wait (txn ∷ waiting) = (ap (λ (b : Bool). b || waits waiting txn.id) (id_itself txn.id), every_map _ _ (λ other here. or_true (same_id txn.id other.id) (waits waiting other.id) here) waiting (all_wait waiting))
  where
    or_true : (a b : Bool) → b ≡ true → (a || b) ≡ true
    or_true true b e = refl
    or_true false b e = e

pub both_every : (P Q R : Waiting → Type 0) → ((txn : Waiting) → P txn → Q txn → R txn) → (waiting : List Waiting) → Every P waiting → Every Q waiting → Every R waiting
both_every P Q R f [] p q = tt
both_every P Q R f (txn ∷ waiting) p q = (f txn p.0 q.0, both_every P Q R f waiting p.1 q.1)

-- ---- calls for one transaction of a batch

module _ {S : Type 0} (store : Ghosts S) where
  others_all : (c d : Content) (id : TxnId) (waiting : List Waiting) → waits waiting id ≡ true → KeepsOthers c d id → KeepsAllBut c d waiting
  others_all c d id waiting in_it keeps = record {
    records = λ other out. keeps.records other (λ same. absurd (clash (subst (λ (x : TxnId). waits waiting x ≡ false) same out) in_it));
    docs = keeps.docs;
  }
    where
      clash : {b : Bool} → b ≡ false → b ≡ true → ⊥
      clash p q = cc

  all_then : {a b c : Content} (waiting : List Waiting) → KeepsAllBut a b waiting → KeepsAllBut b c waiting → KeepsAllBut a c waiting
  all_then waiting one two = record { records = λ other out. two.records other out ∙ one.records other out; docs = λ key there. two.docs key (one.docs key there) }

  pub batch_none : (s : S) (waiting : List Waiting) (order : List Entry) → IsSound (store.content s) → WorksOnBatch store s s order order waiting
  batch_none s waiting order sound = record {
    run = λ mark base h. h;
    step = (quiet_itself (store.content s) sound).step;
    others = record { records = λ other out. refl; docs = λ key there. there };
    decided = λ all. all;
  }

  pub batch_then : (a b c : S) (before between after : List Entry) (waiting : List Waiting) → WorksOnBatch store a b before between waiting → WorksOnBatch store b c between after waiting
      → WorksOnBatch store a c before after waiting
  batch_then a b c before between after waiting one two = record {
    run = λ mark base h. two.run mark base (one.run mark base h);
    step = step_then one.step two.step;
    others = all_then waiting one.others two.others;
    decided = λ all. two.decided (one.decided all);
  }

  pub batch_works : (a b c : S) (before between after : List Entry) (waiting : List Waiting) (id : TxnId) → waits waiting id ≡ true → WorksOnBatch store a b before between waiting
      → WorksOn store b c between after id → WorksOnBatch store a c before after waiting
  batch_works a b c before between after waiting id in_it one two = record {
    run = λ mark base h. two.run mark base (one.run mark base h);
    step = step_then one.step two.step;
    others = all_then waiting one.others (others_all (store.content b) (store.content c) id waiting in_it two.others);
    decided = λ all. two.decided (waits waiting) in_it (one.decided all);
  }

-- ---- submission

module _ {S : Type 0} (store : Ghosts S) where
  pub submitting_begins : (s : S) (waiting : List Waiting) → MayRun (store.content s) waiting → IsSubmitting store s s waiting waiting
  submitting_begins s waiting may = record {
    works = λ order. batch_none store s waiting order may.calm.sound;
    uses = uses_none (store.content s);
    calm = may.calm;
    may_begin = may.may_begin;
    distinct = may.distinct;
    within = all_wait waiting;
    done = λ d keeps all. all;
    own = λ d keeps all. all;
  }

  -- the insertion of a record that isn't there leaves those that are
  keeps_present : (now next : S) (txn : Waiting) → record_at (store.content now) txn.id ≡ None → ((order : List Entry) → WorksOn store now next order order txn.id) → KeepsPresent (store.content now) (store.content next)
  keeps_present now next txn fresh works id rec there =
      (works []).others.records id (λ same. absurd (both_ways (record_at (store.content now) txn.id) (subst (λ (x : TxnId). record_at (store.content now) x ≡ Some rec) same there) fresh)) ∙ there
    where
      both_ways : (o : Option Record) → o ≡ Some rec → o ≡ None → ⊥
      both_ways o p q = cc

  pub submitting_next : (old now next : S) (waiting : List Waiting) (txn : Waiting) (left : List Waiting) → IsSubmitting store old now waiting (txn ∷ left)
      → ((order : List Entry) → WorksOn store now next order order txn.id) → Uses (store.content now) (store.content next) 0 0 0 0 → IsCalm (store.content next) → IsSubmitted (store.content next) txn → IsSubmitting store old next waiting left
  submitting_next old now next waiting txn left h works uses calm stands =
      let distinct = and_parts _ _ h.distinct in
      let others = (works []).others in
      let apart = apart_from txn.id left (not_false (waits left txn.id) distinct.0) in
      record {
        works = λ order. batch_works store old now next order order order waiting txn.id h.within.0 (h.works order) (works order);
        uses = uses_then h.uses uses;
        calm = calm;
        may_begin = both_every (λ other. other.id ≢ txn.id) (MayBegin (store.content now)) (MayBegin (store.content next)) (λ other apart may. record { fresh = others.records other.id apart ∙ may.fresh; docs = docs_stay (store.content now) (store.content next) other others.docs may.docs }) left apart h.may_begin.1;
        distinct = distinct.1;
        within = h.within.1;
        done = λ d keeps all. h.done d (λ id rec there. keeps id rec (stays id rec there)) (keeps txn.id (preparing_record txn) stands, all);
        own = λ d keeps all. h.own d (λ id rec there. keeps id rec (stays id rec there)) (own_submitted d txn (keeps txn.id (preparing_record txn) stands), all);
      }
    where
      stays : KeepsPresent (store.content now) (store.content next)
      stays = keeps_present now next txn h.may_begin.0.fresh works

  -- a transaction whose submission was refused left no record
  pub submitting_refused : (old now next : S) (waiting : List Waiting) (txn : Waiting) (left : List Waiting) → IsSubmitting store old now waiting (txn ∷ left)
      → ((order : List Entry) → WorksOn store now next order order txn.id) → record_at (store.content next) txn.id ≡ record_at (store.content now) txn.id → Every (HasOwnOperations (store.content next)) waiting
  submitting_refused old now next waiting txn left h works still =
      let apart = apart_from txn.id left (not_false (waits left txn.id) (and_parts _ _ h.distinct).0) in
      h.own (store.content next) (keeps_present now next txn h.may_begin.0.fresh works) (
        own_none (store.content next) txn (still ∙ h.may_begin.0.fresh),
        both_every (λ other. other.id ≢ txn.id) (MayBegin (store.content now)) (HasOwnOperations (store.content next)) (λ other apart may. own_none (store.content next) other ((works []).others.records other.id apart ∙ may.fresh)) left apart h.may_begin.1,
      )

  pub submitting_ends : (old now : S) (waiting : List Waiting) → MayRun (store.content old) waiting → IsSubmitting store old now waiting [] → IsBegun (store.content now) waiting
  submitting_ends old now waiting may h = record {
    calm = h.calm;
    submitted = h.done (store.content now) (λ id rec there. there) tt;
    docs = every_map (MayBegin (store.content old)) (HasDocuments (store.content now)) (λ txn m. docs_stay (store.content old) (store.content now) txn (h.works []).others.docs m.docs) waiting may.may_begin;
    distinct = may.distinct;
  }

-- ---- settling

uses_one_more : {c d e : Content} {m n : ℕ} (k : ℕ) → Uses c d m n (suc k) (suc k) → Uses d e 1 1 0 0 → Uses c e m n k k
uses_one_more k h one = record { counter = omega (arith, h.counter, one.counter); numbers = λ key. omega (arith, h.numbers key, one.numbers key) }

-- a record that came to its end stays so
settled_later : (c d : Content) (txn : Waiting) (o : Outcome) → IsStep c d → IsSettled c txn o → IsSettled d txn o
unfolding look
settled_later c d txn o step e =
    let still = step.lost.records txn.id e.rec e.there in
    record {
      rec = still.now;
      there = still.there;
      ends = stays o still.now.state (subst (λ (s : State). may_follow s still.now.state ≡ true) e.ends still.goes.state);
      ops = still.goes.ops ∙ e.ops;
      info = still.goes.info ∙ e.info;
    }
  where
    stays : (o : Outcome) (s : State) → may_follow (settled_state o) s ≡ true → s ≡ settled_state o
    stays outcome.Applied state.Applied h = refl
    stays outcome.Applied state.Preparing h = absurd (cc)
    stays outcome.Applied state.Prepared h = absurd (cc)
    stays outcome.Applied state.Aborting h = absurd (cc)
    stays outcome.Applied state.Applying h = absurd (cc)
    stays outcome.Applied state.Aborted h = absurd (cc)
    stays outcome.Aborted state.Aborted h = refl
    stays outcome.Aborted state.Preparing h = absurd (cc)
    stays outcome.Aborted state.Prepared h = absurd (cc)
    stays outcome.Aborted state.Aborting h = absurd (cc)
    stays outcome.Aborted state.Applying h = absurd (cc)
    stays outcome.Aborted state.Applied h = absurd (cc)

-- the state of a transaction that came to its end
abbrev pub ended_state : Waiting → Outcome → List RecordState
ended_state txn o = record { id = txn.id; state = settled_state o } ∷ []

ended_states : (c : Content) (txn : Waiting) (o : Outcome) → IsSettled c txn o → state_of txn.id (record_at c txn.id) ≡ ended_state txn o
ended_states c txn o e = ap (state_of txn.id) e.there ∙ ap (λ (s : State). record { id = txn.id; state = s } ∷ []) e.ends

settled_now : (c : Content) (txn : Waiting) (o : Outcome) → IsSettled c txn o → settled (look c) txn.id ≡ true
unfolding look settled
settled_now c txn o e = ap (state_passes is_settled_state) e.there ∙ by o e.rec.state e.ends
  where
    by : (o : Outcome) (s : State) → s ≡ settled_state o → is_settled_state s ≡ true
    by outcome.Applied s e = ap is_settled_state e
    by outcome.Aborted s e = ap is_settled_state e

-- what a transaction rests on as it begins
pub begins_worth : (c : Content) (txn : Waiting) (left : List Waiting) → IsBegun c (txn ∷ left) → IsWorth c txn stage.Draw
begins_worth c txn left b = record { sound = b.calm.sound; plain = b.calm.plain; alone = rest_alone txn.id b.calm.rests; docs = b.docs.0; stage = b.submitted.0 }

module _ {S : Type 0} (store : Ghosts S) where
  pub settling_begins : (s : S) (order : List Entry) (waiting : List Waiting) → IsBegun (store.content s) waiting → IsSettling store s s order order waiting waiting []
  settling_begins s order waiting b = record {
    works = batch_none store s waiting order b.calm.sound;
    uses = uses_within (uses_none (store.content s)) (omega arith) (omega arith);
    begun = b;
    within = all_wait waiting;
    done = λ d step all. all;
    are = λ d step. refl;
  }

  pub settling_next : (old now next : S) (before order after : List Entry) (waiting : List Waiting) (txn : Waiting) (left : List Waiting) (states more : List RecordState) (o : Outcome)
      → IsSettling store old now before order waiting (txn ∷ left) states
      → WorksOn store now next order after txn.id → Uses (store.content now) (store.content next) 1 1 0 0 → IsWorth (store.content next) txn (stage.Settled o) → more ≡ states ++ ended_state txn o
      → IsSettling store old next before after waiting left more
  settling_next old now next before order after waiting txn left states more o h works uses worth added =
      let distinct = and_parts _ _ h.begun.distinct in
      let apart = apart_from txn.id left (not_false (waits left txn.id) distinct.0) in
      record {
        works = batch_works store old now next before order after waiting txn.id h.within.0 h.works works;
        uses = uses_one_more (length left) h.uses uses;
        begun = record {
          calm = record { sound = worth.sound; plain = worth.plain; rests = alone_rest txn.id worth.alone (settled_now (store.content next) txn o worth.stage) };
          submitted = both_every (λ other. other.id ≢ txn.id) (IsSubmitted (store.content now)) (IsSubmitted (store.content next)) (λ other apart there. works.others.records other.id apart ∙ there) left apart h.begun.submitted.1;
          docs = every_map (HasDocuments (store.content now)) (HasDocuments (store.content next)) (λ other docs. docs_stay (store.content now) (store.content next) other works.others.docs docs) left h.begun.docs.1;
          distinct = distinct.1;
        };
        within = h.within.1;
        done = λ d step all. h.done d (step_then works.step step) (record { outcome = o; settled = settled_later (store.content next) d txn o step worth.stage }, all);
        are = λ d step.
            h.are d (step_then works.step step)
            ∙ ap (λ (l : List RecordState). states ++ (l ++ record_states d left)) (ended_states d txn o (settled_later (store.content next) d txn o step worth.stage))
            ∙ sym (append_assoc states (ended_state txn o) (record_states d left))
            ∙ ap (λ (l : List RecordState). l ++ record_states d left) (sym added);
      }

  pub settling_ends : (old now : S) (before order : List Entry) (waiting : List Waiting) (states : List RecordState) → IsSettling store old now before order waiting [] states → IsDoneWith (store.content now) waiting states
  settling_ends old now before order waiting states h =
      let same = (quiet_itself (store.content now) h.begun.calm.sound).step in
      record {
        calm = h.begun.calm;
        ended = h.done (store.content now) same tt;
        are = sym (h.are (store.content now) same ∙ append-nil states);
      }

-- what was used up to a transaction, and what its own calls used
pub uses_up_to_here : {c d e : Content} {m n : ℕ} (k : ℕ) → Uses c d m n (suc k) (suc k) → Uses d e 1 1 0 0 → Uses c e m n 0 0
uses_up_to_here k h one = record { counter = omega (arith, h.counter, one.counter); numbers = λ key. omega (arith, h.numbers key, one.numbers key) }
