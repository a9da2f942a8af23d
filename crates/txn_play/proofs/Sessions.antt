-- What holds between two statements, kept by each.
use Rattle.std.proofs.Common.{◌≡◌, ℕ, Bool, true, false, not, ◌&&◌, ◌||◌, List, [], ◌∷◌, ◌++◌, Option, Some, None, is_some, is_none, cond, IsTrue, Err, arith, refl, sym, ap, ◌∙◌, subst, Ok}
use Rattle.std.specs.FinMap.{get, insert, empty}
use Rattle.std.specs.List.{list_all}
use Rattle.std.specs.Option.{option_and_then}
use Rattle.std.proofs.lemmas.Bool.{and_parts}
use Rattle.std.proofs.lemmas.Slice.Eq.{bytes_eq-Decides}
use Rattle.doc_value.specs.declared.value.Value.{Value}
use Rattle.txn_key.specs.declared.id.TxnId.{TxnId}
use Rattle.txn_key.specs.declared.key.Key.{Key}
use Rattle.txn_record.specs.declared.op.Op.{Op}
use Rattle.store_trait.specs.Stores.{CallsGoOn}
use Rattle.store_trait.specs.declared.store.Store.{Ghosts}
use Rattle.store_trait.specs.Cells.{as_record}
use Rattle.store_trait.specs.Contents.{Content}
use Rattle.store_trait.specs.Edits.{hit, hit_place, edited, put_under}
use Rattle.store_trait.specs.Names.{same_id}
use Rattle.store_laws.specs.View.{record_at}
use Rattle.store_trait.specs.declared.cell.Cell.{Cell}
use Rattle.store_trait.specs.declared.cell.Cell.TheVariants as cell
use Rattle.store_trait.specs.declared.edit.Edit.TheVariants as edit
use Rattle.store_trait.specs.declared.name.Name.TheVariants as name
use Rattle.store_laws.specs.Placed.{new_doc}
use Rattle.store_laws.proofs.cells.AfterEdits.{place_queues}
use Rattle.store_laws.proofs.views.AmongSettled.{rest_same}
use Rattle.store_laws.proofs.cells.Misses.{miss_leaves}
use Rattle.store_laws.proofs.steps.Placing.{place_means}
use Rattle.store_laws.proofs.cells.Empty.{empty_sound, empty_rests}
use Rattle.store_laws.proofs.steps.PlainEdits.{plain_empty, plain_place}
use Rattle.store_laws.proofs.cells.Records.{same_id-equal}
use Rattle.txn_play.specs.Batches.{waits, are_distinct, Every, MayBegin, MayRun}
use Rattle.store_laws.proofs.trails.CallsMade.{calls_none}
use Rattle.txn_runner.specs.Calm.{IsCalm}
use Rattle.store_laws.specs.Reads.{OnlyReads}
use Rattle.txn_play.specs.Progress.{Progress, against_placing, placed_doc}
use Rattle.txn_play.specs.Runs.{RunsGoOn}
use Rattle.txn_play.specs.Sessions.{IsBetween, IsKept, Stands}
use Rattle.txn_runner.specs.Store.{has_document, has_record}
use Rattle.txn_play.specs.declared.objection.Objection.{Objection}
use Rattle.txn_play.specs.declared.objection.Objection.TheVariants as objection
use Rattle.txn_play.specs.declared.run.Run.{Run}
use Rattle.txn_play.specs.declared.session.Session.{Session}
use Rattle.txn_runner.specs.declared.waiting.Waiting.{Waiting}
use Rattle.txn_play.proofs.OnlyReading.{runs_only_read}

pub opens_calm : IsCalm empty
opens_calm = record { sound = empty_sound; plain = plain_empty; rests = empty_rests }

pub nothing_waits : (c : Content) → IsCalm c → MayRun c []
nothing_waits c calm = record { calm = calm; may_begin = tt; distinct = refl }

-- ---- a transaction more

absent_record : (c : Content) (id : TxnId) → has_record c id ≡ false → record_at c id ≡ None
unfolding record_at
absent_record c id none = by (get c (name.Record id)) none
  where
    by : (o : Option Cell) → is_some o ≡ false → option_and_then as_record o ≡ None
    by None e = refl
    by (Some x) e = absurd (cc)

every_more : (P : Waiting → Type 0) (waiting : List Waiting) (txn : Waiting) → Every P waiting → P txn → Every P (waiting ++ txn ∷ [])
every_more P [] txn all here = (here, tt)
every_more P (other ∷ waiting) txn all here = (all.0, every_more P waiting txn all.1 here)

waits_more : (waiting : List Waiting) (txn : Waiting) (id : TxnId) → waits waiting id ≡ false → same_id txn.id id ≡ false → waits (waiting ++ txn ∷ []) id ≡ false
waits_more [] txn id none apart = ap (λ (b : Bool). b || false) apart
waits_more (other ∷ waiting) txn id none apart = by (same_id other.id id) (waits waiting id) (waits (waiting ++ txn ∷ []) id) none (λ rest. waits_more waiting txn id rest apart)
  where
    by : (a b d : Bool) → (a || b) ≡ false → (b ≡ false → d ≡ false) → (a || d) ≡ false
    by true b d e f = absurd (cc)
    by false b d e f = f e

other_way : (a b : TxnId) → same_id a b ≡ false → same_id b a ≡ false
other_way a b apart = by (same_id b a) refl
  where
    by : (t : Bool) → same_id b a ≡ t → t ≡ false
    by false e = refl
    by true e = absurd (clash (subst (λ (x : TxnId). same_id a x ≡ true) (sym (same_id-equal b a e)) ((bytes_eq-Decides a.0 a.0).1 refl)) apart)
      where
        clash : {t : Bool} → t ≡ true → t ≡ false → ⊥
        clash p q = cc

pub not_false : (b : Bool) → not b ≡ true → b ≡ false
not_false false e = refl
not_false true e = absurd (cc)

distinct_more : (waiting : List Waiting) (txn : Waiting) → are_distinct waiting ≡ true → waits waiting txn.id ≡ false → are_distinct (waiting ++ txn ∷ []) ≡ true
distinct_more [] txn all none = refl
distinct_more (other ∷ waiting) txn all none =
    let parts = and_parts _ _ all in
    let split = or_parts (same_id other.id txn.id) (waits waiting txn.id) none in
    λ i. not (waits_more waiting txn other.id (not_false (waits waiting other.id) parts.0) (other_way other.id txn.id split.0) i) && distinct_more waiting txn parts.1 split.1 i
  where
    or_parts : (a b : Bool) → (a || b) ≡ false → (a ≡ false) × (b ≡ false)
    or_parts false b e = (refl, e)
    or_parts true b e = absurd (cc)

pub one_more_waits : (c : Content) (waiting : List Waiting) (txn : Waiting) → MayRun c waiting → waits waiting txn.id ≡ false → has_record c txn.id ≡ false → list_all (λ (op : Op). has_document c op.key) txn.ops ≡ true
    → MayRun c (waiting ++ txn ∷ [])
one_more_waits c waiting txn may none fresh docs = record {
  calm = may.calm;
  may_begin = every_more (MayBegin c) waiting txn may.may_begin (record { fresh = absent_record c txn.id fresh; docs = docs });
  distinct = distinct_more waiting txn may.distinct none;
}

-- ---- a document is placed

pub place_calm : (c : Content) (key : Key) (body : Value) → IsCalm c → IsCalm (edited c (name.Doc key) (edit.Place (cell.Doc (new_doc body))))
place_calm c key body calm = by (is_some (hit (edit.Place (cell.Doc (new_doc body))) (name.Doc key) (get c (name.Doc key)))) refl
  where
    by : (t : Bool) → is_some (hit (edit.Place (cell.Doc (new_doc body))) (name.Doc key) (get c (name.Doc key))) ≡ t → IsCalm (edited c (name.Doc key) (edit.Place (cell.Doc (new_doc body))))
    by false e = subst IsCalm (sym (miss_leaves c (name.Doc key) (edit.Place (cell.Doc (new_doc body))) e)) calm
    by true e =
        let placed = place_means c key body calm.sound (calm.plain.no_stash key) e in
        record {
          sound = placed.sound;
          plain = plain_place c key calm.plain body;
          rests = rest_same placed.later.back (place_queues c key body (calm.plain.no_stash key)) calm.rests;
        }

-- a document was placed against which nothing stood
pub placed_calm : (p : Progress) (key : Key) (body : Value) → IsCalm p.content → against_placing p (name.Doc key) (placed_doc body) ≡ None
    → IsCalm (insert p.content (name.Doc key) (placed_doc body))
placed_calm p key body calm nothing = by (get p.content (name.Doc key)) refl
  where
    barred : (begun : Bool) → cond begun (Some objection.PlacedTooLate) (Some objection.PlacedTwice) ≡ None → ⊥
    barred true e = cc
    barred false e = cc

    by : (o : Option Cell) → get p.content (name.Doc key) ≡ o → IsCalm (insert p.content (name.Doc key) (placed_doc body))
    by None e = subst IsCalm (λ i. put_under p.content (name.Doc key) (hit_place (placed_doc body) (name.Doc key) (e i))) (place_calm p.content key body calm)
    by (Some x) e = absurd (barred p.begun (subst (λ (o : Option Cell). cond p.begun (Some objection.PlacedTooLate) (cond (is_none o && true) None (Some objection.PlacedTwice)) ≡ None) e nothing))

-- ---- what each statement keeps

true_false : {b : Bool} {A : Type 0} → b ≡ true → b ≡ false → A
true_false p q = absurd (clash p q)
  where
    clash : {b : Bool} → b ≡ true → b ≡ false → ⊥
    clash p q = cc

module _ {S : Type 0} (store : Ghosts S) (old new : Session S) (h : IsBetween store old) where
  -- before anything waits there is no Run
  pub no_run_yet : old.begun ≡ false → new.runs.items ≡ old.runs.items → RunsGoOn (store.trail new.store) new.runs.items (store.calls new.store)
  no_run_yet unbegun runs = subst (λ (rs : List Run). RunsGoOn (store.trail new.store) rs (store.calls new.store)) (sym (runs ∙ (h.unbegun unbegun).1)) tt

  pub placing_stands : old.begun ≡ false → new.begun ≡ old.begun → new.batch ≡ old.batch → new.runs.items ≡ old.runs.items
      → (IsTrue new.documents_alone → IsCalm (store.content new.store)) → IsBetween store new
  placing_stands unbegun begun batch runs calm =
      let none = h.unbegun unbegun in
      record {
        may_run = λ alone. subst (MayRun (store.content new.store)) (sym (batch ∙ none.0)) (nothing_waits (store.content new.store) (calm alone));
        none_run = λ e. runs ∙ none.1;
        runs = no_run_yet unbegun runs;
        unbegun = λ e. (batch ∙ none.0, runs ∙ none.1);
      }

  pub reading_runs : IsTrue store.tells → OnlyReads store old.store new.store → CallsGoOn store old.store new.store → new.runs.items ≡ old.runs.items
      → RunsGoOn (store.trail new.store) new.runs.items (store.calls new.store)
  reading_runs told reads on runs = by old.documents_alone refl
    where
      goal : List Run → Type 0
      goal rs = RunsGoOn (store.trail new.store) rs (store.calls new.store)

      by : (alone : Bool) → old.documents_alone ≡ alone → goal new.runs.items
      by false e = subst goal (sym (runs ∙ h.none_run e)) tt
      by true e = subst goal (sym runs) (runs_only_read store old.store new.store old.runs.items reads on told (h.may_run e).calm.sound h.runs)

  pub adding_stands : (txn : Waiting) → IsTrue store.tells → OnlyReads store old.store new.store → CallsGoOn store old.store new.store
      → new.runs.items ≡ old.runs.items → new.documents_alone ≡ old.documents_alone → new.batch ≡ old.batch ++ txn ∷ [] → new.begun ≡ true
      → waits old.batch txn.id ≡ false → has_record (store.content old.store) txn.id ≡ false → list_all (λ (op : Op). has_document (store.content old.store) op.key) txn.ops ≡ true
      → IsBetween store new
  adding_stands txn told reads on runs alone batch begun none fresh docs = record {
    may_run = λ e. subst (MayRun (store.content new.store)) (sym batch) (subst (λ (c : Content). MayRun c (old.batch ++ txn ∷ [])) (sym reads.same) (one_more_waits (store.content old.store) old.batch txn (h.may_run (sym alone ∙ e)) none fresh docs));
    none_run = λ e. runs ∙ h.none_run (sym alone ∙ e);
    runs = reading_runs told reads on runs;
    unbegun = λ e. true_false begun e;
  }

  -- nothing but reads
  pub showing_stands : IsTrue store.tells → OnlyReads store old.store new.store → CallsGoOn store old.store new.store
      → new.runs.items ≡ old.runs.items → new.documents_alone ≡ old.documents_alone → new.batch ≡ old.batch → new.begun ≡ true → IsBetween store new
  showing_stands told reads on runs alone batch begun = record {
    may_run = λ e. subst (MayRun (store.content new.store)) (sym batch) (subst (λ (c : Content). MayRun c old.batch) (sym reads.same) (h.may_run (sym alone ∙ e)));
    none_run = λ e. runs ∙ h.none_run (sym alone ∙ e);
    runs = reading_runs told reads on runs;
    unbegun = λ e. true_false begun e;
  }

-- ---- calls that were refused, or made none

-- a refusal after calls that only read leaves the Runs
pub refused_reading : {S T E : Type 0} (store : Ghosts S) (old new : Session S) (why : E) → Stands store old
    → (IsTrue store.tells → OnlyReads store old.store new.store) → CallsGoOn store old.store new.store
    → new.runs.items ≡ old.runs.items → IsKept {T = T} store old new (Err why)
refused_reading store old new why stands reads on runs = record {
  stands = tt;
  runs = λ told. reading_runs store old new (stands told) told (reads told) on runs;
  calls = on;
}

-- calls that only read leave a statement's session standing
pub kept_reading : {S T E : Type 0} (store : Ghosts S) (old new : Session S) (answer : T) → Stands store old
    → (IsTrue store.tells → OnlyReads store old.store new.store) → CallsGoOn store old.store new.store
    → new.runs.items ≡ old.runs.items → new.documents_alone ≡ old.documents_alone → new.batch ≡ old.batch → new.begun ≡ true
    → IsKept {E = E} store old new (Ok answer)
kept_reading store old new answer stands reads on runs alone batch begun = record {
  stands = λ told. showing_stands store old new (stands told) told (reads told) on runs alone batch begun;
  runs = λ told. reading_runs store old new (stands told) told (reads told) on runs;
  calls = on;
}

-- a call that does nothing is refused
pub refused_idly : {S T E : Type 0} (store : Ghosts S) (old new : Session S) (why : E) → Stands store old
    → (IsTrue store.tells → store.trail old.store (store.calls old.store) ≡ store.content old.store)
    → new.store ≡ old.store → new.runs.items ≡ old.runs.items → IsKept {T = T} store old new (Err why)
refused_idly {S} {T} {E} store old new why stands present same runs = record {
  stands = tt;
  runs = λ told.
      subst (λ (s : S). RunsGoOn (store.trail s) new.runs.items (store.calls s)) (sym same)
      (subst (λ (rs : List Run). RunsGoOn (store.trail old.store) rs (store.calls old.store)) (sym runs) (stands told).runs);
  calls = subst (λ (s : S). CallsGoOn store old.store s) (sym same) (calls_none store old.store present);
}
