-- The order that a trail of calls records tells of each record that came to be decided, and of no other.
use Rattle.std.proofs.Common.{◌≡◌, ℕ, zero, suc, ◌+◌, ◌<◌, ◌≤◌, Bool, true, false, ◌&&◌, not, cond, Option, Some, None, List, [], ◌∷◌, ◌++◌, ◌⊎◌, inl, inr, ⊎_elim, sym, ap, ◌∙◌, refl, subst, arith}
use Rattle.std.proofs.lemmas.Option.{same_Some}
use Rattle.std.specs.FinMap.{get-entries, entries, find}
use Rattle.std.specs.List.{AllByRecursion, filter_map, cons_option}
use Rattle.std.specs.Ordering.{eq_by_cmp}
use Rattle.txn_key.specs.Documents.{Docs}
use Rattle.txn_key.specs.declared.id.TxnId.{TxnId}
use Rattle.txn_record.specs.States.{was_decided_state}
use Rattle.txn_record.specs.declared.entry.Entry.{Entry}
use Rattle.txn_record.specs.declared.record.Record.{Record}
use Rattle.txn_record.specs.declared.state.State.{State}
use Rattle.txn_record.specs.declared.state.State.TheVariants as state
use Rattle.store_trait.specs.Contents.{Content}
use Rattle.store_laws.specs.Decisions.{decided_by, decisions, decision, entry_at, outcome_of}
use Rattle.store_laws.specs.Later.{may_follow, GoesTo}
use Rattle.store_trait.specs.Names.{name_cmp}
use Rattle.store_laws.specs.Soundness.{IsSound}
use Rattle.store_laws.specs.Steps.{IsStep, ComesTo}
use Rattle.store_laws.specs.View.{look, record_at, was_decided}
use Rattle.store_trait.specs.declared.cell.Cell.{Cell}
use Rattle.store_trait.specs.declared.cell.Cell.TheVariants as cell
use Rattle.store_trait.specs.declared.name.Name.{Name}
use Rattle.store_trait.specs.declared.name.Name.TheVariants as name
use Rattle.store_laws.proofs.steps.RecordEdits.{own_id}
use Rattle.store_laws.proofs.trails.TrailGrows.{step_of}
use Rattle.store_laws.proofs.trails.TrailFaithful.{sound_at}
use Rattle.store_laws.proofs.trails.TrailLegal.{all_append}
use Rattle.store_laws.proofs.views.Views.{chosen_at, decided_if_chosen, present_decided}
use Rattle.store_laws.specs.Trail.{IsCall, Quiet, Applying, Aborting, IsTrail, Tells, IsRecorded, IsKept}
use Rattle.store_laws.proofs.cells.Under.{record_under}

recorded_before : (xs ys : List Entry) (rec : Record) → IsRecorded xs rec → IsRecorded (xs ++ ys) rec
recorded_before [] ys rec h = absurd h
recorded_before (e ∷ xs) ys rec (inl t) = inl t
recorded_before (e ∷ xs) ys rec (inr h) = inr (recorded_before xs ys rec h)

recorded_after : (xs ys : List Entry) (rec : Record) → IsRecorded ys rec → IsRecorded (xs ++ ys) rec
recorded_after [] ys rec h = h
recorded_after (e ∷ xs) ys rec h = inr (recorded_after xs ys rec h)

-- A record that is newly decided was prepared.

tells_itself : (at : ℕ) (rec : Record) → Tells (entry_at at rec) rec
tells_itself at rec = record { id = refl; ops = refl; outcome = refl }

found_decided : (c : Content) (at : ℕ) (now : Record) → decision c at (cell.Record now) ≡ Some (entry_at at now) → (n : Name) (es : List (Name × Cell)) → find name_cmp n es ≡ Some (cell.Record now)
    → IsRecorded (filter_map (λ (entry : Name × Cell). decision c at entry.1) es) now
found_decided c at now decides n [] found = cc
found_decided c at now decides n (e ∷ es) found = by (eq_by_cmp name_cmp n e.0) found (found_decided c at now decides n es)
  where
    rest : List Entry
    rest = filter_map (λ (entry : Name × Cell). decision c at entry.1) es

    skip : (o : Option Entry) → IsRecorded rest now → IsRecorded (cons_option o rest) now
    skip None h = h
    skip (Some e) h = inr h

    by : (b : Bool) → cond b (Some e.1) (find name_cmp n es) ≡ Some (cell.Record now) → (find name_cmp n es ≡ Some (cell.Record now) → IsRecorded rest now) → IsRecorded (cons_option (decision c at e.1) rest) now
    by true q later = subst (λ (o : Option Entry). IsRecorded (cons_option o rest) now) (sym (ap (decision c at) (same_Some e.1 (cell.Record now) q) ∙ decides)) (inl (tells_itself at now))
    by false q later = skip (decision c at e.1) (later q)

newly_recorded : (c d : Content) (at : ℕ) (id : TxnId) (now : Record) → IsSound d → record_at d id ≡ Some now → was_decided_state now.state ≡ true → was_decided (look c) id ≡ false → IsRecorded (decided_by c d at) now
newly_recorded c d at id now sound there chose before =
    found_decided c at now decides (name.Record id) (entries d) (sym (get-entries d (name.Record id)) ∙ record_under d id now there)
  where
    unchosen : was_decided (look c) now.id ≡ false
    unchosen = ap (was_decided (look c)) (sym (own_id d id now sound there)) ∙ before

    decides : decision c at (cell.Record now) ≡ Some (entry_at at now)
    decides = λ i. cond (chose i && not (unchosen i)) (Some (entry_at at now)) None

-- What was decided stays so.

same_outcome : (s t : State) → was_decided_state s ≡ true → may_follow s t ≡ true → outcome_of t ≡ outcome_of s
same_outcome state.Preparing t c f = cc
same_outcome state.Prepared t c f = cc
same_outcome state.Aborting state.Aborting c f = refl
same_outcome state.Aborting state.Aborted c f = refl
same_outcome state.Aborting _ c f = cc
same_outcome state.Applying state.Applying c f = refl
same_outcome state.Applying state.Applied c f = refl
same_outcome state.Applying _ c f = cc
same_outcome state.Aborted state.Aborted c f = refl
same_outcome state.Aborted _ c f = cc
same_outcome state.Applied state.Applied c f = refl
same_outcome state.Applied _ c f = cc

tells_later : (entry : Entry) (rec now : Record) → now.id ≡ rec.id → was_decided_state rec.state ≡ true → GoesTo rec now → Tells entry rec → Tells entry now
tells_later entry rec now same chose goes tells = record { id = tells.id ∙ sym same; ops = tells.ops ∙ sym goes.ops; outcome = tells.outcome ∙ sym (same_outcome rec.state now.state chose goes.state) }

recorded_later : (order : List Entry) (rec now : Record) → now.id ≡ rec.id → was_decided_state rec.state ≡ true → GoesTo rec now → IsRecorded order rec → IsRecorded order now
recorded_later [] rec now same chose goes h = h
recorded_later (e ∷ order) rec now same chose goes (inl t) = inl (tells_later e rec now same chose goes t)
recorded_later (e ∷ order) rec now same chose goes (inr h) = inr (recorded_later order rec now same chose goes h)

chosen_present : (c : Content) (id : TxnId) → was_decided (look c) id ≡ true → (rec : Record) × (record_at c id ≡ Some rec) × (was_decided_state rec.state ≡ true)
unfolding look
chosen_present c id chose =
    let (rec, there, was_prepared) = present_decided (look c) id (decided_if_chosen (look c) id chose) in
    (rec, there, sym (chosen_at (look c) id rec there) ∙ chose)

-- the record as it is one step on
goes_on : (c d : Content) → IsSound c → IsSound d → IsStep c d → (id : TxnId) (rec now : Record) → record_at c id ≡ Some rec → record_at d id ≡ Some now → (now.id ≡ rec.id) × GoesTo rec now
unfolding look
goes_on c d before after step id rec now there then_ =
    let still = step.lost.records id rec there in
    (sym (own_id d id now after then_) ∙ own_id c id rec before there, subst (GoesTo rec) (same_Some still.now now (sym still.there ∙ then_)) still.goes)

-- an entry goes on telling of its record
kept_on : (c d : Content) → IsSound c → IsSound d → IsStep c d → (entry : Entry) → IsKept c entry → IsKept d entry
unfolding look
kept_on c d before after step entry kept =
    let still = step.lost.records entry.id kept.rec kept.there in
    let same = sym (own_id d entry.id still.now after still.there) ∙ own_id c entry.id kept.rec before kept.there in
    record {
      rec = still.now;
      there = still.there;
      chose = sym (chosen_at (look d) entry.id still.now still.there) ∙ step.later.back.chooses entry.id (chosen_at (look c) entry.id kept.rec kept.there ∙ kept.chose);
      tells = tells_later entry kept.rec still.now same kept.chose still.goes kept.tells;
    }

all_kept_on : (c d : Content) → IsSound c → IsSound d → IsStep c d → (order : List Entry) → AllByRecursion (IsKept c) order → AllByRecursion (IsKept d) order
all_kept_on c d before after step [] all = tt
all_kept_on c d before after step (e ∷ order) all = (kept_on c d before after step e all.0, all_kept_on c d before after step order all.1)

kept_come : (old new : Content) (at : ℕ) (rec : Record) (to : State) → was_decided_state to ≡ true → ComesTo old new rec to → IsKept new (entry_at at rec)
kept_come old new at rec to chooses comes = record { rec = rec; there = comes.now; chose = ap was_decided_state comes.state ∙ chooses; tells = tells_itself at rec }

decided_kept : (old new : Content) (at : ℕ) → IsCall old new → AllByRecursion (IsKept new) (decided_by old new at)
decided_kept old new at (Quiet q) = subst (AllByRecursion (IsKept new)) (sym (q.none at)) tt
decided_kept old new at (Applying rec a) = subst (AllByRecursion (IsKept new)) (sym (a.one at)) (kept_come old new at rec state.Applying refl a.decides, tt)
decided_kept old new at (Aborting rec a) = subst (AllByRecursion (IsKept new)) (sym (a.one at)) (kept_come old new at rec state.Aborting refl a.decides, tt)

module _ (trail : ℕ → Content) (mark n : ℕ) (base : Docs) (t : IsTrail trail mark n base) where
  next_sound : (k : ℕ) → k < n → IsSound (trail (mark + k + 1))
  next_sound k less = (step_of (t.calls k less)).sound

  -- a decided record was so at the mark, or is recorded
  recorded_at : (k : ℕ) → k ≤ n → (id : TxnId) (now : Record) → record_at (trail (mark + k)) id ≡ Some now → was_decided_state now.state ≡ true
      → (was_decided (look (trail mark)) id ≡ true) ⊎ IsRecorded (decisions trail mark k) now
  unfolding look
  recorded_at zero le id now there chose = inl (ap (λ (m : ℕ). was_decided (look (trail m)) id) (here mark) ∙ chosen_at (look (trail (mark + 0))) id now there ∙ chose)
    where
      here : (m : ℕ) → m ≡ m + 0
      here m = omega arith
  recorded_at (suc k) le id now there chose = by (was_decided (look old) id) refl (recorded_at k (omega arith) id)
    where
      old : Content
      old = trail (mark + k)

      new : Content
      new = trail (mark + k + 1)

      at : ℕ
      at = mark + k + 1

      step : IsStep old new
      step = step_of (t.calls k (omega arith))

      next : (m k : ℕ) → m + suc k ≡ m + k + 1
      next m k = omega arith

      there_new : record_at new id ≡ Some now
      there_new = sym (ap (λ (m : ℕ). record_at (trail m) id) (next mark k)) ∙ there

      by : (b : Bool) → was_decided (look old) id ≡ b
          → ((r : Record) → record_at old id ≡ Some r → was_decided_state r.state ≡ true → (was_decided (look (trail mark)) id ≡ true) ⊎ IsRecorded (decisions trail mark k) r)
          → (was_decided (look (trail mark)) id ≡ true) ⊎ IsRecorded (decisions trail mark k ++ decided_by old new at) now
      by false e before = inr (recorded_after (decisions trail mark k) (decided_by old new at) now (newly_recorded old new at id now (next_sound k (omega arith)) there_new chose e))
      by true e before =
          let (r, was, chose_r) = chosen_present old id e in
          let went = goes_on old new (sound_at trail mark n base t k (omega arith)) (next_sound k (omega arith)) step id r now was there_new in
          ⊎_elim (λ first. inl first) (λ h. inr (recorded_before (decisions trail mark k) (decided_by old new at) now (recorded_later (decisions trail mark k) r now went.0 chose_r went.1 h))) (before r was chose_r)

  pub trail_records : (id : TxnId) (now : Record) → record_at (trail (mark + n)) id ≡ Some now → was_decided_state now.state ≡ true → (was_decided (look (trail mark)) id ≡ true) ⊎ IsRecorded (decisions trail mark n) now
  trail_records = recorded_at n (omega arith)

  kept_at : (k : ℕ) → k ≤ n → AllByRecursion (IsKept (trail (mark + k))) (decisions trail mark k)
  kept_at zero le = tt
  kept_at (suc k) le =
      subst (λ (m : ℕ). AllByRecursion (IsKept (trail m)) (decisions trail mark (suc k))) (next mark k)
      (all_append (IsKept (trail (mark + k + 1))) (decisions trail mark k) (decided_by (trail (mark + k)) (trail (mark + k + 1)) (mark + k + 1))
      (all_kept_on (trail (mark + k)) (trail (mark + k + 1)) (sound_at trail mark n base t k (omega arith)) (next_sound k (omega arith)) (step_of (t.calls k (omega arith))) (decisions trail mark k) (kept_at k (omega arith)))
      (decided_kept (trail (mark + k)) (trail (mark + k + 1)) (mark + k + 1) (t.calls k (omega arith))))
    where
      next : (m k : ℕ) → m + k + 1 ≡ m + suc k
      next m k = omega arith

  -- each entry tells of a record that is there
  pub trail_keeps : AllByRecursion (IsKept (trail (mark + n))) (decisions trail mark n)
  trail_keeps = kept_at n (omega arith)
