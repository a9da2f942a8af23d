-- Why a step of a preparation is refused.
use Rattle.std.proofs.Common.{◌≡◌, ℕ, ◌+◌, ◌-◌, ◌≤◌, nat_lt, nat_le, Bool, true, false, cond, Option, Some, None, is_some, unwrap_or, Result, Ok, Err, IfErr, inl, inr, ◌⊎◌, sym, ap, ◌∙◌, refl, subst, arith}
use Rattle.std.proofs.lemmas.Bool.Decides.{nat_tests}
use Rattle.std.proofs.lemmas.Option.{same_Some}
use Rattle.std.specs.Option.{option_and_then}
use Rattle.txn_key.specs.declared.id.Token.{Token}
use Rattle.txn_key.specs.declared.id.TxnId.{TxnId}
use Rattle.txn_key.specs.declared.key.Key.{Key}
use Rattle.txn_record.specs.States.{was_prepared_state}
use Rattle.txn_record.specs.declared.record.Record.{Record}
use Rattle.txn_record.specs.declared.state.State.{State}
use Rattle.txn_record.specs.declared.state.State.TheVariants as state
use Rattle.store_trait.specs.Calls.{Edits}
use Rattle.store_trait.specs.Cells.{as_record, as_doc, as_counter}
use Rattle.store_trait.specs.Edits.{Hit, puts, hit, hit_draw_nonce, hit_add_token, hit_move, unmarked, moved, with_token, nonce_limit}
use Rattle.store_trait.specs.Names.{may_hold, same_state}
use Rattle.store_trait.specs.declared.cell.Cell.{Cell}
use Rattle.store_trait.specs.declared.cell.Cell.TheVariants as cell
use Rattle.store_trait.specs.declared.cell.DocCell.{DocCell}
use Rattle.store_trait.specs.declared.edit.Edit.{Edit}
use Rattle.store_trait.specs.declared.edit.Edit.TheVariants as edit
use Rattle.store_trait.specs.declared.edit.Edited.{Edited}
use Rattle.store_trait.specs.declared.name.Name.{Name}
use Rattle.store_trait.specs.declared.name.Name.TheVariants as name
use Rattle.store_trait.specs.declared.store.Store.{Ghosts}
use Rattle.flush_prepare.specs.Causes.{NoneLeft, IsImpossible, HasCause}
use Rattle.flush_prepare.specs.Draws.{drawn_of}
use Rattle.flush_prepare.specs.Preparations.{name_at, edit_at, drawn_answer, drawn_in, added_answer, moved_answer, edit_answer_at, PrepareGoes}
use Rattle.flush_prepare.specs.Refusals.{IsOfStore}
use Rattle.flush_prepare.specs.declared.error.StepError.{StepError}
use Rattle.flush_prepare.specs.declared.error.StepError.TheVariants as step
use Rattle.flush_prepare.specs.declared.prepare.Place.{Place}
use Rattle.flush_prepare.specs.declared.prepare.Place.TheVariants.{Draw, Document, Entry, AddToDocument, AddToEntry, EntryAgain, Move}
use Rattle.flush_prepare.specs.declared.prepare.Prepare.{Prepare}
use Rattle.flush_prepare.specs.declared.prepare.PrepareStep.{PrepareStep}
use Rattle.flush_prepare.specs.declared.prepare.PrepareStep.TheVariants.{Ready}

-- an answer that no state of the name gives
impossible : (n : Name) (change : Edit) (done : Edited) (Is : Edited → Type 0) → Is done → ((found : Option Cell) → may_hold n found ≡ true → Is (record { hit = is_some (hit change n found); cell = unwrap_or (hit change n found) found }) → ⊥) → IsImpossible n change done
impossible n change done Is now never found kind hits leaves = never found kind (subst Is (λ i. record { hit = hits i; cell = leaves i }) now)

same_err : {T : Type 0} (error other : StepError) (r : Result T StepError) → r ≡ Err other → r ≡ Err error → error ≡ other
same_err error other r p q = cc

-- ---- a draw

abbrev spent_or_odd : TxnId → Bool → Result ℕ StepError
spent_or_odd id t = cond t (Err step.NoncesSpent) (Err (step.Clash id name.Nonce))

-- no state of the counter makes a draw answer so
abbrev IsOdd : TxnId → Edited → Type 0
IsOdd id done = drawn_of id done.hit (option_and_then as_counter done.cell) ≡ Err (step.Clash id name.Nonce)

never_odd : (id : TxnId) (found : Option Cell) → may_hold name.Nonce found ≡ true → IsOdd id (record { hit = is_some (hit_draw_nonce name.Nonce found); cell = unwrap_or (hit_draw_nonce name.Nonce found) found }) → ⊥
never_odd id None kind e = cc e
never_odd id (Some (cell.Record rec)) kind e = cc kind
never_odd id (Some (cell.Doc doc)) kind e = cc kind
never_odd id (Some (cell.Stash stash)) kind e = cc kind
never_odd id (Some (cell.Nonce n)) kind e = by (nat_lt n nonce_limit) refl e
  where
    more : (t : Bool) → nat_lt 0 (n + 1) ≡ t → cond t (Ok (n + 1 - 1)) (Err (step.Clash id name.Nonce)) ≡ Err (step.Clash id name.Nonce) → ⊥
    more true q p = cc p
    more false q p = absurd (grind (arith, nat_tests, q))

    last : (t : Bool) → nat_lt n nonce_limit ≡ false → nat_le nonce_limit n ≡ t → spent_or_odd id t ≡ Err (step.Clash id name.Nonce) → ⊥
    last true past q p = cc p
    last false past q p = absurd (grind (arith, nat_tests, past, q))

    by : (t : Bool) → nat_lt n nonce_limit ≡ t → IsOdd id (record { hit = is_some (cond t (puts (cell.Nonce (n + 1))) None); cell = unwrap_or (cond t (puts (cell.Nonce (n + 1))) None) (Some (cell.Nonce n)) }) → ⊥
    by true less p = more (nat_lt 0 (n + 1)) refl p
    by false past p = last (nat_le nonce_limit n) past refl p

-- a refused draw: none is left, or the answer is odd
draw_refused : (id : TxnId) (hit : Bool) (counter : Option ℕ) (error : StepError) → drawn_of id hit counter ≡ Err error
    → ((error ≡ step.NoncesSpent) × (hit ≡ false) × ((n : ℕ) × (counter ≡ Some n) × (nonce_limit ≤ n))) ⊎ ((error ≡ step.Clash id name.Nonce) × (drawn_of id hit counter ≡ Err (step.Clash id name.Nonce)))
draw_refused id true None error e = inr (same_err error _ _ refl e, refl)
draw_refused id false None error e = inr (same_err error _ _ refl e, refl)
draw_refused id true (Some n) error e = by (nat_lt 0 n) e
  where
    by : (t : Bool) → cond t (Ok (n - 1)) (Err (step.Clash id name.Nonce)) ≡ Err error
        → ((error ≡ step.NoncesSpent) × (true ≡ false) × ((m : ℕ) × (Some n ≡ Some m) × (nonce_limit ≤ m))) ⊎ ((error ≡ step.Clash id name.Nonce) × (cond t (Ok (n - 1)) (Err (step.Clash id name.Nonce)) ≡ Err (step.Clash id name.Nonce)))
    by true p = cc p
    by false p = inr (same_err error _ _ refl p, refl)
draw_refused id false (Some n) error e = by (nat_le nonce_limit n) refl e
  where
    by : (t : Bool) → nat_le nonce_limit n ≡ t → spent_or_odd id t ≡ Err error
        → ((error ≡ step.NoncesSpent) × (false ≡ false) × ((m : ℕ) × (Some n ≡ Some m) × (nonce_limit ≤ m))) ⊎ ((error ≡ step.Clash id name.Nonce) × (spent_or_odd id t ≡ Err (step.Clash id name.Nonce)))
    by true le p = inl (same_err error _ _ refl p, refl, (n, refl, grind (arith, nat_tests, le)))
    by false less p = inr (same_err error _ _ refl p, refl)

counter_found : (found : Option Cell) (n : ℕ) → option_and_then as_counter found ≡ Some n → found ≡ Some (cell.Nonce n)
counter_found None n e = cc
counter_found (Some (cell.Nonce m)) n e = ap (λ (k : ℕ). Some (cell.Nonce k)) (same_Some m n e)
counter_found (Some (cell.Record _)) n e = cc
counter_found (Some (cell.Doc _)) n e = cc
counter_found (Some (cell.Stash _)) n e = cc

-- ---- an addition

abbrev HitsNone : Edited → Type 0
HitsNone done = (done.hit ≡ true) × (option_and_then as_doc done.cell ≡ None)

never_none : (z : Token) (key : Key) (found : Option Cell) → may_hold (name.Doc key) found ≡ true → HitsNone (record { hit = is_some (hit_add_token z (name.Doc key) found); cell = unwrap_or (hit_add_token z (name.Doc key) found) found }) → ⊥
never_none z key None kind h = cc h.0
never_none z key (Some (cell.Record rec)) kind h = cc kind
never_none z key (Some (cell.Stash stash)) kind h = cc kind
never_none z key (Some (cell.Nonce n)) kind h = cc kind
never_none z key (Some (cell.Doc doc)) kind h = by doc.remove h
  where
    by : (mark : Option Token) → let h : Hit = unmarked mark (puts (cell.Doc (record doc { queue = with_token z doc.queue }))) in HitsNone (record { hit = is_some h; cell = unwrap_or h (Some (cell.Doc doc)) }) → ⊥
    by None p = cc p.1
    by (Some mark) p = cc p.0

-- ---- a move

abbrev IsUnprepared : Record → Edited → Type 0
IsUnprepared rec done = ((x : Cell) × (done.cell ≡ Some x)) × (moved_answer rec (option_and_then as_record done.cell) ≡ Err (step.Clash rec.id (name.Record rec.id)))

unless_preparing : (s : State) → same_state s state.Preparing ≡ false → was_prepared_state s ≡ true
unless_preparing state.Preparing other = cc other
unless_preparing state.Prepared other = refl
unless_preparing state.Aborting other = refl
unless_preparing state.Applying other = refl
unless_preparing state.Aborted other = refl
unless_preparing state.Applied other = refl

never_unprepared : (rec : Record) (nonce : ℕ) (found : Option Cell) → may_hold (name.Record rec.id) found ≡ true → let h = hit_move state.Preparing state.Prepared (Some nonce) None (name.Record rec.id) found in IsUnprepared rec (record { hit = is_some h; cell = unwrap_or h found }) → ⊥
never_unprepared rec nonce None kind h = cc h.0.1
never_unprepared rec nonce (Some (cell.Doc doc)) kind h = cc kind
never_unprepared rec nonce (Some (cell.Stash stash)) kind h = cc kind
never_unprepared rec nonce (Some (cell.Nonce n)) kind h = cc kind
never_unprepared rec nonce (Some (cell.Record r)) kind h = by (same_state r.state state.Preparing) refl h
  where
    now : Record
    now = moved state.Prepared (Some nonce) None r

    ready : (t : Bool) → was_prepared_state r.state ≡ t → t ≡ true → cond t (Ok (Ready r)) (Err (step.Clash rec.id (name.Record rec.id))) ≡ Err (step.Clash rec.id (name.Record rec.id)) → ⊥
    ready true q p e = cc e
    ready false q p e = cc p

    by : (t : Bool) → same_state r.state state.Preparing ≡ t → let h : Hit = cond t (puts (cell.Record (moved state.Prepared (Some nonce) None r))) None in IsUnprepared rec (record { hit = is_some h; cell = unwrap_or h (Some (cell.Record r)) }) → ⊥
    by true same p = cc p.1
    by false other p = ready (was_prepared_state r.state) refl (unless_preparing r.state other) p.1

-- ---- each refusal

module _ {S : Type 0} (store : Ghosts S) (old new : S) (prepare : Prepare) (change : Edit) (done : Edited) where
  abbrev Answered : Name → Edit → Type 0
  Answered n e = store.answered old (Edits n e (Ok done)) new

  clash : (n : Name) (e : Edit) → Answered n e → IsImpossible n e done ⊎ ((n ≡ name.Record prepare.rec.id) × (done.cell ≡ None)) → HasCause store old new prepare.rec.id (step.Clash prepare.rec.id n)
  clash n e answered why = (refl, record { exchange = Edits n e (Ok done); answer = answered; shows = (refl, why) })

  of_draw : (error : StepError) → Answered name.Nonce edit.DrawNonce → drawn_in prepare done ≡ Err error → HasCause store old new prepare.rec.id error
  of_draw error answered e = by (draw_refused prepare.rec.id done.hit (option_and_then as_counter done.cell) error e)
    where
      by : ((error ≡ step.NoncesSpent) × (done.hit ≡ false) × ((n : ℕ) × (option_and_then as_counter done.cell ≡ Some n) × (nonce_limit ≤ n))) ⊎ ((error ≡ step.Clash prepare.rec.id name.Nonce) × (drawn_in prepare done ≡ Err (step.Clash prepare.rec.id name.Nonce)))
          → HasCause store old new prepare.rec.id error
      by (inl spent) = subst (HasCause store old new prepare.rec.id) (sym spent.0) (record {
        exchange = Edits name.Nonce edit.DrawNonce (Ok done);
        answer = answered;
        shows = subst (λ (o : Option Cell). NoneLeft done.hit o) (sym (counter_found done.cell spent.2.0 spent.2.1)) (subst (λ (t : Bool). NoneLeft t (Some (cell.Nonce spent.2.0))) (sym spent.1) spent.2.2);
      })
      by (inr odd) = subst (HasCause store old new prepare.rec.id) (sym odd.0) (clash name.Nonce edit.DrawNonce answered (inl (impossible name.Nonce edit.DrawNonce done (IsOdd prepare.rec.id) odd.1 (never_odd prepare.rec.id))))

  of_draw_answer : (error : StepError) → Answered name.Nonce edit.DrawNonce → (r : Result ℕ StepError) → drawn_in prepare done ≡ r → drawn_answer r ≡ Err error → HasCause store old new prepare.rec.id error
  of_draw_answer error answered (Ok n) e p = absurd (cc p)
  of_draw_answer error answered (Err other) e p = of_draw error answered (e ∙ ap Err (sym (same_err error other (Err other) refl p)))

  of_addition : (z : Token) (error : StepError) → Answered (name.Doc prepare.key) (edit.AddToken z) → (t : Bool) → done.hit ≡ t → (o : Option DocCell) → option_and_then as_doc done.cell ≡ o → added_answer prepare t o ≡ Err error → HasCause store old new prepare.rec.id error
  of_addition z error answered true h None e p = subst (HasCause store old new prepare.rec.id) (sym (same_err error _ _ refl p)) (clash (name.Doc prepare.key) (edit.AddToken z) answered (inl (impossible (name.Doc prepare.key) (edit.AddToken z) done HitsNone (h, e) (never_none z prepare.key))))
  of_addition z error answered true h (Some doc) e p = absurd (cc p)
  of_addition z error answered false h o e p = absurd (cc p)

  of_move : (nonce : ℕ) (error : StepError) → let m = edit.Move state.Preparing state.Prepared (Some nonce) None in Answered (name.Record prepare.rec.id) m → moved_answer prepare.rec (option_and_then as_record done.cell) ≡ Err error → HasCause store old new prepare.rec.id error
  of_move nonce error answered p = by done.cell refl
    where
      m : Edit
      m = edit.Move state.Preparing state.Prepared (Some nonce) None

      is_clash : (now : Option Record) → moved_answer prepare.rec now ≡ Err error → error ≡ step.Clash prepare.rec.id (name.Record prepare.rec.id)
      is_clash None q = same_err error _ _ refl q
      is_clash (Some now) q = by_state (was_prepared_state now.state) q
        where
          by_state : (t : Bool) → cond t (Ok (Ready now)) (Err (step.Clash prepare.rec.id (name.Record prepare.rec.id))) ≡ Err error → error ≡ step.Clash prepare.rec.id (name.Record prepare.rec.id)
          by_state true q = absurd (cc q)
          by_state false q = same_err error _ _ refl q

      clashes : error ≡ step.Clash prepare.rec.id (name.Record prepare.rec.id)
      clashes = is_clash (option_and_then as_record done.cell) p

      by : (o : Option Cell) → done.cell ≡ o → HasCause store old new prepare.rec.id error
      by None e = subst (HasCause store old new prepare.rec.id) (sym clashes) (clash (name.Record prepare.rec.id) (edit.Move state.Preparing state.Prepared (Some nonce) None) answered (inr (refl, e)))
      by (Some x) e = subst (HasCause store old new prepare.rec.id) (sym clashes) (clash (name.Record prepare.rec.id) (edit.Move state.Preparing state.Prepared (Some nonce) None) answered
          (inl (impossible (name.Record prepare.rec.id) (edit.Move state.Preparing state.Prepared (Some nonce) None) done (IsUnprepared prepare.rec) ((x, e), p ∙ ap Err clashes) (never_unprepared prepare.rec nonce))))

  -- the edit of a place is the one that was made
  own_edit : (place : Place) (own : Edit) → edit_at prepare.rec place ≡ Some own → edit_at prepare.rec place ≡ Some change → Answered (name_at prepare.rec prepare.key place) change → Answered (name_at prepare.rec prepare.key place) own
  own_edit place own is made answered = subst (Answered (name_at prepare.rec prepare.key place)) (same_Some change own (sym made ∙ is)) answered

  edit_cause : (place : Place) (error : StepError) → edit_at prepare.rec place ≡ Some change → Answered (name_at prepare.rec prepare.key place) change → edit_answer_at prepare place done ≡ Err error → HasCause store old new prepare.rec.id error
  edit_cause Draw error made answered e = of_draw_answer error (own_edit Draw edit.DrawNonce refl made answered) (drawn_in prepare done) refl e
  edit_cause (AddToDocument nonce) error made answered e = of_addition _ error (own_edit (AddToDocument nonce) _ refl made answered) done.hit refl (option_and_then as_doc done.cell) refl e
  edit_cause (Move nonce) error made answered e = of_move nonce error (own_edit (Move nonce) _ refl made answered) e
  edit_cause (Document nonce) error made answered e = absurd (cc made)
  edit_cause (Entry nonce doc) error made answered e = absurd (cc made)
  edit_cause (AddToEntry nonce) error made answered e = absurd (cc e)
  edit_cause (EntryAgain nonce revno) error made answered e = absurd (cc made)

store_cause : {S : Type 0} (store : Ghosts S) (old new : S) (id : TxnId) (error : StepError) → IsOfStore error → HasCause store old new id error
store_cause store old new id step.StoreFault kind = kind
store_cause store old new id step.OutOfMemory kind = kind
store_cause store old new id step.NoncesSpent kind = absurd kind
store_cause store old new id (step.RevnoSpent key) kind = kind
store_cause store old new id (step.Lost token) kind = kind
store_cause store old new id (step.Clash who at) kind = absurd kind

pub step_cause : {S : Type 0} (store : Ghosts S) (old new : S) (prepare : Prepare) (result : Result PrepareStep StepError) (next : Prepare) → PrepareGoes store old prepare result next new → IfErr result (HasCause store old new prepare.rec.id)
step_cause store old new prepare (Ok answer) next goes = tt
step_cause store old new prepare (Err error) next (PrepareGoes.ByRead found reads read answers follows) = absurd (cc answers)
step_cause store old new prepare (Err error) next (PrepareGoes.ByEdit change done edits edit answers follows) = edit_cause store old new prepare change done prepare.place error edits edit.answer (sym answers)
step_cause store old new prepare (Err error) next (PrepareGoes.Refused other kind left refuses stays) = store_cause store old new prepare.rec.id error (subst IsOfStore (sym (same_err error other (Err other) refl (sym refuses))) kind)
