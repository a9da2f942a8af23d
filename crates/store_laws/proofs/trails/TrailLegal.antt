-- The order that a trail of calls records is legal: each transaction stands there once, decided rightly.
use Rattle.std.proofs.Common.{◌≡◌, ℕ, zero, suc, ◌+◌, ◌≤◌, Bool, true, false, ◌||◌, List, [], ◌∷◌, ◌++◌, sym, ap, ◌∙◌, refl, subst, arith, true≢false, append-nil}
use Rattle.std.specs.List.{AllByRecursion}
use Rattle.std.proofs.lemmas.Slice.Eq.{bytes_eq-Decides}
use Rattle.std.specs.Str.{bytes_eq}
use Rattle.txn_key.specs.Documents.{Docs}
use Rattle.txn_key.specs.declared.id.TxnId.{TxnId}
use Rattle.txn_record.proofs.OrderLaws.{legal-push}
use Rattle.txn_record.specs.Orders.{after, is_right, has_entry, legal}
use Rattle.txn_record.specs.Effects.{tests}
use Rattle.txn_record.specs.States.{was_decided_state}
use Rattle.txn_record.specs.declared.entry.Entry.{Entry}
use Rattle.txn_record.specs.declared.record.Record.{Record}
use Rattle.txn_record.specs.declared.state.State.{State}
use Rattle.txn_record.specs.declared.state.State.TheVariants as state
use Rattle.store_trait.specs.Contents.{Content}
use Rattle.store_laws.specs.Decisions.{decided_by, decisions, entry_at, outcome_of}
use Rattle.store_laws.specs.Meaning.{meaning}
use Rattle.store_laws.specs.Steps.{ComesTo}
use Rattle.store_laws.specs.View.{look, was_decided}
use Rattle.store_laws.proofs.trails.TrailGrows.{step_of}
use Rattle.store_laws.proofs.trails.TrailFaithful.{means_at}
use Rattle.store_laws.proofs.views.Views.{chosen_at}
use Rattle.store_laws.specs.Trail.{IsCall, Quiet, Applying, Aborting, IsTrail}

-- every entry is of a transaction that was decided
abbrev AllChosen : Content → List Entry → Type 0
AllChosen c entries = AllByRecursion (λ (e : Entry). was_decided (look c) e.id ≡ true) entries

pub all_append : {X : Type 0} (P : X → Type 0) (xs ys : List X) → AllByRecursion P xs → AllByRecursion P ys → AllByRecursion P (xs ++ ys)
all_append P [] ys p q = q
all_append P (x ∷ xs) ys p q = (p.0, all_append P xs ys p.1 q)

all_later : (c d : Content) → ((id : TxnId) → was_decided (look c) id ≡ true → was_decided (look d) id ≡ true) → (entries : List Entry) → AllChosen c entries → AllChosen d entries
all_later c d goes [] all = tt
all_later c d goes (e ∷ entries) all = (goes e.id all.0, all_later c d goes entries all.1)

-- a transaction that isn't decided stands in no order of decided ones
not_there : (c : Content) (entry : Entry) → was_decided (look c) entry.id ≡ false → (entries : List Entry) → AllChosen c entries → has_entry entries entry ≡ false
not_there c entry before [] all = refl
not_there c entry before (e ∷ entries) all = by (bytes_eq e.id.0 entry.id.0) refl (not_there c entry before entries all.1)
  where
    by : (b : Bool) → bytes_eq e.id.0 entry.id.0 ≡ b → has_entry entries entry ≡ false → (bytes_eq e.id.0 entry.id.0 || has_entry entries entry) ≡ false
    by true q rest =
        let bytes = (bytes_eq-Decides e.id.0 entry.id.0).0 q in
        let same : e.id ≡ entry.id = λ i. record { 0 = bytes i } in
        absurd (true≢false (sym all.0 ∙ ap (was_decided (look c)) same ∙ before))
    by false q rest = λ i. q i || rest i

comes_chosen : (old new : Content) (rec : Record) (to : State) → ComesTo old new rec to → was_decided_state to ≡ true → was_decided (look new) rec.id ≡ true
unfolding look
comes_chosen old new rec to comes chooses = chosen_at (look new) rec.id rec comes.now ∙ ap was_decided_state comes.state ∙ chooses

decided_chosen : (old new : Content) (at : ℕ) → IsCall old new → AllChosen new (decided_by old new at)
decided_chosen old new at (Quiet q) = subst (AllChosen new) (sym (q.none at)) tt
decided_chosen old new at (Applying rec a) = subst (AllChosen new) (sym (a.one at)) (comes_chosen old new rec state.Applying a.decides refl, tt)
decided_chosen old new at (Aborting rec a) = subst (AllChosen new) (sym (a.one at)) (comes_chosen old new rec state.Aborting a.decides refl, tt)

-- a call adds to a legal order what keeps it so
legal_goes : (old new : Content) (at : ℕ) (base : Docs) (order : List Entry) → IsCall old new → meaning old ≡ after base order → AllChosen old order → legal base order ≡ true → legal base (order ++ decided_by old new at) ≡ true
legal_goes old new at base order (Quiet q) means all so_far = ap (λ (l : List Entry). legal base (order ++ l)) (q.none at) ∙ ap (legal base) (append-nil order) ∙ so_far
legal_goes old new at base order (Applying rec a) means all so_far =
    ap (λ (l : List Entry). legal base (order ++ l)) (a.one at)
    ∙ legal-push base order (entry_at at rec) so_far (not_there old (entry_at at rec) a.decides.before order all)
    ((λ i. is_right (outcome_of (a.decides.state i)) (tests rec.ops (sym means i))) ∙ a.tested)
legal_goes old new at base order (Aborting rec a) means all so_far =
    ap (λ (l : List Entry). legal base (order ++ l)) (a.one at)
    ∙ legal-push base order (entry_at at rec) so_far (not_there old (entry_at at rec) a.decides.before order all)
    ((λ i. is_right (outcome_of (a.decides.state i)) (tests rec.ops (sym means i))) ∙ right)
  where
    right : is_right (outcome_of state.Aborting) (tests rec.ops (meaning old)) ≡ true
    right = ap (is_right (outcome_of state.Aborting)) a.failed

module _ (trail : ℕ → Content) (mark n : ℕ) (base : Docs) (t : IsTrail trail mark n base) where
  all_chosen : (k : ℕ) → k ≤ n → AllChosen (trail (mark + k)) (decisions trail mark k)
  all_chosen zero le = tt
  all_chosen (suc k) le =
      subst (λ (m : ℕ). AllChosen (trail m) (decisions trail mark (suc k))) (next mark k)
      (all_append (λ (e : Entry). was_decided (look (trail (mark + k + 1))) e.id ≡ true) (decisions trail mark k) (decided_by (trail (mark + k)) (trail (mark + k + 1)) (mark + k + 1))
      (all_later (trail (mark + k)) (trail (mark + k + 1)) (step_of (t.calls k (omega arith))).later.back.chooses (decisions trail mark k) (all_chosen k (omega arith)))
      (decided_chosen (trail (mark + k)) (trail (mark + k + 1)) (mark + k + 1) (t.calls k (omega arith))))
    where
      next : (m k : ℕ) → m + k + 1 ≡ m + suc k
      next m k = omega arith

  legal_at : (k : ℕ) → k ≤ n → legal base (decisions trail mark k) ≡ true
  legal_at zero le = refl
  legal_at (suc k) le =
      legal_goes (trail (mark + k)) (trail (mark + k + 1)) (mark + k + 1) base (decisions trail mark k) (t.calls k (omega arith)) (means_at trail mark n base t k (omega arith)) (all_chosen k (omega arith)) (legal_at k (omega arith))

  pub trail_legal : legal base (decisions trail mark n) ≡ true
  trail_legal = legal_at n (omega arith)
