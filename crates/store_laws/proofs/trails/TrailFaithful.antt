-- A trail of calls is a faithful history.
use Rattle.std.proofs.Common.{◌≡◌, ℕ, zero, suc, ◌+◌, ◌-◌, ◌≤◌, Some, List, [], ◌∷◌, ◌++◌, ◌⊎◌, ⊎_elim, sym, ap, ◌∙◌, refl, subst, arith}
use Rattle.std.proofs.lemmas.Option.{same_Some}
use Rattle.txn_key.specs.Documents.{Docs}
use Rattle.txn_key.specs.declared.id.TxnId.{TxnId}
use Rattle.txn_record.specs.Orders.{after, outcome_effect}
use Rattle.txn_record.specs.declared.entry.Entry.{Entry}
use Rattle.txn_record.specs.declared.entry.Outcome.{Outcome}
use Rattle.txn_record.specs.declared.record.Record.{Record}
use Rattle.store_trait.specs.Contents.{Content}
use Rattle.store_laws.specs.Decisions.{decided_by, decisions, outcome_of}
use Rattle.store_laws.specs.History.{SameTransaction, IsFaithful}
use Rattle.store_laws.specs.Meaning.{meaning}
use Rattle.store_laws.specs.Soundness.{IsSound}
use Rattle.store_laws.specs.Steps.{IsStep}
use Rattle.store_laws.specs.View.{look, record_at}
use Rattle.store_laws.proofs.steps.Moments.{since_step}
use Rattle.store_laws.proofs.trails.TrailGrows.{step_of}
use Rattle.store_laws.specs.Since.{Link, Since}
use Rattle.store_laws.specs.Trail.{IsCall, Quiet, Applying, Aborting, IsTrail}

after-append : (base : Docs) (xs ys : List Entry) → after base (xs ++ ys) ≡ after (after base xs) ys
after-append base [] ys = refl
after-append base (entry ∷ xs) ys = after-append (outcome_effect entry.outcome entry.ops base) xs ys

-- the meaning goes on by what a call decides
pub means_after : {old new : Content} (at : ℕ) → IsCall old new → meaning new ≡ after (meaning old) (decided_by old new at)
means_after {old = old} at (Quiet q) = q.means ∙ sym (ap (after (meaning old)) (q.none at))
means_after {old = old} at (Applying rec a) =
    a.means ∙ sym (ap (after (meaning old)) (a.one at) ∙ ap (λ (o : Outcome). outcome_effect o rec.ops (meaning old)) (ap outcome_of a.decides.state))
means_after {old = old} at (Aborting rec a) =
    a.means ∙ sym (ap (after (meaning old)) (a.one at) ∙ ap (λ (o : Outcome). outcome_effect o rec.ops (meaning old)) (ap outcome_of a.decides.state))

module _ (trail : ℕ → Content) (mark n : ℕ) (base : Docs) (t : IsTrail trail mark n base) where
  pub sound_at : (k : ℕ) → k ≤ n → IsSound (trail (mark + k))
  sound_at zero le = subst (λ (m : ℕ). IsSound (trail m)) (first mark) t.opens
    where
      first : (m : ℕ) → m ≡ m + 0
      first m = omega arith
  sound_at (suc k) le = subst (λ (m : ℕ). IsSound (trail m)) (next mark k) (step_of (t.calls k (omega arith))).sound
    where
      next : (m k : ℕ) → m + k + 1 ≡ m + suc k
      next m k = omega arith

  pub means_at : (k : ℕ) → k ≤ n → meaning (trail (mark + k)) ≡ after base (decisions trail mark k)
  means_at zero le = ap (λ (m : ℕ). meaning (trail m)) (first mark) ∙ t.base_is
    where
      first : (m : ℕ) → m + 0 ≡ m
      first m = omega arith
  means_at (suc k) le =
      ap (λ (m : ℕ). meaning (trail m)) (next mark k)
      ∙ means_after (mark + k + 1) (t.calls k (omega arith))
      ∙ ap (λ (docs : Docs). after docs (decided_by (trail (mark + k)) (trail (mark + k + 1)) (mark + k + 1))) (means_at k (omega arith))
      ∙ sym (after-append base (decisions trail mark k) (decided_by (trail (mark + k)) (trail (mark + k + 1)) (mark + k + 1)))
    where
      next : (m k : ℕ) → m + suc k ≡ m + k + 1
      next m k = omega arith

  -- the calls between two places
  calls_on : (j i : ℕ) → j + i ≤ n → Since (trail (mark + j)) (trail (mark + (j + i)))
  calls_on j zero le = subst (λ (m : ℕ). Since (trail (mark + j)) (trail m)) (here mark j) (Since.Nothing (trail (mark + j)))
    where
      here : (m j : ℕ) → m + j ≡ m + (j + 0)
      here m j = omega arith
  calls_on j (suc i) le = subst (λ (m : ℕ). Since (trail (mark + j)) (trail m)) (next mark j i) (Since.Then (trail (mark + j)) (trail (mark + (j + i))) (trail (mark + (j + i) + 1)) (calls_on j i (omega arith)) (Link.Call (t.calls (j + i) (omega arith))))
    where
      next : (m j i : ℕ) → m + (j + i) + 1 ≡ m + (j + suc i)
      next m j i = omega arith

  pub calls_between : (j k : ℕ) → j ≤ k → k ≤ n → Since (trail (mark + j)) (trail (mark + k))
  calls_between j k le within = subst (λ (m : ℕ). Since (trail (mark + j)) (trail (mark + m))) (sum j k le) (calls_on j (k - j) (omega arith))
    where
      sum : (j k : ℕ) → j ≤ k → j + (k - j) ≡ k
      sum j k le = omega arith

  -- as one step
  pub steps_between : (j k : ℕ) → j ≤ k → k ≤ n → IsStep (trail (mark + j)) (trail (mark + k))
  steps_between j k le within = since_step (trail (mark + j)) (trail (mark + k)) (sound_at j (omega arith)) (calls_between j k le within)

  same_later : (j k : ℕ) (id : TxnId) (old new : Record) → j ≤ k → k ≤ n → record_at (trail (mark + j)) id ≡ Some old → record_at (trail (mark + k)) id ≡ Some new → SameTransaction old new
  unfolding look
  same_later j k id old new le within before after_ =
      let still = (steps_between j k le within).lost.records id old before in
      let same : still.now ≡ new = same_Some still.now new (sym still.there ∙ after_) in
      record { ops = sym (ap (λ (r : Record). r.ops) same) ∙ still.goes.ops; info = sym (ap (λ (r : Record). r.info) same) ∙ still.goes.info }

  pub trail_faithful : IsFaithful trail mark n base
  trail_faithful = record {
    sound = sound_at;
    means = means_at;
    kept = λ j k id old new jn kn before after_. ⊎_elim
        (λ le. same_later j k id old new le kn before after_)
        (λ le. let back = same_later k j id new old le jn after_ before in record { ops = sym back.ops; info = sym back.info })
        (either j k);
  }
    where
      either : (j k : ℕ) → (j ≤ k) ⊎ (k ≤ j)
      either j k = grind arith
