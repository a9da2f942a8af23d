-- How a trail of calls grows.
use Rattle.std.proofs.Common.{◌≡◌, ℕ, zero, suc, ◌+◌, ◌<◌, ◌≤◌, ◌++◌, ◌⊎◌, ⊎_elim, sym, ap, ◌∙◌, refl, subst, arith}
use Rattle.txn_key.specs.Documents.{Docs}
use Rattle.store_trait.specs.Contents.{Content}
use Rattle.store_laws.specs.Decisions.{decided_by, decisions}
use Rattle.store_laws.specs.Meaning.{meaning}
use Rattle.store_laws.specs.Soundness.{IsSound}
use Rattle.store_laws.specs.Steps.{IsStep}
use Rattle.store_laws.specs.Trail.{IsCall, Quiet, Applying, Aborting, IsTrail}

pub step_of : {old new : Content} → IsCall old new → IsStep old new
step_of (Quiet q) = q.step
step_of (Applying rec a) = a.step
step_of (Aborting rec a) = a.step

-- places that are the same so far tell the same decisions
pub decisions-same : (trail other : ℕ → Content) (mark n : ℕ) → ((k : ℕ) → k ≤ mark + n → other k ≡ trail k) → decisions other mark n ≡ decisions trail mark n
decisions-same trail other mark zero same = refl
decisions-same trail other mark (suc n) same =
    let before = decisions-same trail other mark n (λ k le. same k (omega arith)) in
    let from = same (mark + n) (omega arith) in
    let to = same (mark + n + 1) (omega arith) in
    λ i. before i ++ decided_by (from i) (to i) (mark + n + 1)

-- one call more adds its decisions
pub decisions-more : (trail : ℕ → Content) (mark n : ℕ) → decisions trail mark (n + 1) ≡ decisions trail mark n ++ decided_by (trail (mark + n)) (trail (mark + n + 1)) (mark + n + 1)
decisions-more trail mark n = ap (decisions trail mark) one_more
  where
    one_more : n + 1 ≡ suc n
    one_more = omega arith

pub trail_opens : (trail : ℕ → Content) (mark : ℕ) → IsSound (trail mark) → IsTrail trail mark 0 (meaning (trail mark))
trail_opens trail mark sound = record { opens = sound; base_is = refl; calls = λ k less. absurd (omega arith) }

-- a trail of which nothing but later places changed
pub trail_same : (trail other : ℕ → Content) (mark n : ℕ) (base : Docs) → ((k : ℕ) → k ≤ mark + n → other k ≡ trail k) → IsTrail trail mark n base → IsTrail other mark n base
trail_same trail other mark n base same t = record {
  opens = subst IsSound (sym first) t.opens;
  base_is = ap meaning first ∙ t.base_is;
  calls = λ k less. subst (λ (c : Content). IsCall c (other (mark + k + 1))) (sym (same (mark + k) (omega arith))) (subst (IsCall (trail (mark + k))) (sym (same (mark + k + 1) (omega arith))) (t.calls k less));
}
  where
    first : other mark ≡ trail mark
    first = same mark (omega arith)

-- a trail with one more call
pub trail_more : (trail : ℕ → Content) (mark n : ℕ) (base : Docs) → IsTrail trail mark n base → IsCall (trail (mark + n)) (trail (mark + n + 1)) → IsTrail trail mark (n + 1) base
trail_more trail mark n base t call = record {
  opens = t.opens;
  base_is = t.base_is;
  calls = λ k less. ⊎_elim (λ e. subst (λ (j : ℕ). IsCall (trail (mark + j)) (trail (mark + j + 1))) (sym e) call) (λ below. t.calls k below) (last_or_before k less);
}
  where
    last_or_before : (k : ℕ) → k < n + 1 → (k ≡ n) ⊎ (k < n)
    last_or_before k less = grind arith
