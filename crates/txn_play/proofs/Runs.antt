-- The Runs of a call while calls are made.
use Rattle.std.proofs.Common.{◌≡◌, ℕ, ◌≤◌, List, [], ◌∷◌, ◌++◌, true, sym, ap, ◌∙◌, subst, arith, Bool, false, IsTrue, refl}
use Rattle.txn_key.specs.Documents.{Docs}
use Rattle.txn_record.specs.Orders.{after, legal}
use Rattle.txn_record.specs.declared.entry.Entry.{Entry}
use Rattle.store_trait.specs.Contents.{Content}
use Rattle.store_laws.specs.Meaning.{meaning}
use Rattle.store_laws.specs.Soundness.{IsSound}
use Rattle.store_laws.proofs.trails.TrailFaithful.{trail_faithful, means_at}
use Rattle.store_laws.proofs.trails.TrailLegal.{trail_legal}
use Rattle.txn_runner.specs.Running.{HasRun}
use Rattle.txn_play.specs.Runs.{RunsGoOn, AreFaithful, end_of}
use Rattle.txn_play.specs.declared.run.Run.{Run}
use Rattle.txn_runner.proofs.Running.{run_same, run_reads}

-- what the store means at the end of a run
pub run_means : (trail : ℕ → Content) (mark n : ℕ) (base : Docs) (order : List Entry) → HasRun trail mark n base order → meaning (trail n) ≡ after base order
run_means trail mark n base order h =
    ap (λ (k : ℕ). meaning (trail k)) h.counted ∙ means_at trail mark h.made base h.told h.made (omega arith) ∙ ap (after base) (sym h.order_is)

pub run_legal : (trail : ℕ → Content) (mark n : ℕ) (base : Docs) (order : List Entry) → HasRun trail mark n base order → legal base order ≡ true
run_legal trail mark n base order h = ap (legal base) h.order_is ∙ trail_legal trail mark h.made base h.told

-- marks and ends stand in order
end_within : (trail : ℕ → Content) (runs : List Run) (last : ℕ) → RunsGoOn trail runs last → end_of runs last ≤ last
end_within trail [] last h = omega arith
end_within trail (run ∷ runs) last h = omega (arith, end_within trail runs last h.2, h.0.counted)

pub runs_same : (p q : ℕ → Content) (runs : List Run) (last : ℕ) → ((k : ℕ) → k ≤ last → q k ≡ p k) → RunsGoOn p runs last → RunsGoOn q runs last
runs_same p q [] last same h = tt
runs_same p q (run ∷ runs) last same h =
    let within = end_within p runs last h.2 in
    (run_same p q run.mark (end_of runs last) run.base run.order (λ k le. same k (omega (arith, le, within))) h.0, h.1, runs_same p q runs last same h.2)

pub runs_read : (q : ℕ → Content) (runs : List Run) (m n : ℕ) (c : Content) → m ≤ n → IsSound c → ((k : ℕ) → m ≤ k → k ≤ n → q k ≡ c) → RunsGoOn q runs m → RunsGoOn q runs n
runs_read q [] m n c le sound same h = tt
runs_read q (run ∷ []) m n c le sound same h = (run_reads q run.mark m n run.base run.order c le sound same h.0, tt, tt)
runs_read q (run ∷ next ∷ runs) m n c le sound same h = (h.0, h.1, runs_read q (next ∷ runs) m n c le sound same h.2)

-- one Run more, from the last call on
pub runs_add : (q : ℕ → Content) (runs : List Run) (run : Run) (m n : ℕ) → RunsGoOn q runs m → run.mark ≡ m → run.base ≡ meaning (q m) → HasRun q run.mark n run.base run.order → RunsGoOn q (runs ++ run ∷ []) n
runs_add q [] run m n h mark base has = (has, tt, tt)
runs_add q (last ∷ []) run m n h mark base has = (subst (λ (k : ℕ). HasRun q last.mark k last.base last.order) (sym mark) h.0, base ∙ run_means q last.mark m last.base last.order h.0, (has, tt, tt))
runs_add q (first ∷ next ∷ runs) run m n h mark base has = (h.0, h.1, runs_add q (next ∷ runs) run m n h.2 mark base has)

pub runs_faithful : (trail : ℕ → Content) (runs : List Run) (last : ℕ) → RunsGoOn trail runs last → AreFaithful trail runs last
runs_faithful trail [] last h = tt
runs_faithful trail (run ∷ runs) last h = (
  record { made = h.0.made; counted = h.0.counted; order_is = h.0.order_is; faithful = trail_faithful trail run.mark h.0.made run.base h.0.told; legal = run_legal trail run.mark (end_of runs last) run.base run.order h.0 },
  h.1,
  runs_faithful trail runs last h.2,
)

pub none_go_on : (trail : ℕ → Content) (runs : List Run) (last : ℕ) → runs ≡ [] → RunsGoOn trail runs last
none_go_on trail runs last none = subst (λ (rs : List Run). RunsGoOn trail rs last) (sym none) tt

pub held_or_none : (trail : ℕ → Content) (runs : List Run) (last : ℕ) (was : Bool) → (IsTrue was → RunsGoOn trail runs last) → (was ≡ false → runs ≡ []) → RunsGoOn trail runs last
held_or_none trail runs last true held none = held refl
held_or_none trail runs last false held none = none_go_on trail runs last (none refl)
