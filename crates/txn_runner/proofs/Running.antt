-- How a run goes on with the calls of a runner, and with calls that only read.
use Rattle.std.proofs.Common.{◌≡◌, ℕ, zero, suc, ◌+◌, ◌-◌, ◌≤◌, List, [], ◌∷◌, ◌++◌, ◌⊎◌, inl, inr, sym, ap, ◌∙◌, refl, subst, arith}
use Rattle.std.proofs.lemmas.List.{append-nil}
use Rattle.txn_key.specs.Documents.{Docs}
use Rattle.txn_record.specs.declared.entry.Entry.{Entry}
use Rattle.txn_record.specs.declared.record.Record.{Record}
use Rattle.store_trait.specs.Calls.{GoesOn}
use Rattle.store_trait.specs.Contents.{Content}
use Rattle.store_laws.specs.Decisions.{decided_by, entry_at}
use Rattle.store_laws.specs.Meaning.{meaning}
use Rattle.store_laws.specs.Soundness.{IsSound}
use Rattle.store_laws.specs.Steps.{IsQuiet, Applies, Aborts}
use Rattle.store_laws.proofs.cells.Misses.{quiet_itself}
use Rattle.store_laws.proofs.trails.TrailGrows.{decisions-more, decisions-same, trail_opens, trail_more, trail_same}
use Rattle.store_laws.specs.Trail.{IsCall, Quiet, Applying, Aborting}
use Rattle.txn_runner.specs.Running.{HasRun}

pub run_opens : (trail : ℕ → Content) (mark : ℕ) → IsSound (trail mark) → HasRun trail mark mark (meaning (trail mark)) []
run_opens trail mark sound = record { made = 0; counted = omega arith; told = trail_opens trail mark sound; order_is = refl }

pub run_same : (p q : ℕ → Content) (mark n : ℕ) (base : Docs) (order : List Entry) → ((k : ℕ) → k ≤ n → q k ≡ p k) → HasRun p mark n base order → HasRun q mark n base order
run_same p q mark n base order same h = record {
  made = h.made;
  counted = h.counted;
  told = trail_same p q mark h.made base (λ k le. same k (omega (arith, h.counted))) h.told;
  order_is = h.order_is ∙ sym (decisions-same p q mark h.made (λ k le. same k (omega (arith, h.counted))));
}

-- one call more, at its place
module _ (q : ℕ → Content) (mark n : ℕ) (base : Docs) (order : List Entry) (c d : Content) (here : q n ≡ c) (next : q (n + 1) ≡ d) (h : HasRun q mark n base order) where
  from : q (mark + h.made) ≡ c
  from = ap q (sym h.counted) ∙ here

  to : q (mark + h.made + 1) ≡ d
  to = ap q (omega (arith, h.counted)) ∙ next

  at : mark + h.made + 1 ≡ n + 1
  at = omega (arith, h.counted)

  call : IsCall c d → IsCall (q (mark + h.made)) (q (mark + h.made + 1))
  call one = subst (λ (x : Content). IsCall x (q (mark + h.made + 1))) (sym from) (subst (IsCall c) (sym to) one)

  grown : (added : List Entry) → IsCall c d → ((trail : ℕ) → trail ≡ n + 1 → decided_by c d trail ≡ added) → HasRun q mark (n + 1) base (order ++ added)
  grown added one adds = record {
    made = h.made + 1;
    counted = omega (arith, h.counted);
    told = trail_more q mark h.made base h.told (call one);
    order_is = (λ i. h.order_is i ++ (sym (seen ∙ adds (mark + h.made + 1) at) i)) ∙ sym (decisions-more q mark h.made);
  }
    where
      seen : decided_by (q (mark + h.made)) (q (mark + h.made + 1)) (mark + h.made + 1) ≡ decided_by c d (mark + h.made + 1)
      seen = λ i. decided_by (from i) (to i) (mark + h.made + 1)

-- a call that decides nothing
pub run_quiet : (p q : ℕ → Content) (mark m n : ℕ) (base : Docs) (order : List Entry) (c d : Content)
    → p m ≡ c → GoesOn p q m n d → (n ≡ m + 1) ⊎ (n ≡ m) → IsQuiet c d → HasRun p mark m base order → HasRun q mark n base order
run_quiet p q mark m n base order c d here on (inl more) quiet h =
    let same = run_same p q mark m base order on.before h in
    let one = grown q mark m base order c d (on.before m (omega arith) ∙ here) (ap q (sym more) ∙ on.here) same [] (Quiet quiet) (λ at e. quiet.none at) in
    subst (λ (k : ℕ). HasRun q mark k base order) (sym more) (subst (HasRun q mark (m + 1) base) (append-nil order) one)
run_quiet p q mark m n base order c d here on (inr same) quiet h =
    subst (λ (k : ℕ). HasRun q mark k base order) (sym same) (run_same p q mark m base order on.before h)

-- the call that decides a transaction
pub run_applies : (p q : ℕ → Content) (mark m n : ℕ) (base : Docs) (order : List Entry) (c d : Content) (rec : Record)
    → p m ≡ c → GoesOn p q m n d → n ≡ m + 1 → Applies c d rec → HasRun p mark m base order → HasRun q mark n base (order ++ entry_at n rec ∷ [])
run_applies p q mark m n base order c d rec here on more a h =
    let same = run_same p q mark m base order on.before h in
    let one = grown q mark m base order c d (on.before m (omega arith) ∙ here) (ap q (sym more) ∙ on.here) same (entry_at n rec ∷ []) (Applying rec a) (λ at e. a.one at ∙ ap (λ (k : ℕ). entry_at k rec ∷ []) (e ∙ sym more)) in
    subst (λ (k : ℕ). HasRun q mark k base (order ++ entry_at n rec ∷ [])) (sym more) one

pub run_aborts : (p q : ℕ → Content) (mark m n : ℕ) (base : Docs) (order : List Entry) (c d : Content) (rec : Record)
    → p m ≡ c → GoesOn p q m n d → n ≡ m + 1 → Aborts c d rec → HasRun p mark m base order → HasRun q mark n base (order ++ entry_at n rec ∷ [])
run_aborts p q mark m n base order c d rec here on more a h =
    let same = run_same p q mark m base order on.before h in
    let one = grown q mark m base order c d (on.before m (omega arith) ∙ here) (ap q (sym more) ∙ on.here) same (entry_at n rec ∷ []) (Aborting rec a) (λ at e. a.one at ∙ ap (λ (k : ℕ). entry_at k rec ∷ []) (e ∙ sym more)) in
    subst (λ (k : ℕ). HasRun q mark k base (order ++ entry_at n rec ∷ [])) (sym more) one

-- calls that only read
still : (q : ℕ → Content) (mark m : ℕ) (base : Docs) (order : List Entry) (c : Content) (d : ℕ)
    → IsSound c → ((k : ℕ) → m ≤ k → k ≤ m + d → q k ≡ c) → HasRun q mark m base order → HasRun q mark (m + d) base order
still q mark m base order c zero sound same h = subst (λ (k : ℕ). HasRun q mark k base order) (omega arith) h
still q mark m base order c (suc d) sound same h =
    let before = still q mark m base order c d sound (λ k le within. same k le (omega (arith, within))) h in
    let one = grown q mark (m + d) base order c c (same (m + d) (omega arith) (omega arith)) (same (m + d + 1) (omega arith) (omega arith)) before [] (Quiet (quiet_itself c sound)) (λ at e. (quiet_itself c sound).none at) in
    subst (λ (k : ℕ). HasRun q mark k base order) (omega arith) (subst (HasRun q mark (m + d + 1) base) (append-nil order) one)

pub run_reads : (q : ℕ → Content) (mark m n : ℕ) (base : Docs) (order : List Entry) (c : Content)
    → m ≤ n → IsSound c → ((k : ℕ) → m ≤ k → k ≤ n → q k ≡ c) → HasRun q mark m base order → HasRun q mark n base order
run_reads q mark m n base order c le sound same h =
    subst (λ (k : ℕ). HasRun q mark k base order) back (still q mark m base order c (n - m) sound (λ k low high. same k low (omega (arith, high, back))) h)
  where
    back : m + (n - m) ≡ n
    back = omega (arith, le)
