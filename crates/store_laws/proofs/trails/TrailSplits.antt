-- A trail and the trails that it consists of.
use Rattle.std.proofs.Common.{◌≡◌, ℕ, zero, suc, ◌+◌, ◌-◌, ◌<◌, ◌≤◌, ◌++◌, ◌⊎◌, ⊎_elim, append-nil, sym, ap, ◌∙◌, subst, arith}
use Rattle.std.proofs.lemmas.List.{append_assoc}
use Rattle.txn_key.specs.Documents.{Docs}
use Rattle.txn_record.specs.Orders.{after}
use Rattle.store_trait.specs.Contents.{Content}
use Rattle.store_laws.specs.Decisions.{decided_by, decisions}
use Rattle.store_laws.specs.Trail.{IsCall, IsTrail}
use Rattle.store_laws.proofs.trails.TrailFaithful.{sound_at, means_at}

-- the decisions of a whole are those of its parts, in turn
pub decisions-split : (trail : ℕ → Content) (mark n m : ℕ) → decisions trail mark (n + m) ≡ decisions trail mark n ++ decisions trail (mark + n) m
decisions-split trail mark n zero = ap (decisions trail mark) (nothing n) ∙ sym (append-nil (decisions trail mark n))
  where
    nothing : (n : ℕ) → n + 0 ≡ n
    nothing n = omega arith
decisions-split trail mark n (suc m) =
    ap (decisions trail mark) (next n m)
    ∙ (λ i. decisions-split trail mark n m i ++ decided_by (trail (sum mark n m i)) (trail (sum mark n m i + 1)) (sum mark n m i + 1))
    ∙ append_assoc (decisions trail mark n) (decisions trail (mark + n) m) (decided_by (trail (mark + n + m)) (trail (mark + n + m + 1)) (mark + n + m + 1))
  where
    next : (n m : ℕ) → n + suc m ≡ suc (n + m)
    next n m = omega arith

    sum : (k n m : ℕ) → k + (n + m) ≡ k + n + m
    sum k n m = omega arith

module _ (trail : ℕ → Content) (mark n m : ℕ) (base : Docs) where
  pub trail_first : IsTrail trail mark (n + m) base → IsTrail trail mark n base
  trail_first t = record { opens = t.opens; base_is = t.base_is; calls = λ k less. t.calls k (omega (arith, less)) }

  -- from a place on, over what the documents are after the decisions so far
  pub trail_rest : IsTrail trail mark (n + m) base → IsTrail trail (mark + n) m (after base (decisions trail mark n))
  trail_rest t = record {
    opens = sound_at trail mark (n + m) base t n (omega arith);
    base_is = means_at trail mark (n + m) base t n (omega arith);
    calls = λ k less. subst (λ (j : ℕ). IsCall (trail j) (trail (j + 1))) (sum mark n k) (t.calls (n + k) (omega (arith, less)));
  }
    where
      sum : (a b c : ℕ) → a + (b + c) ≡ a + b + c
      sum a b c = omega arith

  pub trail_joined : (then_ : Docs) → IsTrail trail mark n base → IsTrail trail (mark + n) m then_ → IsTrail trail mark (n + m) base
  trail_joined then_ one two = record {
    opens = one.opens;
    base_is = one.base_is;
    calls = λ k less. ⊎_elim (one.calls k) (λ le. subst (λ (j : ℕ). IsCall (trail j) (trail (j + 1))) (back mark n k le) (two.calls (k - n) (omega (arith, less, le)))) (side k);
  }
    where
      side : (k : ℕ) → (k < n) ⊎ (n ≤ k)
      side k = grind arith

      back : (a b k : ℕ) → b ≤ k → a + b + (k - b) ≡ a + k
      back a b k le = omega (arith, le)
