-- What the edits for a transaction use of nonces and of numbers.
use Rattle.std.proofs.Common.{◌≡◌, ◌≢◌, ℕ, ℤ, pos, negsuc, zero, suc, ◌+◌, ◌+ℤ◌, ◌≤◌, ◌<◌, Bool, true, false, is_some, ◌⊎◌, inl, inr, ⊎_elim, unsigned_abs, refl, sym, ap, subst, arith}
use Rattle.std.specs.FinMap.{get}
use Rattle.std.proofs.Math.IntN.{+ℤ_one}
use Rattle.doc_value.specs.declared.value.Value.{Value}
use Rattle.txn_key.specs.declared.id.Token.{Token}
use Rattle.txn_key.specs.declared.id.TxnId.{TxnId}
use Rattle.txn_key.specs.declared.key.Key.{Key}
use Rattle.txn_record.specs.declared.entry.Outcome.TheVariants as outcome
use Rattle.store_trait.specs.Contents.{Content}
use Rattle.store_trait.specs.Edits.{edited, hit}
use Rattle.store_laws.specs.View.{counter}
use Rattle.store_trait.specs.declared.edit.Edit.{Edit}
use Rattle.store_trait.specs.declared.edit.Edit.TheVariants as edit
use Rattle.store_trait.specs.declared.name.Name.{Name}
use Rattle.store_trait.specs.declared.name.Name.TheVariants as name
use Rattle.store_laws.proofs.cells.AfterEdits.{doc_elsewhere, counter_elsewhere}
use Rattle.store_laws.proofs.views.Equals.{same_key_or_not}
use Rattle.store_laws.proofs.cells.Hits.{add_hit, update_hit, draw_hit}
use Rattle.store_laws.proofs.cells.Misses.{miss_leaves}
use Rattle.txn_runner.specs.Numbers.{Uses, number_at, size_of, nonces_left, numbers_left}
use Rattle.txn_runner.specs.Stages.{steps_left}
use Rattle.txn_runner.specs.declared.stage.Stage.{Stage}
use Rattle.txn_runner.specs.declared.stage.Stage.TheVariants as stage

hits_or_not : (b : Bool) → (b ≡ true) ⊎ (b ≡ false)
hits_or_not true = inl refl
hits_or_not false = inr refl

pub uses_none : (c : Content) → Uses c c 0 0 0 0
uses_none c = record { counter = omega arith; numbers = λ key. omega arith }

-- nothing is used of a content that is as it was
pub uses_same : (c d : Content) → d ≡ c → Uses c d 0 0 0 0
uses_same c d same = subst (λ (x : Content). Uses c x 0 0 0 0) (sym same) (uses_none c)

pub uses_then : {a b c : Content} {m n p q r s : ℕ} → Uses a b m n p q → Uses b c p q r s → Uses a c m n r s
uses_then one two = record {
  counter = omega (arith, one.counter, two.counter);
  numbers = λ key. omega (arith, one.numbers key, two.numbers key);
}

-- what is left needn't be told
pub uses_at_most : {c d : Content} {m n r s : ℕ} → Uses c d m n r s → Uses c d m n 0 0
uses_at_most u = record {
  counter = omega (arith, u.counter);
  numbers = λ key. omega (arith, u.numbers key);
}

-- what may be used and isn't is left
pub uses_within : {c d : Content} {m n p q r s : ℕ} → Uses c d m n 0 0 → m + r ≤ p → n + s ≤ q → Uses c d p q r s
uses_within u nonces numbers = record {
  counter = omega (arith, u.counter, nonces);
  numbers = λ key. omega (arith, u.numbers key, numbers);
}

-- the edited content is the one that the store holds
pub uses_made : {c d x : Content} {m n p q : ℕ} → x ≡ d → Uses c d m n p q → Uses c x m n p q
uses_made {c} {d} {x} {m} {n} {p} {q} made u = subst (λ (y : Content). Uses c y m n p q) (sym made) u

number_elsewhere : (c : Content) (n : Name) (e : Edit) (key : Key) → name.Doc key ≢ n → number_at (edited c n e) key ≡ number_at c key
number_elsewhere c n e key apart = ap size_of (doc_elsewhere c n e key apart)

pub uses_record : (c : Content) (id : TxnId) (e : Edit) → Uses c (edited c (name.Record id) e) 0 0 0 0
uses_record c id e = record {
  counter = omega (arith, counter_elsewhere c (name.Record id) e (λ h. cc h));
  numbers = λ key. omega (arith, number_elsewhere c (name.Record id) e key (λ h. cc h));
}

pub uses_draw : (c : Content) → Uses c (edited c name.Nonce edit.DrawNonce) 1 0 0 0
uses_draw c = record {
  counter = ⊎_elim
      (λ hits. omega (arith, (draw_hit c hits).now))
      (λ misses. omega (arith, ap counter (miss_leaves c name.Nonce edit.DrawNonce misses)))
      (hits_or_not (is_some (hit edit.DrawNonce name.Nonce (get c name.Nonce))));
  numbers = λ key. omega (arith, number_elsewhere c name.Nonce edit.DrawNonce key (λ h. cc h));
}

doc_name : (a b : Key) → a ≢ b → name.Doc a ≢ name.Doc b
doc_name a b apart same = apart (cc same)

-- an edit of a document uses what it uses at its key
at_key : (c : Content) (key : Key) (e : Edit) (n : ℕ) → number_at (edited c (name.Doc key) e) key ≤ number_at c key + n → Uses c (edited c (name.Doc key) e) 0 n 0 0
at_key c key e n here = record {
  counter = omega (arith, counter_elsewhere c (name.Doc key) e (λ h. cc h));
  numbers = λ other. ⊎_elim
      (λ same. subst (λ (k : Key). number_at (edited c (name.Doc key) e) k + 0 ≤ number_at c k + n) (sym same) (omega (arith, here)))
      (λ apart. omega (arith, number_elsewhere c (name.Doc key) e other (doc_name other key apart)))
      (same_key_or_not other key);
}

pub uses_add : (c : Content) (key : Key) (z : Token) → Uses c (edited c (name.Doc key) (edit.AddToken z)) 0 0 0 0
uses_add c key z = at_key c key (edit.AddToken z) 0 (⊎_elim
    (λ hits. omega (arith, ap size_of (add_hit c key z hits).now, ap size_of (add_hit c key z hits).there))
    (λ misses. omega (arith, ap (λ (d : Content). number_at d key) (miss_leaves c (name.Doc key) (edit.AddToken z) misses)))
    (hits_or_not (is_some (hit (edit.AddToken z) (name.Doc key) (get c (name.Doc key))))))

one_more : (revno : ℤ) → unsigned_abs (revno +ℤ pos 1) ≤ unsigned_abs revno + 1
one_more (pos n) = omega arith
one_more (negsuc zero) = omega arith
one_more (negsuc (suc n)) = by (unsigned_abs (negsuc (suc n) +ℤ pos 1)) (ap unsigned_abs (+ℤ_one (negsuc (suc n))))
  where
    by : (m : ℕ) → m ≡ suc n → m ≤ suc (suc n) + 1
    by m e = omega (arith, e)

pub uses_update : (c : Content) (key : Key) (revno : ℤ) (z : Token) (update : Value) → Uses c (edited c (name.Doc key) (edit.Update revno z update)) 0 1 0 0
uses_update c key revno z update = at_key c key (edit.Update revno z update) 1 (⊎_elim
    (λ hits. let u = update_hit c key revno z update hits in omega (arith, ap size_of u.now, ap size_of u.there, one_more u.doc.revno))
    (λ misses. omega (arith, ap (λ (d : Content). number_at d key) (miss_leaves c (name.Doc key) (edit.Update revno z update) misses)))
    (hits_or_not (is_some (hit (edit.Update revno z update) (name.Doc key) (get c (name.Doc key))))))

-- a decision uses nothing, whatever is left to do after it
pub uses_up_to : (c x : Content) (next : Stage) → steps_left next < 3 → Uses c x 0 0 0 0 → Uses c x 0 1 (nonces_left next) (numbers_left next)
uses_up_to c x stage.Draw near u = absurd (grind (arith, near))
uses_up_to c x (stage.Queue n) near u = absurd (grind (arith, near))
uses_up_to c x (stage.Prepare n) near u = absurd (grind (arith, near))
uses_up_to c x (stage.Look n) near u = absurd (grind (arith, near))
uses_up_to c x (stage.Decide n r h) near u = absurd (grind (arith, near))
uses_up_to c x (stage.Update n r) near u = uses_within u (omega arith) (omega arith)
uses_up_to c x stage.Finish near u = uses_within u (omega arith) (omega arith)
uses_up_to c x stage.Abort near u = uses_within u (omega arith) (omega arith)
uses_up_to c x (stage.Settled outcome.Applied) near u = uses_within u (omega arith) (omega arith)
uses_up_to c x (stage.Settled outcome.Aborted) near u = uses_within u (omega arith) (omega arith)
