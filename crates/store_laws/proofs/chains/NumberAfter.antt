-- What a change makes of a number, and of a body that is there just where the number says so.
use Rattle.std.proofs.Common.{◌≡◌, ℕ, zero, suc, ◌+◌, ◌≤◌, le_refl, Bool, true, false, not, Option, Some, None, is_some, ◌⊎◌, inl, inr, sym, ap, ◌∙◌, refl, subst, unsigned_abs, ℤ, ◌+ℤ◌, pos, negsuc, if◌then◌else◌, arith, true≢false}
use Rattle.std.proofs.lemmas.Bool.Decides.{nat_tests}
use Rattle.doc_value.specs.declared.value.Value.{Value}
use Rattle.txn_record.specs.Effects.{body_after, change_fits}
use Rattle.txn_record.specs.Revnos.{is_present, has_effect, next_number, number_after}
use Rattle.txn_record.specs.declared.op.Change.{Change}
use Rattle.txn_record.specs.declared.op.Change.TheVariants as change

-- Numbers.

next_epoch : (ch : Change) (n : ℤ) → has_effect ch n ≡ true → unsigned_abs (next_number ch n) ≡ unsigned_abs n + 1
next_epoch change.Nothing n e = absurd (true≢false (sym e))
next_epoch (change.Insert body) (pos k) e = absurd (grind (arith, nat_tests))
next_epoch (change.Insert body) (negsuc k) e = omega arith
next_epoch (change.Update update) (pos k) e = omega arith
next_epoch (change.Update update) (negsuc k) e = absurd (true≢false (sym e))
next_epoch change.Remove (pos zero) e = refl
next_epoch change.Remove (pos (suc k)) e = omega arith
next_epoch change.Remove (negsuc k) e = absurd (true≢false (sym e))

-- an effect makes the absolute value greater by one
pub after_effect : (ch : Change) (n : ℤ) → has_effect ch n ≡ true → unsigned_abs (number_after ch n) ≡ unsigned_abs n + 1
after_effect ch n e = ap (λ (b : Bool). unsigned_abs (if b then next_number ch n else n)) e ∙ next_epoch ch n e

-- without one the number stays
pub after_none : (ch : Change) (n : ℤ) → has_effect ch n ≡ false → number_after ch n ≡ n
after_none ch n e = ap (λ (b : Bool). if b then next_number ch n else n) e

pub after_rises : (ch : Change) (n : ℤ) → (number_after ch n ≡ n) ⊎ (unsigned_abs (number_after ch n) ≡ unsigned_abs n + 1)
after_rises ch n = by (has_effect ch n) refl
  where
    by : (b : Bool) → has_effect ch n ≡ b → (number_after ch n ≡ n) ⊎ (unsigned_abs (number_after ch n) ≡ unsigned_abs n + 1)
    by true e = inr (after_effect ch n e)
    by false e = inl (after_none ch n e)

-- a change leaves no lower number
pub after_above : (ch : Change) (n : ℤ) → unsigned_abs n ≤ unsigned_abs (number_after ch n)
after_above ch n = by (after_rises ch n)
  where
    by : (number_after ch n ≡ n) ⊎ (unsigned_abs (number_after ch n) ≡ unsigned_abs n + 1) → unsigned_abs n ≤ unsigned_abs (number_after ch n)
    by (inl e) = subst (λ (m : ℤ). unsigned_abs n ≤ unsigned_abs m) (sym e) (le_refl _)
    by (inr e) = subst (λ (m : ℕ). unsigned_abs n ≤ m) (sym e) (omega arith)

-- an update counts on from a number that says that its document is there
pub update_acts : (ch : Change) (update : Value) (n : ℤ) → ch ≡ change.Update update → is_present n ≡ true → has_effect ch n ≡ true
update_acts ch update n e present = ap (λ (ch : Change). has_effect ch n) e ∙ present

pub update_leads : (ch : Change) (update : Value) (n : ℤ) → ch ≡ change.Update update → is_present n ≡ true → number_after ch n ≡ n +ℤ pos 1
update_leads ch update n e present = ap (λ (ch : Change). number_after ch n) e ∙ ap (λ (b : Bool). if b then n +ℤ pos 1 else n) present

-- Bodies.

-- where a change does nothing at the number, it leaves the body
pub idle_body : (ch : Change) (n : ℤ) (found : Option Value) → is_some found ≡ is_present n → has_effect ch n ≡ false → body_after ch found ≡ found
idle_body change.Nothing n found p e = refl
idle_body (change.Insert body) n None p e = absurd (true≢false (ap not p ∙ e))
idle_body (change.Insert body) n (Some found) p e = refl
idle_body (change.Update update) n None p e = refl
idle_body (change.Update update) n (Some found) p e = absurd (true≢false (p ∙ e))
idle_body change.Remove n None p e = refl
idle_body change.Remove n (Some found) p e = absurd (true≢false (p ∙ e))

-- and fits it
pub idle_fits : (ch : Change) (n : ℤ) (found : Option Value) → is_some found ≡ is_present n → has_effect ch n ≡ false → change_fits ch found ≡ true
idle_fits change.Nothing n found p e = refl
idle_fits (change.Insert body) n found p e = refl
idle_fits (change.Update update) n None p e = refl
idle_fits (change.Update update) n (Some found) p e = absurd (true≢false (p ∙ e))
idle_fits change.Remove n found p e = refl
