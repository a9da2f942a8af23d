use Rattle.std.proofs.Common.{◌≡◌, ◌+◌, ◌<◌, ◌≤◌, ◌&&◌, ℕ, true, false, cond, Some, None, refl, sym, ◌∙◌, ltb, arith}
use Rattle.std.proofs.lemmas.Bool.{ltb-true, ltb-false, lt-ltb, le-ltb}
use Rattle.std.proofs.lemmas.Option.{none-some}
use Rattle.txn_io.specs.Lines.{limit_passed}
use Rattle.txn_io.specs.declared.lines.LineFault.{LineFault}
use Rattle.txn_io.specs.declared.lines.LineFault.TheVariants.{ReadFault, TooLong, ScriptTooLong, OutOfMemory}

-- a line within its limits is within the script's
pub within_script : (taken size cost : ℕ) → limit_passed taken size cost ≡ None → taken + cost ≤ 268435456
within_script taken size cost within =
    elim (ltb 16777216 size && ltb taken 251658241)
    as (λ b. cond b (Some TooLong) (cond (ltb 268435456 (taken + cost)) (Some ScriptTooLong) None) ≡ None → taken + cost ≤ 268435456) [
      | true ↦ λ e. absurd (none-some _ (sym e))
      | false ↦ λ e. elim (ltb 268435456 (taken + cost))
          as (λ b. ltb 268435456 (taken + cost) ≡ b → cond b (Some ScriptTooLong) None ≡ None → taken + cost ≤ 268435456) [
            | true ↦ λ _ e. absurd (none-some _ (sym e))
            | false ↦ λ same _. ltb-false _ _ same
          ] refl e
    ] within

-- a line of no bytes is refused nowhere in a script
pub within_start : (taken : ℕ) → taken ≤ 268435456 → limit_passed taken 0 0 ≡ None
within_start taken low =
    let script : ltb 268435456 (taken + 0) ≡ false = le-ltb _ _ (omega (arith, low)) in
    rw script refl

line_passed : (taken size cost : ℕ) → 16777216 < size → taken < 251658241 → limit_passed taken size cost ≡ Some TooLong
line_passed taken size cost long early = rw (lt-ltb _ _ long, lt-ltb _ _ early) refl

script_passed : (taken size cost : ℕ) → 251658241 ≤ taken → 268435456 < taken + cost → limit_passed taken size cost ≡ Some ScriptTooLong
script_passed taken size cost late over =
    rw (le-ltb _ _ late, lt-ltb _ _ over)
    (elim (ltb 16777216 size) as (λ b. cond (b && false) (Some TooLong) (Some ScriptTooLong) ≡ Some ScriptTooLong) [ true ↦ refl | false ↦ refl ])

passed_late : (taken known size cost : ℕ) (fault : LineFault) → 251658241 ≤ taken → known ≤ size → size ≤ cost → cond (ltb 268435456 (taken + known)) (Some ScriptTooLong) None ≡ Some fault → limit_passed taken size cost ≡ Some fault
passed_late taken known size cost fault late more whole =
    elim (ltb 268435456 (taken + known))
    as (λ b. ltb 268435456 (taken + known) ≡ b → cond b (Some ScriptTooLong) None ≡ Some fault → limit_passed taken size cost ≡ Some fault) [
      | true ↦ λ over e. script_passed taken size cost late (omega (arith, ltb-true _ _ over, more, whole)) ∙ e
      | false ↦ λ _ e. absurd (none-some _ e)
    ] refl

passed_short : (taken known size cost : ℕ) (fault : LineFault) → known ≤ 16777216 → known ≤ size → size ≤ cost → cond (ltb 268435456 (taken + known)) (Some ScriptTooLong) None ≡ Some fault → limit_passed taken size cost ≡ Some fault
passed_short taken known size cost fault short more whole =
    elim (ltb 268435456 (taken + known))
    as (λ b. ltb 268435456 (taken + known) ≡ b → cond b (Some ScriptTooLong) None ≡ Some fault → limit_passed taken size cost ≡ Some fault) [
      | true ↦ λ over e. script_passed taken size cost (omega (arith, ltb-true _ _ over, short)) (omega (arith, ltb-true _ _ over, more, whole)) ∙ e
      | false ↦ λ _ e. absurd (none-some _ e)
    ] refl

-- a line that passes a limit already passes the same, however it goes on
pub passed_more : (taken known size cost : ℕ) (fault : LineFault) → limit_passed taken known known ≡ Some fault → known ≤ size → size ≤ cost → limit_passed taken size cost ≡ Some fault
passed_more taken known size cost fault passed more whole =
    elim (ltb 16777216 known)
    as (λ b. ltb 16777216 known ≡ b → cond (b && ltb taken 251658241) (Some TooLong) (cond (ltb 268435456 (taken + known)) (Some ScriptTooLong) None) ≡ Some fault → limit_passed taken size cost ≡ Some fault) [
      | true ↦ λ long. elim (ltb taken 251658241)
          as (λ b. ltb taken 251658241 ≡ b → cond b (Some TooLong) (cond (ltb 268435456 (taken + known)) (Some ScriptTooLong) None) ≡ Some fault → limit_passed taken size cost ≡ Some fault) [
            | true ↦ λ early e. line_passed taken size cost (omega (arith, ltb-true _ _ long, more)) (ltb-true _ _ early) ∙ e
            | false ↦ λ late e. passed_late taken known size cost fault (ltb-false _ _ late) more whole e
          ] refl
      | false ↦ λ short e. passed_short taken known size cost fault (ltb-false _ _ short) more whole e
    ] refl passed

-- a limit is no fault of the source, and no want of memory
pub is_limit : (taken size cost : ℕ) (fault : LineFault) → limit_passed taken size cost ≡ Some fault → (fault ≡ ReadFault → ⊥) × (fault ≡ OutOfMemory → ⊥)
is_limit taken size cost fault passed =
    elim (ltb 16777216 size && ltb taken 251658241)
    as (λ b. cond b (Some TooLong) (cond (ltb 268435456 (taken + cost)) (Some ScriptTooLong) None) ≡ Some fault → (fault ≡ ReadFault → ⊥) × (fault ≡ OutOfMemory → ⊥)) [
      | true ↦ λ e. (λ other. cc, λ other. cc)
      | false ↦ elim (ltb 268435456 (taken + cost)) as (λ b. cond b (Some ScriptTooLong) None ≡ Some fault → (fault ≡ ReadFault → ⊥) × (fault ≡ OutOfMemory → ⊥)) [
        | true ↦ λ e. (λ other. cc, λ other. cc)
        | false ↦ λ e. (λ other. cc, λ other. cc)
      ]
    ] passed
