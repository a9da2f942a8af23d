use Rattle.std.proofs.Common.{◌≡◌, ℕ, ◌+◌, ◌≤◌, ◌<◌, min, Bool, true, false, cond, nat_le, nat_lt, List, [], Result, Ok, Err, OnOk, OnErr, IfOk, IsErrOf, IsTrue, is_some, ◌||◌, ◌⊎◌, inl, inr, refl, sym, ap, ◌∙◌, subst, true≢false, arith}
use Rattle.std.proofs.lemmas.Bool.Decides.{nat_tests}
use Rattle.std.specs.FinMap.{get}
use Rattle.store_trait.specs.Contents.{Content}
use Rattle.store_trait.specs.Edits.{Hit, hit as hit_of}
use Rattle.store_trait.specs.Calls.{Extends, IsCounted, IsMade, IsOfKind, Rose, call_limit, counted_call}
use Rattle.store_trait.specs.declared.edit.Edit.{Edit}
use Rattle.store_trait.specs.declared.edit.Edited.{Edited}
use Rattle.store_trait.specs.declared.name.Name.{Name}
use Rattle.store_trait.specs.declared.store.StoreError.{StoreError}
use Rattle.store_trait.specs.declared.store.StoreError.TheVariants.{Failed, OutOfMemory}
use Rattle.store_memory.specs.Told.{Told, IsWithinCounts, trail_of, content_of, calls_of, faults_of, fault_limit, fails_next, failed, logged, noted, called, changes_at, changes_of}
use Rattle.store_memory.specs.CallsMade.{IsAnswer, IsCall}
use Rattle.store_memory.specs.declared.log.Logged.{Logged}
use Rattle.store_memory.proofs.Keeping.{told_of, counted_content}
use Rattle.store_memory.proofs.Trail.{AreAt, made_test, content_stays, content_same, content_after, logged_at, trail_stays}

not_less : (b : Bool) (calls : ℕ) → calls ≤ cond b calls (calls + 1)
not_less true calls = omega arith
not_less false calls = omega arith

below_by_test : (a b : ℕ) → nat_lt a b ≡ true → a < b
below_by_test a b e = grind (arith, nat_tests)

above_by_test : (a b : ℕ) → nat_lt a b ≡ false → b ≤ a
above_by_test a b e = grind (arith, nat_tests)

rises : (n limit : ℕ) → n < limit → n < min (n + 1) limit
rises n limit h = omega arith

stays : (n limit : ℕ) → limit ≤ n → min (n + 1) limit ≡ limit
stays n limit h = omega arith

-- a count of faults rises, up to its last value
risen : (faults : ℕ) → faults ≤ fault_limit → Rose faults (min (faults + 1) fault_limit)
risen faults few =
    elim (nat_lt faults fault_limit) as (λ b. nat_lt faults fault_limit ≡ b → Rose faults (min (faults + 1) fault_limit)) [
      | true ↦ λ e. inl (rises faults fault_limit (below_by_test faults fault_limit e))
      | false ↦ λ e. inr (stays faults fault_limit (above_by_test faults fault_limit e))
    ] refl

-- a call that fails, or is refused for memory, leaves the content
failed_same : (old new : Told) → (new ≡ failed old) → IsWithinCounts old → content_of new ≡ content_of old
failed_same old new is counted = ap content_of is ∙ content_stays old (failed old).calls counted.made (not_less (nat_le call_limit old.calls) old.calls)

module _ {A : Type 0} (old new : Told) (changes : List Logged) (now : AreAt (old.calls + 1) changes) where
  content_err : (result : Result A StoreError) → IsCall old new changes result → OnErr result (content_of new ≡ content_of old)
  content_err (Ok answer) call = tt
  content_err (Err Failed) call = failed_same old new (call.failure refl) call.counted
  content_err (Err OutOfMemory) call = ap content_of (call.memory refl) ∙ content_same old call.counted.made

  before : (result : Result A StoreError) → IsCall old new changes result → (n : ℕ) → n ≤ old.calls → trail_of new n ≡ trail_of old n
  before (Ok answer) call n le = ap (λ (t : Told). trail_of t n) call.success ∙ trail_stays old changes now n le
  before (Err Failed) call n le = ap (λ (t : Told). trail_of t n) (call.failure refl)
  before (Err OutOfMemory) call n le = ap (λ (t : Told). trail_of t n) (call.memory refl) ∙ trail_stays old [] tt n le

  -- the trail goes on, whatever a call answers
  pub extends : (result : Result A StoreError) → IsCall old new changes result → Extends content_of trail_of calls_of old new
  extends result call = record { before = before result call; here = refl }

counts : (spent chosen : Bool) (calls : ℕ) → (IsTrue (spent || chosen) → ⊥) → cond spent calls (calls + 1) ≡ calls + 1
counts true chosen calls h = absurd (h refl)
counts false chosen calls h = refl

reached : (calls : ℕ) (chosen : Bool) → call_limit ≤ calls → IsTrue (nat_le call_limit calls || chosen)
reached calls chosen le = ap (λ (b : Bool). b || chosen) (made_test call_limit calls le)

-- each call is counted, up to the last
module _ {A : Type 0} (old new : Told) (changes : List Logged) where
  counted : (result : Result A StoreError) → IsCall old new changes result → OnOk result (calls_of new ≡ calls_of old + 1)
  counted (Ok answer) call = ap calls_of call.success
  counted (Err error) call = tt

  later : (result : Result A StoreError) → IsCall old new changes result → faults_of old ≤ faults_of new
  later (Ok answer) call = omega (arith, ap faults_of call.success)
  later (Err Failed) call = omega (arith, ap faults_of (call.failure refl), call.counted.faults)
  later (Err OutOfMemory) call = omega (arith, ap faults_of (call.memory refl))

  rose : (result : Result A StoreError) → IsCall old new changes result → IsErrOf result Failed → Rose (faults_of old) (faults_of new)
  rose result call fails =
      let faults = ap faults_of (call.failure fails) in
      subst (λ (n : ℕ). Rose (faults_of old) n) (sym faults) (risen old.faults call.counted.faults)

  still : (result : Result A StoreError) → IsCall old new changes result → IsErrOf result Failed ⊎ (faults_of new ≡ faults_of old)
  still (Ok answer) call = inr (ap faults_of call.success)
  still (Err Failed) call = inl refl
  still (Err OutOfMemory) call = inr (ap faults_of (call.memory refl))

  counted_once : (result : Result A StoreError) → IsCall old new changes result → (IsErrOf result Failed → ⊥) → old.calls + 1 ≡ counted_call old.calls
  counted_once result call other = sym (counts (nat_le call_limit old.calls) _ old.calls (λ fails. other (call.fails.1 fails)))

  call_counted : (result : Result A StoreError) → IsCall old new changes result → calls_of new ≡ counted_call (calls_of old)
  call_counted (Ok answer) call = ap calls_of call.success ∙ counted_once (Ok answer) call (λ h. cc h)
  call_counted (Err Failed) call = ap calls_of (call.failure refl)
  call_counted (Err OutOfMemory) call = ap calls_of (call.memory refl) ∙ counted_once (Err OutOfMemory) call (λ h. cc h)

  pub counts_on : (result : Result A StoreError) → IsCall old new changes result → IsCounted calls_of faults_of old new result
  counts_on result call = record {
    once = call_counted result call;
    made = counted result call;
    later = later result call;
    fault = rose result call;
    still = still result call;
    spent = λ le. call.fails.1 (reached old.calls _ le);
  }

-- a call that edits
module _ (old new : Told) (name : Name) (edit : Edit) where
  abbrev hit : Hit
  hit = hit_of edit name (get (content_of old) name)

  pub edit_extends : {A : Type 0} (result : Result A StoreError) → IsCall old new (changes_of old name edit) result → Extends content_of trail_of calls_of old new
  edit_extends result call = extends old new _ (logged_at (old.calls + 1) name edit hit (get (content_of old) name)) result call

  -- an edit that is answered was made
  pub edit_made : (result : Result Edited StoreError) → IfOk result (IsAnswer (is_some hit) name new) → IsCall old new (changes_of old name edit) result → IfOk result (IsMade (content_of old) name edit (content_of new))
  edit_made (Ok done) answer call = record {
    made = ap content_of call.success ∙ content_after old name edit hit call.counted.made refl;
    hit = answer.hit_is;
    cell = answer.cell;
  }
  edit_made (Err error) answer call = tt

  pub answer_kind : (result : Result Edited StoreError) → IfOk result (IsAnswer (is_some hit) name new) → IfOk result (λ done. IsOfKind name done.cell)
  answer_kind (Ok done) answer = answer.kind
  answer_kind (Err error) answer = tt

  -- and one that is refused leaves the content
  pub edit_failed : {A : Type 0} (result : Result A StoreError) → IsCall old new (changes_of old name edit) result → IsErrOf result Failed → content_of new ≡ content_of old
  edit_failed result call fails = failed_same old new (call.failure fails) call.counted

  pub edit_refused : {A : Type 0} (result : Result A StoreError) → IsCall old new (changes_of old name edit) result → IsErrOf result OutOfMemory → content_of new ≡ content_of old
  edit_refused result call fails = ap content_of (call.memory fails) ∙ content_same old call.counted.made

-- an edit that was noted after its call was counted
pub edit_called : {A : Type 0} (log : List Logged) (fails : List ℕ) (calls faults : ℕ) (old new : Told) (name : Name) (edit : Edit) (answer : A)
    → told_of log fails calls faults ≡ old → fails_next old ≡ false → IsWithinCounts (told_of log fails calls faults)
    → new ≡ noted (told_of log fails (calls + 1) faults) (changes_at (calls + 1) (told_of log fails (calls + 1) faults) name edit)
    → IsCall old new (changes_of old name edit) (Ok answer)
edit_called log fails calls faults old new name edit answer is runs made told = record {
  fails = (λ fails. absurd (cc fails), λ fails. absurd (true≢false (sym fails ∙ runs)));
  failure = λ fails. absurd (cc fails);
  memory = λ fails. absurd (cc fails);
  success = told ∙ ap (λ (c : Content). noted (told_of log fails (calls + 1) faults) (logged (calls + 1) name edit (hit_of edit name (get c name)) (get c name))) (counted_content log fails calls faults old is made) ∙ ap (λ (t : Told). called t (changes_at (t.calls + 1) old name edit)) is;
  counted = subst IsWithinCounts is made;
}

-- a call that only reads
module _ {A : Type 0} (old new : Told) where
  pub reads_extend : (result : Result A StoreError) → IsCall old new [] result → Extends content_of trail_of calls_of old new
  reads_extend result call = extends old new [] tt result call

  pub reads_same : (result : Result A StoreError) → IsCall old new [] result → content_of new ≡ content_of old
  reads_same (Ok answer) call = ap content_of call.success ∙ content_same old call.counted.made
  reads_same (Err error) call = content_err old new [] tt (Err error) call

-- an answer to an edit that hits exactly where this one does
pub answers_so : (found other : Bool) (name : Name) (new : Told) (done : Edited) → IsAnswer found name new done → found ≡ other → IsAnswer other name new done
answers_so found other name new done answer same = record { hit_is = answer.hit_is ∙ same; cell = answer.cell; kind = answer.kind }
