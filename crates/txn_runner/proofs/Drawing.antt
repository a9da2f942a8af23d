-- A nonce is drawn.
use Rattle.std.proofs.Common.{◌≡◌, ◌<◌, ◌≤◌, ◌+◌, ◌-◌, ℕ, Bool, true, false, cond, Option, Some, None, is_some, Result, Ok, Err, IfOk, IfErr, refl, sym, ap, ◌∙◌, subst, unwrap_or, arith, nat_le, nat_lt}
use Rattle.std.specs.FinMap.{get}
use Rattle.std.specs.Option.{option_and_then}
use Rattle.std.proofs.lemmas.Bool.Decides.{nat_tests}
use Rattle.txn_key.specs.declared.id.TxnId.{TxnId}
use Rattle.store_trait.specs.Cells.{as_counter}
use Rattle.store_trait.specs.Contents.{Content}
use Rattle.store_trait.specs.Edits.{hit, edited, hit_draw_nonce, nonce_limit, puts}
use Rattle.store_laws.specs.Soundness.{IsSound}
use Rattle.store_laws.specs.Steps.{IsQuiet}
use Rattle.store_laws.specs.View.{counter}
use Rattle.store_trait.specs.declared.cell.Cell.{Cell}
use Rattle.store_trait.specs.declared.cell.Cell.TheVariants as cell
use Rattle.store_trait.specs.declared.edit.Edit.TheVariants as edit
use Rattle.store_trait.specs.declared.name.Name.TheVariants as name
use Rattle.store_laws.proofs.cells.AfterEdits.{record_elsewhere, nonce_edit_queues}
use Rattle.store_laws.proofs.views.AmongSettled.{alone_same}
use Rattle.store_laws.proofs.steps.DocEdits.{draw_quiet}
use Rattle.store_laws.proofs.cells.Local.{edited_there}
use Rattle.store_laws.proofs.steps.PlainEdits.{plain_nonce}
use Rattle.txn_runner.proofs.Beside.{nonce_others, docs_stay}
use Rattle.txn_runner.specs.Causes.{drawn_of}
use Rattle.txn_runner.specs.Settling.{IsWorth, MayStop}
use Rattle.txn_runner.specs.declared.error.StepError.{StepError}
use Rattle.txn_runner.specs.declared.error.StepError.TheVariants as step
use Rattle.txn_runner.specs.declared.stage.Stage.TheVariants as stage
use Rattle.txn_runner.specs.declared.waiting.Waiting.{Waiting}

record Draws (d : Content) (r : Result ℕ StepError) : Type 0 where
  below : IfOk r (λ nonce. nonce < counter d)
  cause : IfErr r (MayStop d)

drawn_hit : (d : Content) (id : TxnId) (m : ℕ) → counter d ≡ m → 0 < m → (t : Bool) → nat_lt 0 m ≡ t → Draws d (cond t (Ok (m - 1)) (Err (step.Clash id name.Nonce)))
drawn_hit d id m now more true e = record { below = omega (arith, now, more); cause = tt }
drawn_hit d id m now more false e = absurd (grind (arith, nat_tests))

drawn_miss : (d : Content) (id : TxnId) (m : ℕ) → counter d ≡ m → nonce_limit ≤ m → (t : Bool) → nat_le nonce_limit m ≡ t → Draws d (cond t (Err step.NoncesSpent) (Err (step.Clash id name.Nonce)))
drawn_miss d id m now last true e = record { below = tt; cause = subst (λ (n : ℕ). nonce_limit ≤ n) (sym now) last }
drawn_miss d id m now last false e = absurd (grind (arith, nat_tests))

counter_is : (d : Content) (m : ℕ) → get d name.Nonce ≡ Some (cell.Nonce m) → counter d ≡ m
unfolding counter
counter_is d m e = ap (λ (o : Option Cell). unwrap_or (option_and_then as_counter o) 0) e

module _ (c : Content) (id : TxnId) (s : IsSound c) where
  drawn : Content
  drawn = edited c name.Nonce edit.DrawNonce

  Told : Bool → Option Cell → Type 0
  Told hits after = Draws (edited c name.Nonce edit.DrawNonce) (drawn_of id hits (option_and_then as_counter after))

  after_draw : (found : Option Cell) → get c name.Nonce ≡ found → get (edited c name.Nonce edit.DrawNonce) name.Nonce ≡ unwrap_or (hit_draw_nonce name.Nonce found) found
  after_draw found e = edited_there c name.Nonce edit.DrawNonce ∙ ap (λ (o : Option Cell). unwrap_or (hit_draw_nonce name.Nonce o) o) e

  draws_at : (found : Option Cell) → get c name.Nonce ≡ found → Told (is_some (hit_draw_nonce name.Nonce found)) (get (edited c name.Nonce edit.DrawNonce) name.Nonce)
  unfolding Told
  draws_at None e =
      let now = after_draw None e in
      subst (Told true) (sym now) (drawn_hit (edited c name.Nonce edit.DrawNonce) id 1 (counter_is _ 1 now) (omega arith) true refl)
  draws_at (Some (cell.Record rec)) e = absurd (cc (s.kinds name.Nonce (cell.Record rec) e))
  draws_at (Some (cell.Doc doc)) e = absurd (cc (s.kinds name.Nonce (cell.Doc doc) e))
  draws_at (Some (cell.Stash stash)) e = absurd (cc (s.kinds name.Nonce (cell.Stash stash) e))
  draws_at (Some (cell.Nonce n)) e = by (nat_lt n nonce_limit) refl (after_draw (Some (cell.Nonce n)) e)
    where
      by : (t : Bool) → nat_lt n nonce_limit ≡ t → get (edited c name.Nonce edit.DrawNonce) name.Nonce ≡ unwrap_or (cond t (puts (cell.Nonce (n + 1))) None) (Some (cell.Nonce n))
          → Told (is_some (cond t (puts (cell.Nonce (n + 1))) None)) (get (edited c name.Nonce edit.DrawNonce) name.Nonce)
      by true below now = subst (Told true) (sym now) (drawn_hit (edited c name.Nonce edit.DrawNonce) id (n + 1) (counter_is _ (n + 1) now) (omega arith) (nat_lt 0 (n + 1)) refl)
      by false last now = subst (Told false) (sym now) (drawn_miss (edited c name.Nonce edit.DrawNonce) id n (counter_is _ n now) (grind (arith, nat_tests)) (nat_le nonce_limit n) refl)

pub draw_quietly : (c : Content) (txn : Waiting) → IsWorth c txn stage.Draw → IsQuiet c (edited c name.Nonce edit.DrawNonce)
draw_quietly c txn w = draw_quiet c w.sound

drawn_worth : (c : Content) (txn : Waiting) → IsWorth c txn stage.Draw → (nonce : ℕ) → nonce < counter (edited c name.Nonce edit.DrawNonce) → IsWorth (edited c name.Nonce edit.DrawNonce) txn (stage.Queue nonce)
drawn_worth c txn w nonce below =
    let quiet = draw_quiet c w.sound in
    record {
      sound = quiet.step.sound;
      plain = plain_nonce c edit.DrawNonce w.plain;
      alone = alone_same txn.id quiet.step.later.back (nonce_edit_queues c edit.DrawNonce) w.alone;
      docs = docs_stay c (edited c name.Nonce edit.DrawNonce) txn (nonce_others c txn.id edit.DrawNonce).docs w.docs;
      stage = (record_elsewhere c name.Nonce edit.DrawNonce txn.id (λ h. cc h) ∙ w.stage, below);
    }

-- what a draw answers is a nonce below the counter, or why there is none
pub draw_ok : (c : Content) (txn : Waiting) → IsWorth c txn stage.Draw → (hits : Bool) (after : Option Cell) (nonce : ℕ)
    → hits ≡ is_some (hit edit.DrawNonce name.Nonce (get c name.Nonce)) → after ≡ get (edited c name.Nonce edit.DrawNonce) name.Nonce
    → drawn_of txn.id hits (option_and_then as_counter after) ≡ Ok nonce → IsWorth (edited c name.Nonce edit.DrawNonce) txn (stage.Queue nonce)
unfolding Told
draw_ok c txn w hits after nonce told now e =
    let draws = draws_at c txn.id w.sound (get c name.Nonce) refl in
    let same = (λ i. drawn_of txn.id (sym told i) (option_and_then as_counter (sym now i))) ∙ e in
    drawn_worth c txn w nonce (subst (λ (r : Result ℕ StepError). IfOk r (λ n. n < counter (edited c name.Nonce edit.DrawNonce))) same draws.below)

pub draw_err : (c : Content) (txn : Waiting) → IsWorth c txn stage.Draw → (hits : Bool) (after : Option Cell) (error : StepError)
    → hits ≡ is_some (hit edit.DrawNonce name.Nonce (get c name.Nonce)) → after ≡ get (edited c name.Nonce edit.DrawNonce) name.Nonce
    → drawn_of txn.id hits (option_and_then as_counter after) ≡ Err error → MayStop (edited c name.Nonce edit.DrawNonce) error
unfolding Told
draw_err c txn w hits after error told now e =
    let draws = draws_at c txn.id w.sound (get c name.Nonce) refl in
    let same = (λ i. drawn_of txn.id (sym told i) (option_and_then as_counter (sym now i))) ∙ e in
    subst (λ (r : Result ℕ StepError). IfErr r (MayStop (edited c name.Nonce edit.DrawNonce))) same draws.cause
