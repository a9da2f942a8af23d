-- An operation whose turn it is: its key's owner has come to its number.
use Rattle.std.proofs.Common.{◌≡◌, ◌<◌, ◌≤◌, le_refl, le_trans, Bool, true, false, List, [], ◌∷◌, inl, inr, sym, ap, ◌∙◌, refl, subst, unsigned_abs, ℤ, arith}
use Rattle.std.proofs.lemmas.Bool.{and_parts}
use Rattle.std.proofs.lemmas.Option.{same_Some}
use Rattle.txn_key.specs.Keys.{same_key}
use Rattle.txn_key.specs.declared.id.TxnId.{TxnId}
use Rattle.txn_key.specs.declared.key.Key.{Key}
use Rattle.txn_record.specs.Revnos.{follows, has_effect, number_after}
use Rattle.txn_record.specs.declared.op.Op.{Op}
use Rattle.txn_record.specs.declared.record.Record.{Record}
use Rattle.store_trait.specs.Contents.{Content}
use Rattle.store_laws.specs.Chains.{AppliesAt}
use Rattle.store_laws.specs.Done.{HasPassed, IsTurn}
use Rattle.store_laws.specs.Soundness.{IsSound}
use Rattle.store_laws.specs.View.{View, look, held_number, epoch_at}
use Rattle.store_laws.proofs.chains.Applying
use Rattle.store_laws.proofs.chains.Done.{passed_above}
use Rattle.store_laws.proofs.chains.Inherits.{First, head_has, tail_here, tail_away, chain_has}
use Rattle.store_laws.proofs.chains.NumberAfter.{after_above, after_effect, after_none}
use Rattle.store_laws.proofs.meanings.Runs.{same_key-equal}

module _ (view : View) (op : Op) (revno : ℤ) where
  abbrev Reached : ℤ → Type 0
  Reached m = unsigned_abs m ≤ epoch_at view op.key

  -- an operation that has passed leaves a number that is reached
  leaves_reached : (o : Op) (x : ℤ) → o.key ≡ op.key → Reached x → HasPassed view o x → Reached (number_after o.change x)
  leaves_reached o x same reached passed = by (has_effect o.change x) refl
    where
      by : (b : Bool) → has_effect o.change x ≡ b → Reached (number_after o.change x)
      by false idle = subst Reached (sym (after_none o.change x idle)) reached
      by true acts =
          let above = subst (λ (k : Key). unsigned_abs x < epoch_at view k) same (passed_above view o x passed acts) in
          omega (arith, above, after_effect o.change x acts)

  turn_reached : (ops : List Op) (revnos : List ℤ) → follows ops revnos ≡ true → First op.key Reached ops revnos → IsTurn view op revno ops revnos → Reached revno
  turn_reached [] revnos chain first turn = absurd turn
  turn_reached (o ∷ ops) [] chain first turn = absurd turn
  turn_reached (o ∷ ops) (x ∷ revnos) chain first (inl here) =
      subst Reached here.1 (head_has op.key Reached o ops x revnos (sym (ap (λ (p : Op). p.key) here.0)) first)
  turn_reached (o ∷ ops) (x ∷ revnos) chain first (inr later) =
      turn_reached ops revnos (and_parts _ (follows ops revnos) chain).1 (by (same_key op.key o.key) refl) later.1
    where
      by : (b : Bool) → same_key op.key o.key ≡ b → First op.key Reached ops revnos
      by false e = tail_away op.key Reached o ops x revnos e first
      by true e =
          let same = same_key-equal op.key o.key e in
          tail_here op.key Reached o ops x revnos chain same (leaves_reached o x (sym same) (head_has op.key Reached o ops x revnos same first) later.0)

-- the owner stands on the chain, so it is no less than the first number there
pub reached_in_turn : (c : Content) (id : TxnId) (rec : Record) (op : Op) (revno : ℤ) (a : AppliesAt c id rec op revno) → IsSound c → IsTurn (look c) op revno rec.ops a.numbers → unsigned_abs revno ≤ epoch_at (look c) op.key
reached_in_turn c id rec op revno a s turn = turn_reached (look c) op revno rec.ops a.numbers in_turn first turn
  where
    in_turn : follows rec.ops a.numbers ≡ true
    in_turn = Applying.in_turn c s id rec op revno a

    first : First op.key (λ m. unsigned_abs m ≤ epoch_at (look c) op.key) rec.ops a.numbers
    first number found =
        chain_has op.key (λ m. unsigned_abs number ≤ unsigned_abs m) (λ ch m le. le_trans le (after_above ch m)) (held_number ((look c).held_at op.key)) rec.ops a.numbers in_turn
        (λ other q. subst (λ (n : ℤ). unsigned_abs number ≤ unsigned_abs n) (same_Some number other (sym found ∙ q)) (le_refl _)) (Applying.owner_on_chain c s id rec op revno a)
