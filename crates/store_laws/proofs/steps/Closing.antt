-- An applying record closes once its operations have passed.
use Rattle.std.proofs.Common.{◌≡◌, ℕ, ℤ, ◌<◌, ◌≤◌, ◌+◌, le_refl, le_trans, le_antisymm, lt_irrefl, lt_of_lt_of_le, Bool, true, false, Option, Some, None, List, [], ◌∷◌, ◌⊎◌, inl, inr, ⊎_elim, sym, ap, ◌∙◌, refl, subst, unsigned_abs, unwrap_or, true≢false, option_map, ◌&&◌, is_some, nat_le, arith, if◌then◌else◌}
use Rattle.std.proofs.lemmas.Bool.{and_parts}
use Rattle.std.proofs.lemmas.Option.{same_Some}
use Rattle.std.specs.Prelude.{option_to_list}
use Rattle.std.specs.FinMap.{get, insert}
use Rattle.txn_key.specs.Keys.{same_key}
use Rattle.txn_key.specs.declared.id.TxnId.{TxnId}
use Rattle.txn_key.specs.declared.key.Key.{Key}
use Rattle.txn_record.specs.Revnos.{is_present, has_effect, number_after, is_on_chain, follows, stays_within}
use Rattle.txn_record.specs.States.{was_decided_state}
use Rattle.txn_record.specs.declared.op.Change.{Change}
use Rattle.txn_record.specs.declared.op.Op.{Op}
use Rattle.txn_record.specs.declared.record.Record.{Record}
use Rattle.txn_record.specs.declared.state.State.TheVariants as state
use Rattle.store_trait.specs.Contents.{Content}
use Rattle.store_laws.specs.Done.{HasPassed, AllPassed}
use Rattle.store_trait.specs.Edits.{moved, edited}
use Rattle.store_laws.specs.Meaning.{pending_of, not_done}
use Rattle.store_trait.specs.Names.{same_state}
use Rattle.store_laws.specs.Soundness.{IsSound, agree, has_revnos}
use Rattle.store_laws.specs.Steps.{IsQuiet}
use Rattle.store_laws.specs.View.{View, look, record_at, applying, IsOn, held_number, epoch_at}
use Rattle.store_trait.specs.declared.cell.Cell.TheVariants as cell
use Rattle.store_trait.specs.declared.edit.Edit.TheVariants as edit
use Rattle.store_trait.specs.declared.name.Name.TheVariants as name
use Rattle.store_laws.proofs.meanings.Bodies.{body_in}
use Rattle.store_laws.proofs.meanings.Decided.{decided_by-put}
use Rattle.store_laws.proofs.chains.Done.{done_put, passed_above}
use Rattle.store_laws.proofs.meanings.Effects.{meaning-closed}
use Rattle.store_laws.proofs.views.Exclusive.{one_applying}
use Rattle.store_laws.proofs.meanings.Idle.{OnlyApplies, on_pending, pending_of-applying}
use Rattle.store_laws.proofs.steps.RecordEdits.{idle, settled_step, settled_already, stored_numbers}
use Rattle.store_laws.proofs.views.KindsOfMove.{close_step}
use Rattle.store_laws.proofs.cells.Looks.{record_looks}
use Rattle.store_laws.proofs.cells.Lookups
use Rattle.store_laws.proofs.cells.Marks.{MarksApart}
use Rattle.store_laws.proofs.cells.Misses.{quiet_itself, by_move}
use Rattle.store_laws.proofs.chains.ChainOrder.{same_on_chain}
use Rattle.store_laws.proofs.chains.Inherits.{First, head_has, tail_here, tail_away, at_on, at_found, chain_has}
use Rattle.store_laws.proofs.chains.NumberAfter.{after_above, after_none, after_rises, idle_body}
use Rattle.store_laws.proofs.meanings.Runs.{IsAmong, run_on, run_on-idle, same_key-equal}
use Rattle.store_laws.specs.Chains.{IsAt}
use Rattle.std.proofs.lemmas.Bool.Decides.{nat_tests}
use Rattle.store_laws.proofs.views.Orderly.{orderly}
use Rattle.store_laws.proofs.cells.Owning.{held_agrees}
use Rattle.store_laws.proofs.views.Views.{applying_at}
use Rattle.store_laws.proofs.cells.Parts.{parts}

-- What is still to be done is an operation at a number that its key's owner isn't past.

record Waiting (view : View) (op : Op) (ops : List Op) (revnos : List ℤ) : Type 0 where
  revno : ℤ
  at : IsAt op revno ops revnos
  reached : epoch_at view op.key ≤ unsigned_abs revno

test_le : (a b : ℕ) → nat_le a b ≡ true → a ≤ b
test_le a b e = grind (arith, nat_tests)

still_waits : (view : View) (op : Op) (ops : List Op) (revnos : List ℤ) → IsAmong op (not_done view ops revnos) → Waiting view op ops revnos
still_waits view op [] revnos among = absurd among
still_waits view op (o ∷ ops) [] among = absurd among
still_waits view op (o ∷ ops) (x ∷ revnos) among = by (nat_le (epoch_at view o.key) (unsigned_abs x)) refl among (still_waits view op ops revnos)
  where
    shift : Waiting view op ops revnos → Waiting view op (o ∷ ops) (x ∷ revnos)
    shift w = record { revno = w.revno; at = inr w.at; reached = w.reached }

    by : (b : Bool) → nat_le (epoch_at view o.key) (unsigned_abs x) ≡ b → IsAmong op (if b then o ∷ not_done view ops revnos else not_done view ops revnos) → (IsAmong op (not_done view ops revnos) → Waiting view op ops revnos)
        → Waiting view op (o ∷ ops) (x ∷ revnos)
    by true e (inl q) rest = record { revno = x; at = inl (q, refl); reached = subst (λ (p : Op). epoch_at view p.key ≤ unsigned_abs x) q (test_le _ _ e) }
    by true e (inr h) rest = shift (rest h)
    by false e h rest = shift (rest h)

-- Operations on a key that do nothing from a number on: none of them is at a greater one.

module _ (key : Key) (limit : ℕ) where
  abbrev Idle : List Op → List ℤ → Type 0
  Idle ops revnos = (op : Op) (x : ℤ) → IsAt op x ops revnos → op.key ≡ key → limit ≤ unsigned_abs x → has_effect op.change x ≡ false

  less_or_reached : (a b : ℕ) → a ≤ b → (a + 1 ≤ b) ⊎ (b ≤ a)
  less_or_reached a b le = grind arith

  stays_below : (ch : Change) (x : ℤ) → unsigned_abs x ≤ limit → (limit ≤ unsigned_abs x → has_effect ch x ≡ false) → unsigned_abs (number_after ch x) ≤ limit
  stays_below ch x below idle = ⊎_elim
      (λ less. ⊎_elim
      (λ stays. subst (λ (n : ℤ). unsigned_abs n ≤ limit) (sym stays) below)
      (λ rises. subst (λ (n : ℕ). n ≤ limit) (sym rises) less)
      (after_rises ch x))
      (λ reached. subst (λ (n : ℤ). unsigned_abs n ≤ limit) (sym (after_none ch x (idle reached))) below)
      (less_or_reached (unsigned_abs x) limit below)

  below_limit : (ops : List Op) (revnos : List ℤ) → follows ops revnos ≡ true → First key (λ m. unsigned_abs m ≤ limit) ops revnos → Idle ops revnos → (op : Op) (x : ℤ) → IsAt op x ops revnos → op.key ≡ key → unsigned_abs x ≤ limit
  below_limit [] revnos chain first idle op x at on_key = absurd at
  below_limit (o ∷ ops) [] chain first idle op x at on_key = absurd at
  below_limit (o ∷ ops) (y ∷ revnos) chain first idle op x (inl here) on_key =
      subst (λ (n : ℤ). unsigned_abs n ≤ limit) here.1 (head_has key (λ m. unsigned_abs m ≤ limit) o ops y revnos (sym (ap (λ (p : Op). p.key) here.0 ∙ on_key)) first)
  below_limit (o ∷ ops) (y ∷ revnos) chain first idle op x (inr later) on_key =
      below_limit ops revnos (and_parts _ (follows ops revnos) chain).1 (by (same_key key o.key) refl) (λ p z at. idle p z (inr at)) op x later on_key
    where
      by : (b : Bool) → same_key key o.key ≡ b → First key (λ m. unsigned_abs m ≤ limit) ops revnos
      by false e = tail_away key (λ m. unsigned_abs m ≤ limit) o ops y revnos e first
      by true e =
          let same = same_key-equal key o.key e in
          tail_here key (λ m. unsigned_abs m ≤ limit) o ops y revnos chain same
          (stays_below o.change y (head_has key (λ m. unsigned_abs m ≤ limit) o ops y revnos same first) (λ reached. idle o y (inl (refl, refl)) (sym same) reached))

passed_at : (view : View) (op : Op) (revno : ℤ) (ops : List Op) (revnos : List ℤ) → AllPassed view ops revnos → IsAt op revno ops revnos → HasPassed view op revno
passed_at view op revno [] revnos all at = absurd at
passed_at view op revno (o ∷ ops) [] all at = absurd at
passed_at view op revno (o ∷ ops) (x ∷ revnos) all (inl here) = subst (HasPassed view op) here.1 (subst (λ (p : Op). HasPassed view p x) here.0 all.0)
passed_at view op revno (o ∷ ops) (x ∷ revnos) all (inr later) = passed_at view op revno ops revnos all.1 later

module _ (c : Content) (s : IsSound c) (id : TxnId) (was : Record) (there : record_at c id ≡ Some was) (from : was.state ≡ state.Applying) where
  is_applying : applying (look c) id ≡ true
  unfolding look
  is_applying = applying_at (look c) id was there ∙ ap (same_state state.Applying) from

  module _ (numbers : List ℤ) (numbered : was.revnos ≡ Some numbers) (passed : AllPassed (look c) was.ops numbers) where
    only : (key : Key) → IsOn key was.ops → OnlyApplies (look c) id key
    unfolding look
    only key on other applies has apart = one_applying (orderly c s) key other id has (record { rec = was; there = there; on = on }) applies is_applying apart

    in_turn : follows was.ops numbers ≡ true
    in_turn =
        (and_parts (follows was.ops numbers) (stays_within was.ops numbers)
        (sym (ap (λ (o : Option (List ℤ)). unwrap_or (option_map (λ (l : List ℤ). follows was.ops l && stays_within was.ops l) o) true) numbered) ∙ (and_parts _ _ (stored_numbers c id was s there)).1)).0

    -- the number of a key's owner
    abbrev owner : Key → ℤ
    owner key = held_number ((look c).held_at key)

    owner_on_chain : (key : Key) → IsOn key was.ops → is_on_chain key (owner key) was.ops numbers ≡ true
    owner_on_chain key on =
        sym (ap (λ (o : Option (List ℤ)). is_on_chain key (owner key) was.ops (unwrap_or o [])) numbered) ∙ ((parts c s).on_chain id was there (ap (same_state state.Applying) from)).on_chain key on

    -- an operation that its key's owner isn't past does nothing
    idle_from : (key : Key) → Idle key (unsigned_abs (owner key)) was.ops numbers
    idle_from key op x at on_key reached = by (has_effect op.change x) refl
      where
        by : (b : Bool) → has_effect op.change x ≡ b → has_effect op.change x ≡ false
        by false e = e
        by true acts = absurd (lt_irrefl _ (lt_of_lt_of_le (subst (λ (k : Key). unsigned_abs x < epoch_at (look c) k) on_key (passed_above (look c) op x (passed_at (look c) op x was.ops numbers passed at) acts)) reached))

    -- its number is the owner's
    at_owner : (op : Op) (x : ℤ) → IsAt op x was.ops numbers → epoch_at (look c) op.key ≤ unsigned_abs x → x ≡ owner op.key
    at_owner op x at reached =
        let on = at_on op x was.ops numbers at in
        let limit = unsigned_abs (owner op.key) in
        let first : First op.key (λ m. unsigned_abs m ≤ limit) was.ops numbers =
        λ number found. chain_has op.key (λ m. unsigned_abs number ≤ unsigned_abs m) (λ ch m le. le_trans le (after_above ch m)) (owner op.key) was.ops numbers in_turn
        (λ other q. subst (λ (n : ℤ). unsigned_abs number ≤ unsigned_abs n) (same_Some number other (sym found ∙ q)) (le_refl _)) (owner_on_chain op.key on) in
        same_on_chain op.key x (owner op.key) was.ops numbers in_turn (at_found op x was.ops numbers at) (owner_on_chain op.key on)
        (le_antisymm (below_limit op.key limit was.ops numbers in_turn first (idle_from op.key) op x at refl) reached)

    -- so it leaves the body
    idles : (key : Key) → IsOn key (pending_of (look c) was) → OnlyApplies (look c) id key × (run_on key (pending_of (look c) was) (body_in ((look c).held_at key)) ≡ body_in ((look c).held_at key))
    idles key on = (
      only key (on_pending (look c) key was on).1,
      run_on-idle key (pending_of (look c) was) _ (λ op among on_key.
          let w = still_waits (look c) op was.ops numbers (subst (IsAmong op) (pending_of-applying (look c) was was.ops numbers from refl numbered) among) in
          let number = at_owner op w.revno w.at w.reached ∙ ap owner on_key in
          idle_body op.change w.revno (body_in ((look c).held_at key)) (held_agrees c s key ∙ ap is_present (sym number))
          (idle_from op.key op w.revno w.at refl w.reached)),
    )

    -- no mark on an owner is of it: it would be of an operation with an effect that has passed
    apart : MarksApart c id
    unfolding look
    apart key mark is_kind m acts e =
        let same : m.rec ≡ was = same_Some m.rec was (sym m.there ∙ ap (record_at c) e ∙ there) in
        let chain : m.numbers ≡ numbers = same_Some m.numbers numbers (sym m.numbered ∙ ap (λ (r : Record). r.revnos) same ∙ numbered) in
        let at = subst (λ (r : Record). IsAt m.op (owner key) r.ops numbers) same (subst (IsAt m.op (owner key) m.rec.ops) chain m.stands) in
        lt_irrefl (unsigned_abs (owner key)) (subst (λ (k : Key). unsigned_abs (owner key) < epoch_at (look c) k) m.on (passed_above (look c) m.op (owner key) (passed_at (look c) m.op (owner key) was.ops numbers passed at) acts))

    closed : IsQuiet c (insert c (name.Record id) (cell.Record (moved state.Applied None None was)))
    unfolding look
    closed = record {
      step = settled_step c id state.Applying state.Applied was s there from refl refl refl refl apart (close_step id was (orderly c s) (record_looks c id rec) there from) (done_put c id rec all_passed);
      entry = λ key. inl (Lookups.stash_at-put_record c (cell.Record rec) id key);
      means = meaning-closed c id s.kinds was there rec (record_looks c id rec).held (idle c rec refl) idles;
      none = λ at. decided_by-put c at id rec s.kinds ∙ ap option_to_list (settled_already c id was rec s there refl (ap was_decided_state from) at);
    }
      where
        rec : Record
        rec = moved state.Applied None None was

        all_passed : (w : Record) (revnos : List ℤ) → record_at c id ≡ Some w → w.state ≡ state.Applying → w.revnos ≡ Some revnos → rec.state ≡ state.Applied → AllPassed (look c) w.ops revnos
        all_passed w revnos t applies n applied =
            let same : was ≡ w = same_Some was w (sym there ∙ t) in
            let numbers_of : numbers ≡ revnos = same_Some _ _ (sym numbered ∙ ap (λ (r : Record). r.revnos) same ∙ n) in
            subst (AllPassed (look c) w.ops) numbers_of (subst (λ (r : Record). AllPassed (look c) r.ops numbers) same passed)

-- An applying record whose operations have passed is applied.
pub close_quiet : (c : Content) (id : TxnId) → IsSound c
    → ((rec : Record) (revnos : List ℤ) → record_at c id ≡ Some rec → rec.state ≡ state.Applying → rec.revnos ≡ Some revnos → AllPassed (look c) rec.ops revnos)
    → IsQuiet c (edited c (name.Record id) (edit.Move state.Applying state.Applied None None))
close_quiet c id s passed = by_move c id state.Applying state.Applied None None (IsQuiet c) (quiet_itself c s) (λ was there from. at was there from (some_revnos was there from)) (get c (name.Record id)) refl
  where
    some_revnos : (was : Record) → record_at c id ≡ Some was → was.state ≡ state.Applying → (revnos : List ℤ) × (was.revnos ≡ Some revnos)
    some_revnos was there from = by was.revnos refl
      where
        by : (o : Option (List ℤ)) → was.revnos ≡ o → (revnos : List ℤ) × (was.revnos ≡ Some revnos)
        by None e =
            let has = (and_parts _ _ (and_parts _ _ (stored_numbers c id was s there)).0).1 in
            absurd (true≢false (sym has ∙ (λ i. agree (is_some (e i)) (has_revnos (from i)))))
        by (Some numbers) e = (numbers, e)

    at : (was : Record) → record_at c id ≡ Some was → was.state ≡ state.Applying → (revnos : List ℤ) × (was.revnos ≡ Some revnos) → IsQuiet c (insert c (name.Record id) (cell.Record (moved state.Applied None None was)))
    at was there from numbers = closed c s id was there from numbers.0 numbers.1 (passed was numbers.0 there from numbers.1)
