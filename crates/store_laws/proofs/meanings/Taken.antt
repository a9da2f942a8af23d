-- What an update takes out of the operations that a record has still to do: the one that it was of, and those before
-- it on its key, which do nothing at its number.
use Rattle.std.proofs.Common.{◌≡◌, ◌≢◌, ℕ, ◌<◌, ◌≤◌, ◌+◌, le_refl, le_trans, le_of_lt, lt_irrefl, lt_of_lt_of_le, Bool, true, false, List, [], ◌∷◌, ◌++◌, inl, inr, sym, ap, ◌∙◌, refl, subst, unsigned_abs, ℤ, int_eq, nat_le, if◌then◌else◌, arith, true≢false}
use Rattle.std.proofs.lemmas.Bool.{and_parts}
use Rattle.std.proofs.lemmas.Bool.Decides.{Decides-int_eq, nat_tests}
use Rattle.std.specs.Prelude.{Some}
use Rattle.txn_key.specs.Keys.{same_key}
use Rattle.txn_key.specs.declared.key.Key.{Key}
use Rattle.txn_record.specs.Revnos.{follows, is_present, has_effect, number_after}
use Rattle.txn_record.specs.declared.op.Change.{Change}
use Rattle.txn_record.specs.declared.op.Op.{Op}
use Rattle.store_laws.specs.Meaning.{not_done}
use Rattle.store_laws.specs.View.{View, Held, held_number, epoch_at}
use Rattle.store_laws.proofs.chains.ChainOrder.{IsFrom, from_on}
use Rattle.store_laws.proofs.chains.Inherits.{First, head_has, tail_here, tail_has, at_has}
use Rattle.store_laws.proofs.chains.NumberAfter.{after_above, after_effect, idle_body, idle_fits}
use Rattle.store_laws.proofs.meanings.Runs.{same_key-equal, same_key-other}
use Rattle.store_laws.proofs.meanings.Thinned.{LeavesDoc, Thinned}
use Rattle.store_laws.specs.Chains.{IsAt}

pub record Taken (op : Op) (was is : List Op) : Type 0 where
  pub all : List Op
  pub kept : List Op
  pub post : List Op
  pub before : was ≡ all ++ op ∷ post
  pub after : is ≡ kept ++ post
  pub thins : Thinned op.key all kept

passes_test : (a b : ℕ) → a ≤ b → nat_le a b ≡ true
passes_test a b le = grind (arith, nat_tests)

fails_test : (a b : ℕ) → b < a → nat_le a b ≡ false
fails_test a b less = grind (arith, nat_tests)

module _ (v w : View) (key : Key) (r next : ℤ) (present : is_present r ≡ true) (rises : unsigned_abs r < unsigned_abs next) (was : epoch_at v key ≡ unsigned_abs r) (is : epoch_at w key ≡ unsigned_abs next) (elsewhere : (k : Key) → k ≢ key → w.held_at k ≡ v.held_at k) where
  abbrev test : View → Op → ℤ → Bool
  test view o x = nat_le (epoch_at view o.key) (unsigned_abs x)

  -- elsewhere all tests come out as before
  test_away : (o : Op) (x : ℤ) → same_key key o.key ≡ false → test w o x ≡ test v o x
  test_away o x e = ap (λ (h : Held). nat_le (unsigned_abs (held_number h)) (unsigned_abs x)) (elsewhere o.key (λ q. same_key-other key o.key e (sym q)))

  test_was : (o : Op) (x : ℤ) → key ≡ o.key → test v o x ≡ nat_le (unsigned_abs r) (unsigned_abs x)
  test_was o x e = ap (λ (n : ℕ). nat_le n (unsigned_abs x)) (ap (epoch_at v) (sym e) ∙ was)

  test_is : (o : Op) (x : ℤ) → key ≡ o.key → test w o x ≡ nat_le (unsigned_abs next) (unsigned_abs x)
  test_is o x e = ap (λ (n : ℕ). nat_le n (unsigned_abs x)) (ap (epoch_at w) (sym e) ∙ is)

  -- at the number itself
  here_was : (o : Op) (x : ℤ) → key ≡ o.key → x ≡ r → test v o x ≡ true
  here_was o x same number = test_was o x same ∙ passes_test _ _ (subst (λ (n : ℤ). unsigned_abs r ≤ unsigned_abs n) (sym number) (le_refl _))

  here_is : (o : Op) (x : ℤ) → key ≡ o.key → x ≡ r → test w o x ≡ false
  here_is o x same number = test_is o x same ∙ fails_test _ _ (subst (λ (n : ℤ). unsigned_abs n < unsigned_abs next) (sym number) rises)

  abbrev Later : ℤ → Type 0
  Later m = unsigned_abs next ≤ unsigned_abs m

  later_on : (ch : Change) (m : ℤ) → Later m → Later (number_after ch m)
  later_on ch m le = le_trans le (after_above ch m)

  -- operations at later numbers stay to be done
  all_later : (ops : List Op) (revnos : List ℤ) → follows ops revnos ≡ true → First key Later ops revnos → not_done w ops revnos ≡ not_done v ops revnos
  all_later [] revnos chain first = refl
  all_later (o ∷ ops) [] chain first = refl
  all_later (o ∷ ops) (x ∷ revnos) chain first =
      let rest = all_later ops revnos (and_parts _ (follows ops revnos) chain).1 (tail_has key Later later_on o ops x revnos chain first) in
      λ i. if alike (same_key key o.key) refl i then o ∷ rest i else rest i
    where
      alike : (b : Bool) → same_key key o.key ≡ b → test w o x ≡ test v o x
      alike false e = test_away o x e
      alike true e =
          let same = same_key-equal key o.key e in
          let has = head_has key Later o ops x revnos same first in
          test_is o x same ∙ passes_test _ _ has ∙ sym (test_was o x same ∙ passes_test _ _ (le_trans (le_of_lt rises) has))

  module _ (op : Op) (on_key : op.key ≡ key) (effect : has_effect op.change r ≡ true) (leaves : number_after op.change r ≡ next) where
    abbrev TakenIf : Bool → Bool → Op → List Op → List Op → Type 0
    TakenIf a b o xs ys = Taken op (if a then o ∷ xs else xs) (if b then o ∷ ys else ys)

    -- the head isn't on the key
    pass_by : (o : Op) (x : ℤ) (xs ys : List Op) → same_key key o.key ≡ false → Taken op xs ys → TakenIf (test v o x) (test w o x) o xs ys
    pass_by o x xs ys e t = subst (λ (b : Bool). TakenIf (test v o x) b o xs ys) (sym (test_away o x e)) (by (test v o x))
      where
        by : (b : Bool) → TakenIf b b o xs ys
        by true = record {
          all = o ∷ t.all;
          kept = o ∷ t.kept;
          post = t.post;
          before = ap (λ (l : List Op). o ∷ l) t.before;
          after = ap (λ (l : List Op). o ∷ l) t.after;
          thins = Thinned.Keep o t.all t.kept (λ q. same_key-other key o.key e (sym (q ∙ on_key))) t.thins;
        }
        by false = t

    -- the head is the operation
    take : (o : Op) (x : ℤ) (xs ys : List Op) → key ≡ o.key → o ≡ op → x ≡ r → ys ≡ xs → TakenIf (test v o x) (test w o x) o xs ys
    take o x xs ys same here number rest = record {
      all = [];
      kept = [];
      post = xs;
      before = (λ i. if here_was o x same number i then here i ∷ xs else xs);
      after = (λ i. if here_is o x same number i then o ∷ ys else ys) ∙ rest;
      thins = Thinned.End;
    }

    -- the head does nothing at the operation's number
    drop : (o : Op) (x : ℤ) (xs ys : List Op) → key ≡ o.key → x ≡ r → has_effect o.change x ≡ false → Taken op xs ys → TakenIf (test v o x) (test w o x) o xs ys
    drop o x xs ys same number idle t = record {
      all = o ∷ t.all;
      kept = t.kept;
      post = t.post;
      before = (λ i. if here_was o x same number i then o ∷ t.before i else xs);
      after = (λ i. if here_is o x same number i then o ∷ ys else ys) ∙ t.after;
      thins = Thinned.Drop o t.all t.kept (sym same ∙ sym on_key) leaves_doc t.thins;
    }
      where
        found_there : is_present x ≡ true
        found_there = ap is_present number ∙ present

        leaves_doc : LeavesDoc o.change
        leaves_doc = record { body = λ found. idle_body o.change x (Some found) (sym found_there) idle; fits = λ found. idle_fits o.change x (Some found) (sym found_there) idle }

    -- the head is at an earlier number of the key
    skip : (o : Op) (x : ℤ) (xs ys : List Op) → key ≡ o.key → unsigned_abs x < unsigned_abs r → Taken op xs ys → TakenIf (test v o x) (test w o x) o xs ys
    skip o x xs ys same less t =
        subst (λ (b : Bool). TakenIf b (test w o x) o xs ys) (sym (test_was o x same ∙ fails_test _ _ less))
        (subst (λ (b : Bool). TakenIf false b o xs ys) (sym (test_is o x same ∙ fails_test _ _ (lt_of_lt_of_le less (le_of_lt rises)))) t)

    pub taken : (ops : List Op) (revnos : List ℤ) → follows ops revnos ≡ true → IsAt op r ops revnos → Taken op (not_done v ops revnos) (not_done w ops revnos)
    taken [] revnos chain at = absurd at
    taken (o ∷ ops) [] chain at = absurd at
    taken (o ∷ ops) (x ∷ revnos) chain at = by (same_key key o.key) (int_eq x r) refl refl at (taken ops revnos rest_chain)
      where
        xs : List Op
        xs = not_done v ops revnos

        ys : List Op
        ys = not_done w ops revnos

        rest_chain : follows ops revnos ≡ true
        rest_chain = (and_parts _ (follows ops revnos) chain).1

        -- after an effect at the operation's number all numbers on the key are later
        rest_later : key ≡ o.key → unsigned_abs (number_after o.change x) ≡ unsigned_abs next → First key Later ops revnos
        rest_later same number = tail_here key Later o ops x revnos chain same (subst (λ (n : ℕ). unsigned_abs next ≤ n) (sym number) (le_refl _))

        -- an operation later in the chain stands at the head's number or at a later one
        earlier : key ≡ o.key → (x ≡ r → ⊥) → IsAt op r ops revnos → unsigned_abs x < unsigned_abs r
        earlier same apart later = by_order (at_has key (IsFrom x) (from_on x) op r ops revnos rest_chain (tail_here key (IsFrom x) o ops x revnos chain same (from_on x o.change x (inl refl))) on_key later)
          where
            by_order : IsFrom x r → unsigned_abs x < unsigned_abs r
            by_order (inl e) = absurd (apart (sym e))
            by_order (inr less) = less

        at_number : key ≡ o.key → x ≡ r → (b : Bool) → has_effect o.change x ≡ b → IsAt op r ops revnos → Taken op xs ys → TakenIf (test v o x) (test w o x) o xs ys
        at_number same number false e later t = drop o x xs ys same number e t
        at_number same number true e later t = absurd (lt_irrefl _ (lt_of_lt_of_le rises (at_has key Later later_on op r ops revnos rest_chain (rest_later same after) on_key later)))
          where
            after : unsigned_abs (number_after o.change x) ≡ unsigned_abs next
            after = after_effect o.change x e ∙ ap (λ (n : ℤ). unsigned_abs n + 1) number ∙ sym (ap unsigned_abs (sym leaves) ∙ after_effect op.change r effect)

        by : (a b : Bool) → same_key key o.key ≡ a → int_eq x r ≡ b → IsAt op r (o ∷ ops) (x ∷ revnos) → (IsAt op r ops revnos → Taken op xs ys) → TakenIf (test v o x) (test w o x) o xs ys
        by false b e q (inl here) rest = absurd (same_key-other key o.key e (sym (ap (λ (p : Op). p.key) here.0 ∙ on_key)))
        by false b e q (inr later) rest = pass_by o x xs ys e (rest later)
        by true true e q (inl here) rest =
            let same = same_key-equal key o.key e in
            take o x xs ys same here.0 here.1 (all_later ops revnos rest_chain (rest_later same (ap unsigned_abs ((λ i. number_after (here.0 i).change (here.1 i)) ∙ leaves))))
        by true true e q (inr later) rest = at_number (same_key-equal key o.key e) ((Decides-int_eq x r).0 q) (has_effect o.change x) refl later (rest later)
        by true false e q (inl here) rest = absurd (true≢false (sym ((Decides-int_eq x r).1 here.1) ∙ q))
        by true false e q (inr later) rest =
            let same = same_key-equal key o.key e in
            skip o x xs ys same (earlier same (λ number. true≢false (sym ((Decides-int_eq x r).1 number) ∙ q)) later) (rest later)
