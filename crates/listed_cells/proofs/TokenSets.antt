-- Tokens seen so far, kept in a set, and what a pass over tokens or operations has shown.
use Rattle.std.proofs.Common.{◌≡◌, ℕ, zero, suc, ◌+◌, ◌<◌, ◌≤◌, Bool, true, false, not, cond, Some, None, List, [], ◌∷◌, ◌++◌, length, get_or, take, drop, inl, inr, ◌⊎◌, ⊎_elim, ◌↔◌, refl, sym, ◌∙◌, subst, arith, true≢false}
use Rattle.std.proofs.lemmas.List.{at_drop_more, at_drop_all, take_more, take_all}
use Rattle.std.proofs.lemmas.Option.{same_Some}
use Rattle.std.proofs.lemmas.Map.Lookups.{exact_pairs, exact_bytes, exact_unsigned}
use Rattle.std.proofs.lemmas.Map.Text.{is_eq-slice_cmp}
use Rattle.std.proofs.lemmas.Slice.Eq.{bytes_eq-Decides}
use Rattle.std.specs.BTreeSet.{BTreeSet, contains}
use Rattle.std.specs.Cmp.{nat_cmp_total}
use Rattle.std.specs.Cmp.Lexicographic.{slice_cmp}
use Rattle.std.specs.Ordering.{nat_cmp, ordering_then, ordering_reverse, is_eq}
use Rattle.std.specs.declared.cmp.Ordering.{Ordering}
use Rattle.std.specs.declared.cmp.Ordering.TheVariants.{Less, Equal, Greater}
use Rattle.txn_key.specs.declared.id.TxnId.{TxnId}
use Rattle.txn_key.specs.declared.id.Token.{Token}
use Rattle.txn_key.specs.declared.key.Key.{Key}
use Rattle.txn_record.specs.declared.op.Op.{Op}
use Rattle.txn_record.specs.declared.record.Record.{Record}
use Rattle.store_laws.specs.Readiness.{In, Before}
use Rattle.store_laws.specs.Soundness.{HasSoundTokens}
use Rattle.store_laws.specs.View.{View, HasKey, IsOn}
use Rattle.store_laws.proofs.views.Queues.{in_more, in_less, in_left, in_right, in_parts, before_less, before_last}
use Rattle.listed_cells.specs.Tokens.{AllNamed, IsOnce}
use Rattle.listed_cells.proofs.TokenLists.{all_more}

abbrev pub Seen : Type 0
Seen = List ℕ × ℕ

abbrev pub seen_cmp : Seen → Seen → Ordering
seen_cmp a b = ordering_then (slice_cmp nat_cmp a.0 b.0) (nat_cmp a.1 b.1)

abbrev pub as_seen : Token → Seen
as_seen x = (x.id.0, x.nonce)

-- the set has just the tokens so far, and none of them stood twice
pub record IsSeen (seen : BTreeSet Seen) (tokens : List Token) : Type 0 where
  pub sound : (x : Token) → contains seen_cmp seen (as_seen x) ≡ true → In x tokens
  pub all : (x : Token) → In x tokens → contains seen_cmp seen (as_seen x) ≡ true
  pub once : IsOnce tokens

is_equal : (o : Ordering) → is_eq o ≡ true → o ≡ Equal
is_equal Less e = absurd (true≢false (sym e))
is_equal Equal e = refl
is_equal Greater e = absurd (true≢false (sym e))

pub same_seen : (x y : Token) → is_eq (seen_cmp (as_seen x) (as_seen y)) ≡ true → x ≡ y
same_seen x y e =
    let p : as_seen x ≡ as_seen y = exact_pairs (slice_cmp nat_cmp) nat_cmp exact_bytes exact_unsigned (as_seen x) (as_seen y) (is_equal (seen_cmp (as_seen x) (as_seen y)) e) in
    λ i. record { id = record { 0 = (p i).0 }; nonce = (p i).1 }

eq_then : (o p : Ordering) → is_eq o ≡ true → is_eq p ≡ true → is_eq (ordering_then o p) ≡ true
eq_then Less p e f = absurd (true≢false (sym e))
eq_then Equal p e f = f
eq_then Greater p e f = absurd (true≢false (sym e))

not_turned : (o : Ordering) → o ≡ ordering_reverse o → is_eq o ≡ true
not_turned Less e = cc
not_turned Equal e = refl
not_turned Greater e = cc

nat_itself : (n : ℕ) → is_eq (nat_cmp n n) ≡ true
nat_itself n = not_turned (nat_cmp n n) (nat_cmp_total.antisymm n n)

pub seen_itself : (x : Token) → is_eq (seen_cmp (as_seen x) (as_seen x)) ≡ true
seen_itself x = eq_then (slice_cmp nat_cmp x.id.0 x.id.0) (nat_cmp x.nonce x.nonce) (is_eq-slice_cmp x.id.0 x.id.0 ∙ (bytes_eq-Decides x.id.0 x.id.0).1 refl) (nat_itself x.nonce)

pub from_cond : (b c : Bool) → cond b true c ≡ true → (b ≡ true) ⊎ (c ≡ true)
from_cond true c e = inl refl
from_cond false c e = inr e

pub cond_second : (b c : Bool) → c ≡ true → cond b true c ≡ true
cond_second true c e = refl
cond_second false c e = e

pub cond_first : (b c : Bool) → b ≡ true → cond b true c ≡ true
cond_first true c e = refl
cond_first false c e = absurd (true≢false (sym e))

pub none_seen : (seen : BTreeSet Seen) → ((x : Seen) → contains seen_cmp seen x ≡ false) → IsSeen seen []
none_seen seen none = record {
  sound = λ x e. absurd (true≢false (sym e ∙ none (as_seen x)));
  all = λ x h. absurd h;
  once = λ x h. absurd h;
}

module _ (old new : BTreeSet Seen) (tokens : List Token) (y : Token) (s : IsSeen old tokens) where
  pub more_seen : contains seen_cmp old (as_seen y) ≡ false
      → ((q : Seen) → contains seen_cmp new q ≡ cond (is_eq (seen_cmp (as_seen y) q)) true (contains seen_cmp old q))
      → IsSeen new (tokens ++ y ∷ [])
  more_seen is_new updates = record {
    sound = λ x e. ⊎_elim (λ here. in_right x tokens (y ∷ []) (inl (same_seen y x here))) (λ there. in_more x y tokens (s.sound x there))
        (from_cond (is_eq (seen_cmp (as_seen y) (as_seen x))) (contains seen_cmp old (as_seen x)) (sym (updates (as_seen x)) ∙ e));
    all = λ x h. updates (as_seen x) ∙ ⊎_elim
        (λ there. cond_second (is_eq (seen_cmp (as_seen y) (as_seen x))) (contains seen_cmp old (as_seen x)) (s.all x there))
        (λ e. cond_first (is_eq (seen_cmp (as_seen y) (as_seen x))) (contains seen_cmp old (as_seen x)) (subst (λ (z : Token). is_eq (seen_cmp (as_seen y) (as_seen z)) ≡ true) e (seen_itself y)))
        (in_less x y tokens h);
    once = λ x h. ⊎_elim (s.once x)
        (λ e. true≢false (sym (s.all y (subst (λ (z : Token). In z tokens) (sym e) (before_last x x y tokens h))) ∙ is_new))
        (before_less x x y tokens h);
  }

pub in_at : (tokens : List Token) (i : ℕ) (d : Token) → i < length tokens → In (get_or tokens i d) tokens
in_at [] i d l = absurd (omega arith)
in_at (z ∷ tokens) zero d l = inl refl
in_at (z ∷ tokens) (suc i) d l = inr (in_at tokens i d (omega arith))

pub stands_twice : (tokens : List Token) (i : ℕ) (d : Token) → i < length tokens → In (get_or tokens i d) (take i tokens) → Before (get_or tokens i d) (get_or tokens i d) tokens
stands_twice [] i d l h = absurd (omega arith)
stands_twice (z ∷ tokens) zero d l h = absurd h
stands_twice (z ∷ tokens) (suc i) d l (inl e) = inl (e, in_at tokens i d (omega arith))
stands_twice (z ∷ tokens) (suc i) d l (inr h) = inr (stands_twice tokens i d (omega arith) h)

-- a pass over a queue
pub named_past : (view : View) (key : Key) (queue : List Token) (i : ℕ) (d : Token) → i < length queue → HasKey view (get_or queue i d).id key
    → AllNamed view key (drop (i + 1) queue) → AllNamed view key (drop i queue)
named_past view key queue i d l here rest =
    subst (AllNamed view key) (sym (at_drop_more (λ xs. xs) queue i d l)) (all_more (λ x. HasKey view x.id key) (get_or queue i d) (drop (i + 1) queue) here rest)

pub named_at_end : (view : View) (key : Key) (queue : List Token) (i : ℕ) → length queue ≤ i → AllNamed view key (drop i queue)
named_at_end view key queue i l = subst (AllNamed view key) (sym (at_drop_all (λ xs. xs) queue i l)) (λ x h. absurd h)

-- a pass over operations
pub on_at : (key : Key) (ops : List Op) (i : ℕ) (d : Op) → i < length ops → (get_or ops i d).key ≡ key → IsOn key ops
on_at key [] i d l e = absurd (omega arith)
on_at key (op ∷ ops) zero d l e = inl e
on_at key (op ∷ ops) (suc i) d l e = inr (on_at key ops i d (omega arith) e)

pub on_past : (key : Key) (ops : List Op) (i : ℕ) (d : Op) → i < length ops → ((get_or ops i d).key ≡ key → ⊥) → IsOn key (drop i ops) → IsOn key (drop (i + 1) ops)
on_past key ops i d l other on = only (subst (IsOn key) (at_drop_more (λ xs. xs) ops i d l) on)
  where
    only : IsOn key (get_or ops i d ∷ drop (i + 1) ops) → IsOn key (drop (i + 1) ops)
    only (inl e) = absurd (other e)
    only (inr h) = h

pub on_none : (key : Key) (ops : List Op) (i : ℕ) → length ops ≤ i → IsOn key (drop i ops) → ⊥
on_none key ops i l on = subst (IsOn key) (at_drop_all (λ xs. xs) ops i l) on

-- a record that is there, and one that isn't
pub has_if_on : (view : View) (id : TxnId) (key : Key) (rec : Record) (b : Bool) → view.record_at id ≡ Some rec → (b ≡ true) ↔ IsOn key rec.ops → (b ≡ true) ↔ HasKey view id key
has_if_on view id key rec b there on = (
  λ t. record { rec = rec; there = there; on = on.0 t },
  λ h. on.1 (subst (λ (r : Record). IsOn key r.ops) (same_Some h.rec rec (sym h.there ∙ there)) h.on),
)

pub has_none : (view : View) (id : TxnId) (key : Key) → view.record_at id ≡ None → HasKey view id key → ⊥
has_none view id key absent h = let e : None ≡ Some h.rec = sym absent ∙ h.there in cc

-- the two parts of sound tokens
module _ (view : View) (key : Key) (queue more : List Token) where
  pub sound_if_once : (b : Bool) → AllNamed view key queue → AllNamed view key more → (b ≡ true) ↔ IsOnce queue → (b ≡ true) ↔ HasSoundTokens view key queue (queue ++ more)
  sound_if_once b first second once = (
    λ t. record { named = λ x h. ⊎_elim (first x) (second x) (in_parts x queue more h); once = once.0 t },
    λ s. once.1 s.once,
  )

  pub unsound_queue : (AllNamed view key queue → ⊥) → HasSoundTokens view key queue (queue ++ more) → ⊥
  unsound_queue none s = none (λ x h. s.named x (in_left x queue more h))

  pub unsound_mark : (AllNamed view key more → ⊥) → HasSoundTokens view key queue (queue ++ more) → ⊥
  unsound_mark none s = none (λ x h. s.named x (in_right x queue more h))

from_not_false : (a b : Bool) → a ≡ not b → a ≡ false → b ≡ true
from_not_false a true e f = refl
from_not_false a false e f = absurd (true≢false (sym e ∙ f))

from_not_true : (a b : Bool) → a ≡ not b → a ≡ true → b ≡ false
from_not_true a true e f = absurd (true≢false (sym f ∙ e))
from_not_true a false e f = refl

-- a pass over a queue that keeps what it has seen
module _ (old : BTreeSet Seen) (queue : List Token) (i : ℕ) (d : Token) (within : i < length queue) (s : IsSeen old (take i queue)) (added : Bool)
    (exact : added ≡ not (contains seen_cmp old (as_seen (get_or queue i d)))) where
  pub seen_next : (new : BTreeSet Seen) → added ≡ true
      → ((q : Seen) → contains seen_cmp new q ≡ cond (is_eq (seen_cmp (as_seen (get_or queue i d)) q)) true (contains seen_cmp old q))
      → IsSeen new (take (i + 1) queue)
  seen_next new is_new updates =
      subst (IsSeen new) (sym (take_more queue i d within))
      (more_seen old new (take i queue) (get_or queue i d) s (from_not_true added (contains seen_cmp old (as_seen (get_or queue i d))) exact is_new) updates)

  pub seen_twice : added ≡ false → IsOnce queue → ⊥
  seen_twice is_old once =
      once (get_or queue i d) (stands_twice queue i d within (s.sound (get_or queue i d) (from_not_false added (contains seen_cmp old (as_seen (get_or queue i d))) exact is_old)))

pub seen_all : (seen : BTreeSet Seen) (queue : List Token) (i : ℕ) → length queue ≤ i → IsSeen seen (take i queue) → IsOnce queue
seen_all seen queue i l s = subst IsOnce (take_all i queue l) s.once

pub on_read : (key : Key) (ops : List Op) (i : ℕ) (op : Op) → i < length ops → op ≡ get_or ops i op → op.key ≡ key → IsOn key ops
on_read key ops i op l is e = on_at key ops i op l (subst (λ (o : Op). o.key ≡ key) is e)
