-- The keys of a transaction: there is one, and each is of an operation.
use Rattle.std.proofs.Common.{◌≡◌, ◌≤◌, Bool, true, false, ◌||◌, List, [], ◌∷◌, length, map, inl, inr, ⊎_elim, sym, ap, ◌∙◌, refl, arith}
use Rattle.std.specs.List.{list_any}
use Rattle.std.specs.Ordering.{is_eq}
use Rattle.std.specs.Cmp.{tied_itself}
use Rattle.txn_key.proofs.KeyOrder.{key_cmp_total}
use Rattle.txn_key.proofs.KeySets.{among_distinct}
use Rattle.txn_key.specs.Keys.{same_key}
use Rattle.txn_key.specs.declared.key.Key.{Key}
use Rattle.txn_record.specs.Chain.{keys_of}
use Rattle.txn_record.specs.declared.op.Op.{Op}
use Rattle.store_laws.specs.View.{IsOn}
use Rattle.store_laws.proofs.views.Equals.{by_key}
use Rattle.flush_prepare.specs.Keys.{IsAmong}

same_itself : (key : Key) → same_key key key ≡ true
same_itself key = ap is_eq (tied_itself key_cmp_total key)

any_key : (key : Key) (ops : List Op) → list_any (same_key key) (keys_of ops) ≡ list_any (same_key key) (map (λ (op : Op). op.key) ops)
any_key key ops = among_distinct key (map (λ (op : Op). op.key) ops)

-- a transaction with an operation has a key
pub some_key : (ops : List Op) → 1 ≤ length ops → keys_of ops ≡ [] → ⊥
some_key [] some none = absurd (omega (arith, some))
some_key (op ∷ ops) some none = absurd (cc (ap (λ (keys : List Key). list_any (same_key op.key) keys) none, any_key op.key (op ∷ ops), ap (λ (b : Bool). b || list_any (same_key op.key) (map (λ (op : Op). op.key) ops)) (same_itself op.key)))

-- keys that are among others, by the test of each

any_of : (key : Key) (keys : List Key) → IsAmong key keys → list_any (same_key key) keys ≡ true
any_of key [] h = absurd h
any_of key (k ∷ keys) h = by_key key k (λ t. (t || list_any (same_key key) keys) ≡ true) (λ e. refl) (λ apart. ⊎_elim (λ same. absurd (apart (sym same))) (any_of key keys) h)

among_any : (key : Key) (keys : List Key) → list_any (same_key key) keys ≡ true → IsAmong key keys
among_any key [] e = cc
among_any key (k ∷ keys) e = by_key key k (λ t. (t || list_any (same_key key) keys) ≡ true → IsAmong key (k ∷ keys)) (λ same h. inl (sym same)) (λ apart h. inr (among_any key keys h)) e

on_any : (key : Key) (ops : List Op) → IsOn key ops → list_any (same_key key) (map (λ (op : Op). op.key) ops) ≡ true
on_any key [] h = absurd h
on_any key (op ∷ ops) (inl same) = ap (λ (k : Key). same_key key k || list_any (same_key key) (map (λ (op : Op). op.key) ops)) same ∙ ap (λ (b : Bool). b || list_any (same_key key) (map (λ (op : Op). op.key) ops)) (same_itself key)
on_any key (op ∷ ops) (inr later) = either (same_key key op.key) _ (on_any key ops later)
  where
    either : (a b : Bool) → b ≡ true → (a || b) ≡ true
    either true b e = refl
    either false b e = e

any_on : (key : Key) (ops : List Op) → list_any (same_key key) (map (λ (op : Op). op.key) ops) ≡ true → IsOn key ops
any_on key [] e = cc
any_on key (op ∷ ops) e = by_key key op.key (λ t. (t || list_any (same_key key) (map (λ (op : Op). op.key) ops)) ≡ true → IsOn key (op ∷ ops)) (λ same h. inl (sym same)) (λ apart h. inr (any_on key ops h)) e

pub key_of_own : (key : Key) (ops : List Op) → IsOn key ops → IsAmong key (keys_of ops)
key_of_own key ops on = among_any key (keys_of ops) (any_key key ops ∙ on_any key ops on)

pub own_of_key : (key : Key) (ops : List Op) → IsAmong key (keys_of ops) → IsOn key ops
own_of_key key ops among = any_on key ops (sym (any_key key ops) ∙ any_of key (keys_of ops) among)
