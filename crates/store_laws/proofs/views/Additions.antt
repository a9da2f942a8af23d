-- A token at the end of an owner queue.
use Rattle.std.proofs.Common.{◌≡◌, ◌≢◌, ℕ, Some, List, inl, ⊎_elim, sym, ◌∙◌, ap, subst, if◌then◌else◌, arith}
use Rattle.txn_key.specs.declared.id.TxnId.{TxnId}
use Rattle.txn_key.specs.declared.id.Token.{Token}
use Rattle.txn_key.specs.declared.key.Key.{Key}
use Rattle.store_trait.specs.Edits.{with_token}
use Rattle.store_laws.specs.View.{View, valid_nonce, HasKey}
use Rattle.store_laws.specs.Readiness.{token, In, Before, StandsAt}
use Rattle.store_laws.specs.Later.{IsLater}
use Rattle.store_laws.proofs.views.Shapes.{PutsQueue, AddsToken}
use Rattle.store_laws.proofs.views.Queues.{in_with, in_without, before_with, before_without}
use Rattle.store_laws.proofs.views.Equals.{by_key}
use Rattle.store_laws.proofs.views.Orderly.{IsOrderly}
use Rattle.store_laws.proofs.views.Changes.{IsOrderlyStep, same_goes, same_nonce, still_at, IsOrderlyAt}

-- what holds of the queue put at its key, and of each queue that stays, holds of all
pub each_queue : {old new : View} {key : Key} {queue : List Token} → PutsQueue old new key queue → (P : Key → List Token → Type 0) → P key queue → ((other : Key) → P other (old.queue_at other)) → (other : Key) → P other (new.queue_at other)
each_queue {old = old} {key = key} {queue = queue} puts P here others other =
    subst (P other) (sym (puts.queues other)) (by_key other key (λ b. P other (if b then queue else old.queue_at other)) (λ e. subst (λ (k : Key). P k queue) (sym e) here) (λ e. others other))

-- A token of a present record that has the key is put at the end of the owner queue. It isn't the
-- record's valid token: that record is preparing, or prepared with another nonce.
pub add_step : {old new : View} (key : Key) (z : Token) → IsOrderly old → AddsToken old new key z → HasKey old z.id key → valid_nonce old z.id ≢ Some z.nonce → IsOrderlyStep old new
add_step {old = old} {new = new} key z o change has other = record { later = later; orderly = orderly }
  where
    nonces : (id : TxnId) → valid_nonce new id ≡ valid_nonce old id
    nonces id = same_nonce old new id (change.records.records id)

    -- a valid token that came is none
    invalid : (id : TxnId) (nonce : ℕ) → valid_nonce old id ≡ Some nonce → z ≡ token id nonce → ⊥
    invalid id nonce valid e = other (ap (λ (x : Token). valid_nonce old x.id) e ∙ valid ∙ ap (λ (x : Token). Some x.nonce) (sym e))

    stood : (k : Key) (x : Token) (id : TxnId) → StandsAt new k x id → StandsAt old k x id
    stood k x id stands = record { nonce = stands.nonce; valid = valid; before = each_queue change.queues (λ k q. Before x (token id stands.nonce) q → Before x (token id stands.nonce) (old.queue_at k)) was (λ k h. h) k stands.before }
      where
        valid : valid_nonce old id ≡ Some stands.nonce
        valid = sym (nonces id) ∙ stands.valid

        was : Before x (token id stands.nonce) (with_token z (old.queue_at key)) → Before x (token id stands.nonce) (old.queue_at key)
        was h = ⊎_elim (λ before. before) (λ e. absurd (invalid id stands.nonce valid e)) (before_without x (token id stands.nonce) z (old.queue_at key) h)

    stands_still : (k : Key) (x : Token) (id : TxnId) → StandsAt old k x id → StandsAt new k x id
    stands_still k x id stands = record {
      nonce = stands.nonce;
      valid = nonces id ∙ stands.valid;
      before = each_queue change.queues (λ k q. Before x (token id stands.nonce) (old.queue_at k) → Before x (token id stands.nonce) q) (before_with x (token id stands.nonce) z (old.queue_at key)) (λ k h. h) k stands.before;
    }

    later : IsLater old new
    later = record {
      back = record {
        decides = λ id. (same_goes old new id (change.records.records id)).decides;
        chooses = λ id. (same_goes old new id (change.records.records id)).chooses;
        settles = λ id. (same_goes old new id (change.records.records id)).settles;
        keys = λ id. (same_goes old new id (change.records.records id)).keys;
        nonces = λ id d. nonces id;
        stands = λ k x id d. stood k x id;
      };
      counter = omega (arith, change.counter);
      stays = λ k x id h. inl (stands_still k x id h);
      held = λ id k before ready after h. change.held.held k;
    }

    stays : (k : Key) (x : Token) → In x (old.queue_at k) → In x (new.queue_at k)
    stays k x = each_queue change.queues (λ k q. In x (old.queue_at k) → In x q) (in_with x z (old.queue_at key)) (λ k h. h) k

    each : (id : TxnId) → IsOrderlyAt new id
    each id = still_at o later stays id (change.records.records id)

    named : (k : Key) (x : Token) → In x (new.queue_at k) → HasKey new x.id k
    named k x = each_queue change.queues (λ k q. In x q → HasKey new x.id k) here (λ k h. later.back.keys x.id k (o.named k x h)) k
      where
        here : In x (with_token z (old.queue_at key)) → HasKey new x.id key
        here h = later.back.keys x.id key (⊎_elim (λ was. o.named key x was) (λ e. subst (λ (y : Token). HasKey old y.id key) e has) (in_without x z (old.queue_at key) h))

    orderly : IsOrderly new
    orderly = record {
      named = named;
      drawn = λ id. (each id).drawn;
      queued = λ id. (each id).queued;
      ready = λ id. (each id).ready;
      sealed = λ id. (each id).sealed;
    }
