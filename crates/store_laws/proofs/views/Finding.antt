-- What was found lasts, and what is missing is settled.
use Rattle.std.proofs.Common.{◌≡◌, ◌≢◌, ℕ, Bool, true, false, Some, List, [], ◌∷◌, ◌⊎◌, inl, inr, sym, ◌∙◌, refl, subst}
use Rattle.std.proofs.lemmas.Option.{same_Some}
use Rattle.txn_key.specs.declared.id.TxnId.{TxnId}
use Rattle.txn_key.specs.declared.id.Token.{Token}
use Rattle.txn_key.specs.declared.key.Key.{Key}
use Rattle.txn_record.specs.States.{was_prepared_state}
use Rattle.store_laws.specs.View.{View, was_prepared, settled, is_queued_state, valid_nonce, HasKey}
use Rattle.store_laws.specs.Readiness.{token, In, Before, StandsAt, Precedes, IsClean}
use Rattle.store_laws.specs.Later.{NothingNewBefore, IsLater}
use Rattle.store_laws.specs.Found.{IsFoundAt, IsListed}
use Rattle.store_laws.proofs.views.Carries.{carry_spent}
use Rattle.store_laws.proofs.views.Exclusive.{stands_queued}
use Rattle.store_laws.proofs.views.Orderly.{IsOrderly}
use Rattle.store_laws.proofs.views.States.{settled_otherwise}
use Rattle.store_laws.proofs.views.Views.{decided_at, settled_at, waiting_at, decided_if_valid}

-- a token that stands behind another stands in the queue
last_in : (x y : Token) (queue : List Token) → Before x y queue → In y queue
last_in x y [] h = absurd h
last_in x y (z ∷ queue) (inl h) = inr h.1
last_in x y (z ∷ queue) (inr h) = inr (last_in x y queue h)

-- a record has each key on which tokens stand before it
pub own_key : {view : View} → IsOrderly view → (key : Key) (x : Token) (id : TxnId) → StandsAt view key x id → HasKey view id key
own_key {view = view} o key x id stands = o.named key (token id stands.nonce) (last_in x (token id stands.nonce) (view.queue_at key) stands.before)

pub found_later : {old new : View} → IsOrderly old → IsLater old new → (key : Key) (x : Token) (id : TxnId) → IsFoundAt old key x id → IsFoundAt new key x id
found_later o later key x id (inl stands) = later.stays key x id stands
found_later o later key x id (inr spent) = inr (carry_spent later.back o x spent)

-- a found token that is valid gives an edge, unless its record is clean
pub found_edge : {view : View} (key : Key) (x : Token) (id : TxnId) → IsFoundAt view key x id → valid_nonce view x.id ≡ Some x.nonce → x.id ≢ id → Precedes view x.id id ⊎ IsClean view x.id
found_edge key x id (inl stands) valid apart = inl (record { nonce = x.nonce; valid = valid; stands = record { key = key; here = stands }; differ = apart })
found_edge key x id (inr (inl stale)) valid apart = absurd (stale.other valid)
found_edge key x id (inr (inr clean)) valid apart = inr clean

pub listed_later : {old new : View} → NothingNewBefore old new → (key : Key) (id : TxnId) (found : List Token) → was_prepared old id ≡ true → IsListed old key id found → IsListed new key id found
listed_later back key id found d listed = record { all = λ x stands. listed.all x (back.stands key x id d stands) }

-- where a record's own token is missing, nothing stands before it, and it is settled if it was prepared

pub missing_listed : {view : View} (key : Key) (id : TxnId) (nonce : ℕ) → valid_nonce view id ≡ Some nonce → (In (token id nonce) (view.queue_at key) → ⊥) → IsListed view key id []
missing_listed {view = view} key id nonce valid missing = record {
  all = λ x stands. missing (subst (λ (n : ℕ). In (token id n) (view.queue_at key)) (same_Some stands.nonce nonce (sym stands.valid ∙ valid)) (last_in x (token id stands.nonce) (view.queue_at key) stands.before));
}

pub missing_settled : {view : View} → IsOrderly view → (key : Key) (id : TxnId) (nonce : ℕ) → HasKey view id key → valid_nonce view id ≡ Some nonce → (In (token id nonce) (view.queue_at key) → ⊥) → settled view id ≡ true
missing_settled {view = view} o key id nonce has valid missing = settled_at view id has.rec has.there ∙ settled_otherwise has.rec.state state (go (is_queued_state has.rec.state) refl)
  where
    state : was_prepared_state has.rec.state ≡ true
    state = sym (decided_at view id has.rec has.there) ∙ decided_if_valid view id nonce valid

    go : (b : Bool) → is_queued_state has.rec.state ≡ b → b ≡ false
    go false e = refl
    go true e =
        let queued = stands_queued view o id key has (waiting_at view id has.rec has.there ∙ e) in
        absurd (missing (subst (λ (n : ℕ). In (token id n) (view.queue_at key)) (same_Some queued.nonce nonce (sym queued.valid ∙ valid)) queued.inside))
