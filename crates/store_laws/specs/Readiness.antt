use Rattle.std.specs.Prelude.{◌≡◌, ◌≢◌, ℕ, true, false, Some, List, [], ◌∷◌, ◌⊎◌}
use Rattle.std.specs.declared.cmp.Ordering.TheVariants.{Less}
use Rattle.txn_key.specs.Ids.{id_cmp}
use Rattle.txn_key.specs.declared.id.TxnId.{TxnId}
use Rattle.txn_key.specs.declared.id.Token.{Token}
use Rattle.txn_key.specs.declared.key.Key.{Key}
use Rattle.txn_record.specs.Walks.{Leads, GoesFirst, AllBefore}
use Rattle.store_laws.specs.View.{View, was_prepared, settled, valid_nonce}

abbrev pub token : TxnId → ℕ → Token
token id nonce = record { id = id; nonce = nonce }

abbrev pub In : Token → List Token → Type 0
In x [] = ⊥
In x (y ∷ queue) = (y ≡ x) ⊎ In x queue

-- x stands somewhere before y
abbrev pub Before : Token → Token → List Token → Type 0
Before x y [] = ⊥
Before x y (z ∷ queue) = ((z ≡ x) × In y queue) ⊎ Before x y queue

-- x stands before the valid token of a record in the owner queue of a key
pub record StandsAt (view : View) (key : Key) (x : Token) (id : TxnId) : Type 0 where
  pub nonce : ℕ
  pub valid : valid_nonce view id ≡ Some nonce
  pub before : Before x (token id nonce) (view.queue_at key)

pub record Stands (view : View) (x : Token) (id : TxnId) : Type 0 where
  pub key : Key
  pub here : StandsAt view key x id

-- a valid token of the one record stands before a valid token of the other in some owner queue
pub record Precedes (view : View) (first then_ : TxnId) : Type 0 where
  pub nonce : ℕ
  pub valid : valid_nonce view first ≡ Some nonce
  pub stands : Stands view (token first nonce) then_
  pub differ : first ≢ then_

-- a record itself, and all from which precedence leads to it
abbrev pub Ancestor : View → TxnId → TxnId → Type 0
Ancestor view a id = Leads (Precedes view) a id

-- every token that stands before a valid token of the record or of an ancestor is of a record that
-- was prepared
abbrev pub Sealed : View → TxnId → Type 0
Sealed view id =
    (a : TxnId) (x : Token) → Ancestor view a id → Stands view x a → was_prepared view x.id ≡ true

-- The record goes first among the unsettled ones by id, and it is sealed.
pub record IsReady (view : View) (id : TxnId) : Type 0 where
  pub sealed : Sealed view id
  pub first : GoesFirst (Precedes view) (λ a. settled view a ≡ false) (λ a b. id_cmp a b ≡ Less) id

-- a record and all its ancestors are settled
abbrev pub IsClean : View → TxnId → Type 0
IsClean view id = AllBefore (Precedes view) (λ a. settled view a ≡ true) id

-- a token of a prepared record, or a later one, with another nonce than the record's
pub record IsStale (view : View) (x : Token) : Type 0 where
  pub decides : was_prepared view x.id ≡ true
  pub other : valid_nonce view x.id ≢ Some x.nonce

-- a token that may be taken out of a queue
abbrev pub IsSpent : View → Token → Type 0
IsSpent view x = IsStale view x ⊎ IsClean view x.id
