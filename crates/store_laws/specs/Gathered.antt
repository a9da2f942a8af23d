-- What a gathering knows, as a graph: its members, an edge for each valid token found before a member,
-- and which members were read as settled. The content's own edges may since have gone.
use Rattle.std.specs.Prelude.{◌≡◌, ◌≢◌, true, Contains, ◌⊎◌, Some}
use Rattle.txn_key.specs.declared.id.TxnId.{TxnId}
use Rattle.txn_key.specs.declared.id.Token.{Token}
use Rattle.txn_key.specs.declared.key.Key.{Key}
use Rattle.cycle_order.specs.ByIds
use Rattle.cycle_order.specs.declared.graph.Graph.{Graph}
use Rattle.store_laws.specs.View.{View, was_prepared, settled, valid_nonce}
use Rattle.store_laws.specs.Readiness.{StandsAt, Precedes, IsClean}

abbrev pub Member : Graph → TxnId → Type 0
Member g id = Contains g.ids id

abbrev pub Closed : Graph → TxnId → Type 0
Closed g id = ByIds.Settled g id

abbrev pub Edge : Graph → TxnId → TxnId → Type 0
Edge g u id = ByIds.Precedes g u id

-- each member was prepared, each closed one is settled, and an edge stands or its first record is
-- clean
pub record IsGathered (view : View) (g : Graph) : Type 0 where
  pub decides : (id : TxnId) → Member g id → was_prepared view id ≡ true
  pub settles : (id : TxnId) → Closed g id → settled view id ≡ true
  pub edges : (u id : TxnId) → Edge g u id → Precedes view u id ⊎ IsClean view u

-- a token before a member was followed: its record was prepared, and if the token is valid, it is a
-- member with an edge
pub record IsFollowed (view : View) (g : Graph) (x : Token) (id : TxnId) : Type 0 where
  pub decides : was_prepared view x.id ≡ true
  pub edge : valid_nonce view x.id ≡ Some x.nonce → x.id ≢ id → Member g x.id × Edge g x.id id

-- every token that stands before a member in the owner queue of a key was followed
pub record IsScanned (view : View) (g : Graph) (id : TxnId) (key : Key) : Type 0 where
  pub all : (x : Token) → StandsAt view key x id → IsFollowed view g x id

-- a gathering that has grown
pub record Grows (g h : Graph) : Type 0 where
  pub members : (id : TxnId) → Member g id → Member h id
  pub edges : (u id : TxnId) → Edge g u id → Edge h u id
