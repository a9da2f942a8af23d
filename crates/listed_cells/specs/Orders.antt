-- The graph of all records of a store: where its edges and marks come from.
use Rattle.std.specs.Prelude.{◌≡◌, ◌≢◌, ℕ, ◌<◌, false, true, Bool, Option, Some, None, List, [], ◌∷◌, length, slice_index_or, ◌↔◌, ◌⊎◌, IsTrue, AllPairs, Contains}
use Rattle.std.specs.declared.cmp.Ordering.TheVariants.{Less}
use Rattle.txn_key.specs.Ids.{id_cmp}
use Rattle.cycle_order.specs.Graphs.{IsGraph, HasEdge, edge_of, settled_at, id_at}
use Rattle.cycle_order.specs.declared.graph.Edge.{Edge}
use Rattle.cycle_order.specs.declared.graph.Graph.{Graph}
use Rattle.store_laws.specs.Readiness.{Before}
use Rattle.store_laws.specs.View.{View, look, record_at, was_prepared, settled, valid_nonce}
use Rattle.store_trait.specs.Contents.{Content}
use Rattle.txn_key.specs.declared.id.Token.{Token}
use Rattle.txn_key.specs.declared.id.TxnId.{TxnId}
use Rattle.txn_key.specs.declared.key.Key.{Key}
use Rattle.txn_record.specs.Walks.{Leads}
use Rattle.txn_record.specs.declared.record.Record.{Record}

-- the id of a vertex; what is no vertex has one of no bytes
abbrev pub id_in : List TxnId → ℕ → TxnId
id_in ids v = slice_index_or ids v (record { 0 = [] })

-- the ids of all records, in their order
pub record IsRoster (c : Content) (ids : List TxnId) : Type 0 where
  pub rise : AllPairs (λ s t. id_cmp s t ≡ Less) ids
  pub all : (id : TxnId) (rec : Record) → record_at c id ≡ Some rec → Contains ids id

-- where an id stands, or that it stands nowhere
abbrev pub IsPlace : List TxnId → TxnId → Option ℕ → Type 0
IsPlace ids id None = Contains ids id → ⊥
IsPlace ids id (Some v) = (v < length ids) × (id_in ids v ≡ id)

-- a valid token's record is the vertex v
pub record IsVertexOf (view : View) (ids : List TxnId) (x : Token) (v : ℕ) : Type 0 where
  pub valid : valid_nonce view x.id ≡ Some x.nonce
  pub within : v < length ids
  pub is : id_in ids v ≡ x.id

-- the vertex of a token, none where the token isn't valid
abbrev pub IsVertexAt : View → List TxnId → Token → Option ℕ → Type 0
IsVertexAt view ids x None = valid_nonce view x.id ≢ Some x.nonce
IsVertexAt view ids x (Some v) = IsVertexOf view ids x v

-- a valid token of u stands before a valid token of t in a queue
pub record Joins (view : View) (ids : List TxnId) (queue : List Token) (u t : ℕ) : Type 0 where
  pub x : Token
  pub y : Token
  pub from : IsVertexOf view ids x u
  pub to : IsVertexOf view ids y t
  pub before : Before x y queue

-- a token of a record that was never prepared stands before a valid token of v in a queue
pub record IsBehind (view : View) (ids : List TxnId) (queue : List Token) (v : ℕ) : Type 0 where
  pub x : Token
  pub y : Token
  pub unprepared : was_prepared view x.id ≡ false
  pub to : IsVertexOf view ids y v
  pub before : Before x y queue

-- the edge to a token's vertex, from that of the last valid token before it
abbrev pub link : Option ℕ → Option ℕ → List Edge
link None _ = []
link (Some u) None = []
link (Some u) (Some t) = edge_of u t ∷ []

-- the vertex of the last valid token, one token on
abbrev pub later : Option ℕ → Option ℕ → Option ℕ
later last None = last
later last (Some v) = Some v

-- the flag of a vertex is set
abbrev pub Marked : List Bool → ℕ → Type 0
Marked flags v = slice_index_or flags v false ≡ true

-- v comes to be marked, where a token of it stands after one of a record that was never prepared
abbrev pub AddsMark : List Bool → Bool → Option ℕ → List Bool → Type 0
AddsMark old passed vertex new =
    (v : ℕ) → Marked new v ↔ (Marked old v ⊎ (IsTrue passed × (vertex ≡ Some v)))

-- the edges of a queue, added to those before
pub record IsChained (view : View) (ids : List TxnId) (old edges : List Edge) (queue : List Token)
    : Type 0 where
  pub keeps : (u t : ℕ) → HasEdge old u t → HasEdge edges u t
  pub sound : (u t : ℕ) → HasEdge edges u t → HasEdge old u t ⊎ Joins view ids queue u t
  pub complete : (u t : ℕ) → Joins view ids queue u t → Leads (HasEdge edges) u t

-- the marks of a queue, added to those before
pub record IsMarked (view : View) (ids : List TxnId) (old marks : List Bool) (queue : List Token)
    : Type 0 where
  pub size : length marks ≡ length old
  pub here : (v : ℕ) → Marked marks v ↔ (Marked old v ⊎ IsBehind view ids queue v)

-- the edges and marks of all owner queues
pub record IsWalked (c : Content) (ids : List TxnId) (edges : List Edge) (marks : List Bool)
    : Type 0 where
  pub sound : (u t : ℕ) → HasEdge edges u t
      → (key : Key) × Joins (look c) ids ((look c).queue_at key) u t
  pub complete : (key : Key) (u t : ℕ) → Joins (look c) ids ((look c).queue_at key) u t
      → Leads (HasEdge edges) u t
  pub size : length marks ≡ length ids
  pub behind : (v : ℕ) → Marked marks v
      ↔ ((key : Key) × IsBehind (look c) ids ((look c).queue_at key) v)

-- The vertices are the records. The walks between them are those of precedence: an edge comes from
-- two tokens of an owner queue, and such tokens are joined by a walk.
pub record IsOrder (c : Content) (g : Graph) (unsealed : List Bool) : Type 0 where
  pub graph : IsGraph g
  pub roster : IsRoster c g.ids
  pub settles : (v : ℕ) → v < length g.ids
      → settled_at g v ≡ settled (look c) (id_at g v)
  pub marks : List Bool
  pub walked : IsWalked c g.ids g.edges marks
  pub size : length unsealed ≡ length g.ids
  pub follows : (v : ℕ) → Marked unsealed v
      ↔ ((a : ℕ) × Marked marks a × Leads (HasEdge g.edges) a v)
