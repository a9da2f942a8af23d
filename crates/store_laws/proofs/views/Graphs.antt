-- A gathering whose members' keys were scanned names a ready record.
use Rattle.std.proofs.Common.{◌≡◌, ℕ, List, [], true, false, inr, ⊎_elim, sym, ◌∙◌, true≢false}
use Rattle.std.proofs.lemmas.List.Elements.{Contains-get_or}
use Rattle.txn_key.specs.declared.id.TxnId.{TxnId}
use Rattle.txn_key.specs.declared.id.Token.{Token}
use Rattle.txn_key.specs.declared.key.Key.{Key}
use Rattle.txn_record.specs.Walks.{Leads}
use Rattle.store_laws.specs.View.{View, was_prepared, settled, HasKey}
use Rattle.store_laws.specs.Readiness.{In, token, Ancestor, IsReady, IsClean}
use Rattle.store_laws.specs.Later.{NothingNewBefore, IsLater}
use Rattle.cycle_order.specs.ByIds.{ReadyId, CleanId}
use Rattle.cycle_order.specs.Graphs.{IsGraph, IsPicked, id_at}
use Rattle.cycle_order.specs.declared.graph.Graph.{Graph}
use Rattle.cycle_order.proofs.IdWalks.{ready_by_ids}
use Rattle.store_laws.specs.Gathered.{Member, Closed, Edge, Grows, IsGathered, IsFollowed, IsScanned}
use Rattle.store_laws.specs.Found.{IsListed}
use Rattle.store_laws.proofs.views.Carries.{carry_clean, edge_on}
use Rattle.store_laws.proofs.views.Finding.{own_key}
use Rattle.store_laws.proofs.views.Orderly.{IsOrderly}

module _ {view : View} {g : Graph} (known : IsGathered view g) (scanned : (id : TxnId) → Member g id → (key : Key) → IsScanned view g id key) where
  -- every ancestor of a member is a member that leads to it
  walk_in : (a id : TxnId) → Ancestor view a id → Member g id → Member g a × Leads (Edge g) a id
  walk_in _ _ (Leads.Here id) m = (m, Leads.Here id)
  walk_in _ _ (Leads.Then a u id walk edge) m =
      let x = token u edge.nonce in
      let next = ((scanned id m edge.stands.key).all x edge.stands.here).edge edge.valid edge.differ in
      let rest = walk_in a u walk next.0 in
      (rest.0, Leads.Then a u id rest.1 next.1)

  -- a walk from an unsettled record along the edges is one in the content
  walk_out : (a id : TxnId) → Leads (Edge g) a id → settled view a ≡ false → Ancestor view a id
  walk_out _ _ (Leads.Here id) unsettled = Leads.Here id
  walk_out _ _ (Leads.Then a u id walk edge) unsettled =
      let rest = walk_out a u walk unsettled in
      ⊎_elim (λ precedes. Leads.Then a u id rest precedes) (λ clean. absurd (true≢false (sym (clean a rest) ∙ unsettled))) (known.edges u id edge)

  pub gathered_ready : (id : TxnId) → Member g id → settled view id ≡ false → ReadyId g id → IsReady view id
  gathered_ready id m unsettled first = record {
    sealed = λ a x walk stands. ((scanned a (walk_in a id walk m).0 stands.key).all x stands.here).decides;
    first = record {
      back = λ a walk apart open_. walk_out id a (first.back a (walk_in a id walk m).1 apart (still a open_)) unsettled;
      least = λ a walk apart open_. first.least a (walk_in a id walk m).1 apart (still a open_);
    };
  }
    where
      still : (a : TxnId) → settled view a ≡ false → Closed g a → ⊥
      still a open_ closed = true≢false (sym (known.settles a closed) ∙ open_)

  pub gathered_clean : (id : TxnId) → Member g id → CleanId g id → IsClean view id
  gathered_clean id m closed = λ a walk. known.settles a (closed a (walk_in a id walk m).1)

-- the vertex that the graph picks
pub gathered_picked : {view : View} {g : Graph} (v : ℕ) → IsGathered view g → ((id : TxnId) → Member g id → (key : Key) → IsScanned view g id key) → IsGraph g → IsPicked g v → settled view (id_at g v) ≡ false → IsReady view (id_at g v)
gathered_picked {g = g} v known scanned graph picked unsettled =
    gathered_ready known scanned (id_at g v) (Contains-get_or g.ids v (record { 0 = [] }) picked.vertex) unsettled ((ready_by_ids g graph v picked.vertex).0 picked.ready)

-- only a record's own keys have to be scanned
pub scanned_own : {view : View} {g : Graph} → IsOrderly view → (id : TxnId) → ((key : Key) → HasKey view id key → IsScanned view g id key) → (key : Key) → IsScanned view g id key
scanned_own o id own key = record { all = λ x stands. (own key (own_key o key x id stands)).all x stands }

-- a key is scanned once its tokens are listed and each of these was followed
pub scanned_from : {view : View} {g : Graph} (id : TxnId) (key : Key) (found : List Token) → IsListed view key id found → ((x : Token) → In x found → IsFollowed view g x id) → IsScanned view g id key
scanned_from id key found listed followed = record { all = λ x stands. followed x (listed.all x stands) }

-- while others go on

pub gathered_later : {old new : View} {g : Graph} → IsOrderly old → IsLater old new → IsGathered old g → IsGathered new g
gathered_later o later known = record {
  decides = λ id m. later.back.decides id (known.decides id m);
  settles = λ id c. later.back.settles id (known.settles id c);
  edges = λ u id edge. ⊎_elim (edge_on later u id) (λ clean. inr (carry_clean later.back o u clean)) (known.edges u id edge);
}

pub followed_later : {old new : View} {g : Graph} → NothingNewBefore old new → (x : Token) (id : TxnId) → IsFollowed old g x id → IsFollowed new g x id
followed_later back x id f = record { decides = back.decides x.id f.decides; edge = λ valid apart. f.edge (sym (back.nonces x.id f.decides) ∙ valid) apart }

pub scanned_later : {old new : View} {g : Graph} → NothingNewBefore old new → (id : TxnId) (key : Key) → was_prepared old id ≡ true → IsScanned old g id key → IsScanned new g id key
scanned_later back id key d s = record { all = λ x stands. followed_later back x id (s.all x (back.stands key x id d stands)) }

-- while the gathering grows
pub followed_more : {view : View} {g h : Graph} → Grows g h → (x : Token) (id : TxnId) → IsFollowed view g x id → IsFollowed view h x id
followed_more grows x id f = record { decides = f.decides; edge = λ valid apart. let found = f.edge valid apart in (grows.members x.id found.0, grows.edges x.id id found.1) }

pub scanned_more : {view : View} {g h : Graph} → Grows g h → (id : TxnId) (key : Key) → IsScanned view g id key → IsScanned view h id key
scanned_more grows id key s = record { all = λ x stands. followed_more grows x id (s.all x stands) }
