-- What stays as it was where nothing new stands before prepared records.
use Rattle.std.proofs.Common.{◌≡◌, true, false, Some, ◌⊎◌, inl, inr, ⊎_elim, sym, ◌∙◌}
use Rattle.txn_key.specs.declared.id.TxnId.{TxnId}
use Rattle.txn_key.specs.declared.id.Token.{Token}
use Rattle.txn_record.specs.Walks.{Leads}
use Rattle.store_laws.specs.View.{View, was_prepared, settled, valid_nonce}
use Rattle.store_laws.specs.Readiness.{token, StandsAt, Stands, Precedes, Ancestor, Sealed, IsReady, IsClean, IsSpent}
use Rattle.store_laws.specs.Later.{NothingNewBefore, IsLater}
use Rattle.store_laws.proofs.views.Views.{decided_if_valid, decided_if_chosen, chosen_if_settled, false_back}
use Rattle.store_laws.proofs.views.Orderly.{IsOrderly}

pub decided_ancestor : {view : View} (a id : TxnId) → Ancestor view a id → was_prepared view id ≡ true → was_prepared view a ≡ true
decided_ancestor _ _ (Leads.Here _) d = d
decided_ancestor {view = view} _ _ (Leads.Then a u id walk edge) d = decided_ancestor a u walk (decided_if_valid view u edge.nonce edge.valid)

pub edge_back : {old new : View} → NothingNewBefore old new → (u id : TxnId) → was_prepared old id ≡ true → Sealed old id → Precedes new u id → Precedes old u id
edge_back back u id d sealed edge =
    let x = token u edge.nonce in
    let stands : Stands _ x id = record { key = edge.stands.key; here = back.stands edge.stands.key x id d edge.stands.here } in
    record { nonce = edge.nonce; valid = sym (back.nonces u (sealed id x (Leads.Here id) stands)) ∙ edge.valid; stands = stands; differ = edge.differ }

pub sealed_before : {view : View} (u id : TxnId) → Precedes view u id → Sealed view id → Sealed view u
sealed_before u id edge sealed = λ a x walk stands. sealed a x (Leads.Then a u id walk edge) stands

-- a walk to a sealed record was there before
pub walk_back : {old new : View} (a id : TxnId) → Ancestor new a id → NothingNewBefore old new → was_prepared old id ≡ true → Sealed old id → Ancestor old a id
walk_back _ _ (Leads.Here id) back d sealed = Leads.Here id
walk_back {old = old} _ _ (Leads.Then a u id walk edge) back d sealed =
    let was = edge_back back u id d sealed edge in
    Leads.Then a u id (walk_back a u walk back (decided_if_valid old u was.nonce was.valid) (sealed_before u id was sealed)) was

-- an edge stays, unless its first record is clean now
pub edge_on : {old new : View} → IsLater old new → (u id : TxnId) → Precedes old u id → Precedes new u id ⊎ IsClean new u
edge_on {old = old} {new = new} later u id edge = ⊎_elim (λ stands. inl (kept stands)) (λ spent. inr (⊎_elim (λ stale. absurd (stale.other valid)) (λ clean. clean) spent)) (later.stays edge.stands.key (token u edge.nonce) id edge.stands.here)
  where
    valid : valid_nonce new u ≡ Some edge.nonce
    valid = later.back.nonces u (decided_if_valid old u edge.nonce edge.valid) ∙ edge.valid

    kept : StandsAt new edge.stands.key (token u edge.nonce) id → Precedes new u id
    kept stands = record { nonce = edge.nonce; valid = valid; stands = record { key = edge.stands.key; here = stands }; differ = edge.differ }

-- a walk from a record that isn't settled yet stays
pub walk_on : {old new : View} (a id : TxnId) → Ancestor old a id → IsLater old new → settled new a ≡ false → Ancestor new a id
walk_on _ _ (Leads.Here id) later unsettled = Leads.Here id
walk_on _ _ (Leads.Then a u id walk edge) later unsettled =
    let rest = walk_on a u walk later unsettled in
    ⊎_elim (λ kept. Leads.Then a u id rest kept) (λ clean. absurd (cc (clean a rest, unsettled))) (edge_on later u id edge)

pub carry_sealed : {old new : View} → NothingNewBefore old new → (id : TxnId) → was_prepared old id ≡ true → Sealed old id → Sealed new id
carry_sealed back id d sealed = λ a x walk stands.
    let was = walk_back a id walk back d sealed in
    back.decides x.id (sealed a x was (record { key = stands.key; here = back.stands stands.key x a (decided_ancestor a id was d) stands.here }))

pub carry_clean : {old new : View} → NothingNewBefore old new → IsOrderly old → (id : TxnId) → IsClean old id → IsClean new id
carry_clean {old = old} back o id clean = λ a walk.
    let c = chosen_if_settled old id (clean id (Leads.Here id)) in
    back.settles a (clean a (walk_back a id walk back (decided_if_chosen old id c) (o.sealed id c)))

pub carry_spent : {old new : View} → NothingNewBefore old new → IsOrderly old → (x : Token) → IsSpent old x → IsSpent new x
carry_spent back o x (inl stale) = inl (record { decides = back.decides x.id stale.decides; other = λ e. stale.other (sym (back.nonces x.id stale.decides) ∙ e) })
carry_spent back o x (inr clean) = inr (carry_clean back o x.id clean)

pub carry_ready : {old new : View} → IsLater old new → (id : TxnId) → was_prepared old id ≡ true → settled new id ≡ false → IsReady old id → IsReady new id
carry_ready {old = old} {new = new} later id d unsettled ready = record {
  sealed = carry_sealed later.back id d ready.sealed;
  first = record {
    back = λ a walk other open_. walk_on id a (ready.first.back a (was a walk) other (before a open_)) later unsettled;
    least = λ a walk other open_. ready.first.least a (was a walk) other (before a open_);
  };
}
  where
    was : (a : TxnId) → Ancestor new a id → Ancestor old a id
    was a walk = walk_back a id walk later.back d ready.sealed

    before : (a : TxnId) → settled new a ≡ false → settled old a ≡ false
    before a e = false_back (settled old a) (settled new a) (later.back.settles a) e
