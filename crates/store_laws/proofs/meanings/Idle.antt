-- Records that have nothing to do on a key.
use Rattle.std.proofs.Common.{◌≡◌, ◌≢◌, Bool, true, false, Option, Some, List, [], ◌∷◌, ◌⊎◌, inl, inr, sym, ap, ◌∙◌, refl, subst, if◌then◌else◌, nat_le, unsigned_abs, ℤ}
use Rattle.std.specs.Prelude.{unwrap_or}
use Rattle.std.specs.List.{AllByRecursion, flat_map}
use Rattle.doc_value.specs.declared.value.Value.{Value}
use Rattle.txn_key.specs.declared.id.TxnId.{TxnId}
use Rattle.txn_key.specs.declared.key.Key.{Key}
use Rattle.txn_key.specs.Keys.{same_key}
use Rattle.txn_record.specs.declared.op.Op.{Op}
use Rattle.txn_record.specs.declared.record.Record.{Record}
use Rattle.txn_record.specs.declared.state.State.TheVariants as state
use Rattle.txn_record.specs.Effects.{body_after}
use Rattle.store_trait.specs.Contents.{Content}
use Rattle.store_laws.specs.Meaning.{pending_of, not_done}
use Rattle.store_trait.specs.Names.{same_state}
use Rattle.store_laws.specs.View.{View, Held, look, record_at, applying, epoch_at, held_number, HasKey, IsOn}
use Rattle.store_trait.specs.declared.name.Name.{Name}
use Rattle.store_trait.specs.declared.name.Name.TheVariants as name
use Rattle.store_laws.proofs.cells.Records.{IsStanding}
use Rattle.store_laws.proofs.meanings.Runs.{run_on, run_on-append, run_on-away, same_key-equal, same_key-other}
use Rattle.store_laws.proofs.views.Views.{applying_at}

-- no applying record is on the key
abbrev pub NoneApplies : View → Key → Type 0
NoneApplies view key = (id : TxnId) → applying view id ≡ true → HasKey view id key → ⊥

-- no applying record but this one is on the key
abbrev pub OnlyApplies : View → TxnId → Key → Type 0
OnlyApplies view only key = (id : TxnId) → applying view id ≡ true → HasKey view id key → id ≢ only → ⊥

pub is_on : (key : Key) (ops : List Op) → IsOn key ops ⊎ (IsOn key ops → ⊥)
is_on key [] = inr (λ on. on)
is_on key (op ∷ ops) = by (same_key op.key key) refl (is_on key ops)
  where
    by : (b : Bool) → same_key op.key key ≡ b → IsOn key ops ⊎ (IsOn key ops → ⊥) → IsOn key (op ∷ ops) ⊎ (IsOn key (op ∷ ops) → ⊥)
    by true e rest = inl (inl (same_key-equal op.key key e))
    by false e (inl on) = inl (inr on)
    by false e (inr off) = inr (λ on. neither on)
      where
        neither : IsOn key (op ∷ ops) → ⊥
        neither (inl q) = same_key-other op.key key e q
        neither (inr on) = off on

on_not_done : (view : View) (key : Key) (ops : List Op) (revnos : List ℤ) → IsOn key (not_done view ops revnos) → IsOn key ops
on_not_done view key [] revnos on = on
on_not_done view key (op ∷ ops) [] on = absurd on
on_not_done view key (op ∷ ops) (revno ∷ revnos) on = by (nat_le (epoch_at view op.key) (unsigned_abs revno)) (on_not_done view key ops revnos) on
  where
    by : (b : Bool) → (IsOn key (not_done view ops revnos) → IsOn key ops) → IsOn key (if b then op ∷ not_done view ops revnos else not_done view ops revnos) → IsOn key (op ∷ ops)
    by true rest (inl q) = inl q
    by true rest (inr h) = inr (rest h)
    by false rest h = inr (rest h)

on_if : (key : Key) (b : Bool) (ops : List Op) → IsOn key (if b then ops else []) → (b ≡ true) × IsOn key ops
on_if key true ops on = (refl, on)
on_if key false ops on = absurd on

pub on_pending : (view : View) (key : Key) (rec : Record) → IsOn key (pending_of view rec) → (same_state state.Applying rec.state ≡ true) × IsOn key rec.ops
on_pending view key rec on =
    let parts = on_if key (same_state state.Applying rec.state) (not_done view rec.ops (unwrap_or rec.revnos [])) on in
    (parts.0, on_not_done view key rec.ops (unwrap_or rec.revnos []) parts.1)

-- a record that stands in the content and still has to do something on a key is applying and has the key
applies_there : (c : Content) (view : View) (key : Key) (rec : Record) → record_at c rec.id ≡ Some rec → IsOn key (pending_of view rec) → (applying (look c) rec.id ≡ true) × HasKey (look c) rec.id key
unfolding look
applies_there c view key rec there on =
    let parts = on_pending view key rec on in
    (applying_at (look c) rec.id rec there ∙ parts.0, record { rec = rec; there = there; on = parts.1 })

module _ (c : Content) (Known : Name → Type 0) (view : View) (key : Key) where
  idle : ((rec : Record) → IsStanding c Known rec → IsOn key (pending_of view rec) → ⊥)
      → (recs : List Record) → AllByRecursion (IsStanding c Known) recs → (body : Option Value) → run_on key (flat_map (pending_of view) recs) body ≡ body
  idle away [] all body = refl
  idle away (rec ∷ recs) all body =
      run_on-append key (pending_of view rec) (flat_map (pending_of view) recs) body
      ∙ ap (run_on key (flat_map (pending_of view) recs)) (run_on-away key (pending_of view rec) body (away rec all.0))
      ∙ idle away recs all.1 body

  pub idle-none : NoneApplies (look c) key → (recs : List Record) → AllByRecursion (IsStanding c Known) recs → (body : Option Value) → run_on key (flat_map (pending_of view) recs) body ≡ body
  idle-none none = idle (λ rec stands on. let at = applies_there c view key rec stands.there on in none rec.id at.0 at.1)

pub idle-others : (c : Content) (only : TxnId) (view : View) (key : Key) → OnlyApplies (look c) only key
    → (recs : List Record) → AllByRecursion (IsStanding c (λ n. n ≢ name.Record only)) recs → (body : Option Value) → run_on key (flat_map (pending_of view) recs) body ≡ body
idle-others c only view key others =
    idle c (λ n. n ≢ name.Record only) view key (λ rec stands on. let at = applies_there c view key rec stands.there on in others rec.id at.0 at.1 (λ q. stands.known (ap name.Record q)))

-- what is held elsewhere doesn't matter to a key

module _ (v w : View) (key : Key) (same : w.held_at key ≡ v.held_at key) where
  not_done-at : (ops : List Op) (revnos : List ℤ) (body : Option Value) → run_on key (not_done w ops revnos) body ≡ run_on key (not_done v ops revnos) body
  not_done-at [] revnos body = refl
  not_done-at (op ∷ ops) [] body = refl
  not_done-at (op ∷ ops) (revno ∷ revnos) body = by (same_key key op.key) refl (not_done-at ops revnos)
    where
      at : View → Bool
      at view = nat_le (epoch_at view op.key) (unsigned_abs revno)

      skip : (t : Bool) (view : View) → same_key key op.key ≡ false → run_on key (if t then op ∷ not_done view ops revnos else not_done view ops revnos) body ≡ run_on key (not_done view ops revnos) body
      skip true view e = ap (λ (b : Bool). run_on key (not_done view ops revnos) (if b then body_after op.change body else body)) e
      skip false view e = refl

      both_ways : (t : Bool) → ((body : Option Value) → run_on key (not_done w ops revnos) body ≡ run_on key (not_done v ops revnos) body)
          → run_on key (if t then op ∷ not_done w ops revnos else not_done w ops revnos) body ≡ run_on key (if t then op ∷ not_done v ops revnos else not_done v ops revnos) body
      both_ways true rest = rest (if same_key key op.key then body_after op.change body else body)
      both_ways false rest = rest body

      by : (b : Bool) → same_key key op.key ≡ b → ((body : Option Value) → run_on key (not_done w ops revnos) body ≡ run_on key (not_done v ops revnos) body)
          → run_on key (if at w then op ∷ not_done w ops revnos else not_done w ops revnos) body ≡ run_on key (if at v then op ∷ not_done v ops revnos else not_done v ops revnos) body
      by true e rest =
          let held : w.held_at op.key ≡ v.held_at op.key = subst (λ (k : Key). w.held_at k ≡ v.held_at k) (same_key-equal key op.key e) same in
          let alike : at w ≡ at v = ap (λ (h : Held). nat_le (unsigned_abs (held_number h)) (unsigned_abs revno)) held in
          ap (λ (t : Bool). run_on key (if t then op ∷ not_done w ops revnos else not_done w ops revnos) body) alike ∙ both_ways (at v) rest
      by false e rest = skip (at w) w e ∙ rest body ∙ sym (skip (at v) v e)

  pending_of-at : (rec : Record) (body : Option Value) → run_on key (pending_of w rec) body ≡ run_on key (pending_of v rec) body
  pending_of-at rec body = by (same_state state.Applying rec.state)
    where
      by : (b : Bool) → run_on key (if b then not_done w rec.ops (unwrap_or rec.revnos []) else []) body ≡ run_on key (if b then not_done v rec.ops (unwrap_or rec.revnos []) else []) body
      by true = not_done-at rec.ops (unwrap_or rec.revnos []) body
      by false = refl

  pub pending-at : (recs : List Record) (body : Option Value) → run_on key (flat_map (pending_of w) recs) body ≡ run_on key (flat_map (pending_of v) recs) body
  pending-at [] body = refl
  pending-at (rec ∷ recs) body =
      run_on-append key (pending_of w rec) (flat_map (pending_of w) recs) body
      ∙ ap (run_on key (flat_map (pending_of w) recs)) (pending_of-at rec body)
      ∙ pending-at recs (run_on key (pending_of v rec) body)
      ∙ sym (run_on-append key (pending_of v rec) (flat_map (pending_of v) recs) body)

-- what a record has to do where all its keys hold the same
not_done-same : (v w : View) (ops : List Op) (revnos : List ℤ) → ((key : Key) → IsOn key ops → w.held_at key ≡ v.held_at key) → not_done w ops revnos ≡ not_done v ops revnos
not_done-same v w [] revnos same = refl
not_done-same v w (op ∷ ops) [] same = refl
not_done-same v w (op ∷ ops) (revno ∷ revnos) same =
    let alike : nat_le (epoch_at w op.key) (unsigned_abs revno) ≡ nat_le (epoch_at v op.key) (unsigned_abs revno) = ap (λ (h : Held). nat_le (unsigned_abs (held_number h)) (unsigned_abs revno)) (same op.key (inl refl)) in
    λ i. if alike i then op ∷ not_done-same v w ops revnos (λ key on. same key (inr on)) i else not_done-same v w ops revnos (λ key on. same key (inr on)) i

pub pending_of-keys : (v w : View) (rec : Record) → ((key : Key) → IsOn key rec.ops → w.held_at key ≡ v.held_at key) → pending_of w rec ≡ pending_of v rec
pending_of-keys v w rec same = ap (λ (ops : List Op). if same_state state.Applying rec.state then ops else []) (not_done-same v w rec.ops (unwrap_or rec.revnos []) same)

-- what an applying record has to do, by its operations and its numbers
pub pending_of-applying : (view : View) (rec : Record) (ops : List Op) (revnos : List ℤ) → rec.state ≡ state.Applying → rec.ops ≡ ops → rec.revnos ≡ Some revnos → pending_of view rec ≡ not_done view ops revnos
pending_of-applying view rec ops revnos applies o r = λ i. if same_state state.Applying (applies i) then not_done view (o i) (unwrap_or (r i) []) else []
