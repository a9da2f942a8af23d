-- The meaning of a content from its records and from what is held.
use Rattle.std.proofs.Common.{◌≡◌, List, [], ◌∷◌, ◌++◌, sym, ap, ◌∙◌, refl, if◌then◌else◌, nat_le, unsigned_abs, ℤ, append_assoc}
use mathlib.Core.Path.{fun_ext}
use Rattle.std.specs.Prelude.{option_to_list, unwrap_or}
use Rattle.std.specs.FinMap.{get, insert}
use Rattle.std.specs.List.{flat_map}
use Rattle.txn_key.specs.declared.id.TxnId.{TxnId}
use Rattle.txn_key.specs.declared.key.Key.{Key}
use Rattle.txn_record.specs.Effects.{effect}
use Rattle.txn_record.specs.declared.op.Op.{Op}
use Rattle.txn_record.specs.declared.record.Record.{Record}
use Rattle.txn_record.specs.declared.state.State.TheVariants as state
use Rattle.store_trait.specs.Contents.{Content}
use Rattle.store_laws.specs.Meaning.{meaning, pending, pending_of, not_done, records, bodies}
use Rattle.store_trait.specs.Names.{same_state}
use Rattle.store_laws.specs.View.{View, look, record_at, epoch_at}
use Rattle.store_trait.specs.declared.cell.Cell.TheVariants as cell
use Rattle.store_trait.specs.declared.name.Name.TheVariants as name
use Rattle.store_laws.proofs.meanings.Bodies.{body_in, get-bodies}
use Rattle.store_laws.proofs.cells.Records.{HasKinds, record_split}
use Rattle.store_laws.proofs.meanings.Runs.{run_on, get-effect, same_docs}
use Rattle.store_laws.proofs.views.Shapes.{SameHeld}

-- the body under a key: what its owner holds, with all that is pending
pub get-meaning : (c : Content) (key : Key) → get (meaning c) key ≡ run_on key (pending c) (body_in ((look c).held_at key))
get-meaning c key = get-effect key (pending c) (bodies c) ∙ ap (run_on key (pending c)) (get-bodies c key)

pub bodies-same : (c d : Content) → SameHeld (look c) (look d) → bodies d ≡ bodies c
bodies-same c d same = same_docs (bodies d) (bodies c) (λ key. get-bodies d key ∙ ap body_in (same.held key) ∙ sym (get-bodies c key))

not_done-same : (v w : View) → SameHeld v w → (ops : List Op) (revnos : List ℤ) → not_done w ops revnos ≡ not_done v ops revnos
not_done-same v w same [] revnos = refl
not_done-same v w same (op ∷ ops) [] = refl
not_done-same v w same (op ∷ ops) (revno ∷ revnos) =
    rw (same.held op.key) (ap (λ (rest : List Op). if nat_le (epoch_at v op.key) (unsigned_abs revno) then op ∷ rest else rest) (not_done-same v w same ops revnos))

pub pending_of-same : (v w : View) → SameHeld v w → (rec : Record) → pending_of w rec ≡ pending_of v rec
pending_of-same v w same rec = ap (λ (ops : List Op). if same_state state.Applying rec.state then ops else []) (not_done-same v w same rec.ops (unwrap_or rec.revnos []))

pub pending-same : (c d : Content) → SameHeld (look c) (look d) → (recs : List Record) → flat_map (pending_of (look d)) recs ≡ flat_map (pending_of (look c)) recs
pending-same c d same recs = ap (λ (f : Record → List Op). flat_map f recs) (fun_ext (pending_of-same (look c) (look d) same))

-- the same records over the same holdings mean the same
pub meaning-same : (c d : Content) → records d ≡ records c → SameHeld (look c) (look d) → meaning d ≡ meaning c
meaning-same c d recs same =
    let to_do : pending d ≡ pending c = pending-same c d same (records d) ∙ ap (flat_map (pending_of (look c))) recs in
    λ i. effect (to_do i) (bodies-same c d same i)

pub flat_map-append : {X A : Type 0} (f : X → List A) (xs ys : List X) → flat_map f (xs ++ ys) ≡ flat_map f xs ++ flat_map f ys
flat_map-append f [] ys = refl
flat_map-append f (x ∷ xs) ys = ap (λ (l : List _). f x ++ l) (flat_map-append f xs ys) ∙ sym (append_assoc (f x) (flat_map f xs) (flat_map f ys))

-- a record that is put and has to do what the one before it had
pub meaning-put : (c : Content) (id : TxnId) (rec : Record) → HasKinds c
    → SameHeld (look c) (look (insert c (name.Record id) (cell.Record rec)))
    → pending_of (look c) rec ≡ flat_map (pending_of (look c)) (option_to_list (record_at c id))
    → meaning (insert c (name.Record id) (cell.Record rec)) ≡ meaning c
meaning-put c id rec kinds same to_do =
    let d = insert c (name.Record id) (cell.Record rec) in
    let s = record_split c kinds id rec in
    let f = pending_of (look c) in
    let now : pending d ≡ flat_map f s.pre ++ (f rec ++ flat_map f s.post) = pending-same c d same (records d) ∙ ap (flat_map f) s.after ∙ flat_map-append f s.pre (rec ∷ s.post) in
    let was : pending c ≡ flat_map f s.pre ++ (flat_map f (option_to_list (record_at c id)) ++ flat_map f s.post) =
    ap (flat_map f) s.before ∙ flat_map-append f s.pre _ ∙ ap (λ (l : List Op). flat_map f s.pre ++ l) (flat_map-append f (option_to_list (record_at c id)) s.post) in
    let here : pending d ≡ pending c = now ∙ ap (λ (l : List Op). flat_map f s.pre ++ (l ++ flat_map f s.post)) to_do ∙ sym was in
    λ i. effect (here i) (bodies-same c d same i)
