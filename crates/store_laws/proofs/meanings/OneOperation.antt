-- A transaction of one operation: its tests and its chain, from what the owner of its key holds.
use Rattle.std.proofs.Common.{◌≡◌, negsuc, Bool, true, false, ◌&&◌, Option, Some, None, List, [], ◌∷◌, inl, inr, sym, ap, ◌∙◌, refl, subst, if◌then◌else◌}
use Rattle.std.proofs.lemmas.Bool.{and_parts}
use Rattle.std.specs.FinMap.{get}
use Rattle.doc_value.specs.declared.value.Value.{Value}
use Rattle.txn_key.specs.declared.id.TxnId.{TxnId}
use Rattle.txn_key.specs.declared.key.Key.{Key}
use Rattle.txn_record.specs.Effects.{tests, change_fits, assertion_holds}
use Rattle.txn_record.specs.Revnos.{is_within, number_after, first_on}
use Rattle.txn_record.specs.declared.op.Op.{Op}
use Rattle.txn_record.specs.declared.record.Record.{Record}
use Rattle.txn_record.specs.declared.state.State.TheVariants as state
use Rattle.store_trait.specs.Contents.{Content}
use Rattle.store_laws.specs.Meaning.{meaning}
use Rattle.store_trait.specs.Owners.{owner_of}
use Rattle.store_laws.specs.Readiness.{IsReady}
use Rattle.store_laws.specs.Soundness.{IsSound}
use Rattle.store_laws.specs.View.{Number, look, record_at, doc_at, stash_at, IsOn, held_number, owner_held, by_side, doc_held, stash_held}
use Rattle.store_trait.specs.declared.cell.Cell.TheVariants as cell
use Rattle.store_trait.specs.declared.cell.DocCell.{DocCell}
use Rattle.store_trait.specs.declared.cell.StashCell.{StashCell}
use Rattle.store_trait.specs.declared.name.Name.TheVariants as name
use Rattle.store_trait.specs.declared.side.Side.{Side}
use Rattle.store_trait.specs.declared.side.Side.TheVariants as side
use Rattle.store_laws.proofs.steps.DecidingMoves.{free_keys}
use Rattle.store_laws.proofs.meanings.Effects.{meaning-free}
use Rattle.store_laws.proofs.meanings.Runs.{same_key-itself}
use Rattle.store_laws.specs.Chains.{IsChainFrom}
use Rattle.store_laws.specs.Held.{body_in}
use Rattle.store_laws.proofs.cells.Parts.{parts}
use Rattle.store_laws.proofs.cells.Under.{doc_under, stash_under}

and_ends : (holds fits : Bool) → ((holds && true) && (fits && true)) ≡ (holds && fits)
and_ends true true = refl
and_ends true false = refl
and_ends false fits = refl

pub tests_one : (c : Content) (id : TxnId) (rec : Record) (op : Op) → IsSound c → record_at c id ≡ Some rec → rec.state ≡ state.Prepared → IsReady (look c) id → rec.ops ≡ op ∷ []
    → tests rec.ops (meaning c) ≡ (assertion_holds op.assert (body_in ((look c).held_at op.key)) && change_fits op.change (body_in ((look c).held_at op.key)))
tests_one c id rec op s there from ready one =
    let means : get (meaning c) op.key ≡ body_in ((look c).held_at op.key) =
    meaning-free c s.kinds op.key (free_keys c id rec s there from ready op.key (subst (IsOn op.key) (sym one) (inl refl))) in
    ap (λ (ops : List Op). tests ops (meaning c)) one
    ∙ and_ends (assertion_holds op.assert (get (meaning c) op.key)) (change_fits op.change (get (meaning c) op.key))
    ∙ ap (λ (found : Option Value). assertion_holds op.assert found && change_fits op.change found) means

-- every owner's number is within the limits
within_held : (doc : Option DocCell) (stash : Option StashCell) → ((d : DocCell) → doc ≡ Some d → is_within d.revno ≡ true) → ((e : StashCell) → stash ≡ Some e → is_within e.revno ≡ true)
    → is_within (held_number (owner_held doc stash)) ≡ true
within_held doc stash docs stashes = by (owner_of doc stash)
  where
    of_doc : (found : Option DocCell) → doc ≡ found → is_within (held_number (doc_held found)) ≡ true
    of_doc None e = refl
    of_doc (Some d) e = docs d e

    of_stash : (found : Option StashCell) → stash ≡ found → is_within (held_number (stash_held found)) ≡ true
    of_stash None e = refl
    of_stash (Some d) e = stashes d e

    by : (s : Side) → is_within (held_number (by_side s (Number (negsuc 0)) (doc_held doc) (stash_held stash))) ≡ true
    by side.Neither = refl
    by side.Document = of_doc doc refl
    by side.Stash = of_stash stash refl

pub within_owner : (c : Content) → IsSound c → (key : Key) → is_within (held_number ((look c).held_at key)) ≡ true
unfolding look
within_owner c s key = within_held (doc_at c key) (stash_at c key)
    (λ d e. (and_parts _ _ ((parts c s).numbers (name.Doc key) (cell.Doc d) (doc_under c key d e))).1)
    (λ x e. (and_parts _ _ ((parts c s).numbers (name.Stash key) (cell.Stash x) (stash_under c key x e))).1)

-- the chain of one operation is the owner's number, where the next one is within the limits
pub chain_one : (c : Content) (op : Op) → IsSound c → is_within (number_after op.change (held_number ((look c).held_at op.key))) ≡ true
    → IsChainFrom (look c) (op ∷ []) (held_number ((look c).held_at op.key) ∷ [])
chain_one c op s next = record {
  in_turn = refl;
  within = λ i. (within_owner c s op.key i && next i) && true;
  begins = λ key on. at key on;
}
  where
    at : (key : Key) → IsOn key (op ∷ []) → first_on key (op ∷ []) (held_number ((look c).held_at op.key) ∷ []) ≡ Some (held_number ((look c).held_at key))
    at key (inl e) =
        subst (λ (k : Key). first_on k (op ∷ []) (held_number ((look c).held_at op.key) ∷ []) ≡ Some (held_number ((look c).held_at k))) e
        (ap (λ (b : Bool). if b then Some (held_number ((look c).held_at op.key)) else None) (same_key-itself op.key))
    at key (inr on) = absurd on
