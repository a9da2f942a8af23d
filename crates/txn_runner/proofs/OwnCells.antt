-- The cells of a transaction: its own record and its moves, and the document of its operation.
use Rattle.std.proofs.Common.{◌≡◌, ℕ, ℤ, true, List, [], ◌∷◌, Option, Some, None, is_some, refl, ap, ◌∙◌, subst}
use Rattle.std.specs.FinMap.{get}
use Rattle.std.specs.List.{list_all}
use Rattle.std.specs.Option.{option_and_then}
use Rattle.std.proofs.lemmas.Bool.{and_parts}
use Rattle.txn_key.specs.declared.key.Key.{Key}
use Rattle.txn_record.specs.States.{was_prepared_state}
use Rattle.txn_record.specs.declared.op.Op.{Op}
use Rattle.txn_record.specs.declared.record.Record.{Record}
use Rattle.txn_record.specs.declared.state.State.{State}
use Rattle.txn_record.specs.declared.state.State.TheVariants as state
use Rattle.store_trait.specs.Cells.{as_doc}
use Rattle.store_trait.specs.Contents.{Content}
use Rattle.store_trait.specs.Edits.{hit, edited, moved}
use Rattle.store_laws.specs.Soundness.{IsSound}
use Rattle.store_laws.specs.View.{look, record_at, doc_at, was_prepared, state_passes}
use Rattle.store_trait.specs.declared.cell.Cell.{Cell}
use Rattle.store_trait.specs.declared.cell.Cell.TheVariants as cell
use Rattle.store_trait.specs.declared.cell.DocCell.{DocCell}
use Rattle.store_trait.specs.declared.edit.Edit.TheVariants as edit
use Rattle.store_trait.specs.declared.name.Name.TheVariants as name
use Rattle.store_laws.proofs.cells.Hits.{move_hit, move_must}
use Rattle.txn_runner.specs.Settling.{stored, IsThere, HasDocuments}
use Rattle.txn_runner.specs.Store.{has_document}
use Rattle.txn_runner.specs.declared.waiting.Waiting.{Waiting}

pub same_some : {A : Type 0} (o : Option A) (x y : A) → o ≡ Some x → o ≡ Some y → y ≡ x
same_some o x y p q = cc

-- the document of a key, of which the store has one
pub doc_found : (c : Content) → IsSound c → (key : Key) (P : Type 0) (found : Option Cell) → get c (name.Doc key) ≡ found → is_some found ≡ true → ((doc : DocCell) → doc_at c key ≡ Some doc → P) → P
unfolding doc_at
doc_found c s key P None e some then_ = absurd (cc)
doc_found c s key P (Some (cell.Record rec)) e some then_ = absurd (cc (s.kinds (name.Doc key) (cell.Record rec) e))
doc_found c s key P (Some (cell.Stash stash)) e some then_ = absurd (cc (s.kinds (name.Doc key) (cell.Stash stash) e))
doc_found c s key P (Some (cell.Nonce number)) e some then_ = absurd (cc (s.kinds (name.Doc key) (cell.Nonce number) e))
doc_found c s key P (Some (cell.Doc doc)) e some then_ = then_ doc (ap (λ (o : Option Cell). option_and_then as_doc o) e)

-- what a move of the transaction's own record leaves
pub moved_there : (c : Content) (txn : Waiting) (from to : State) (nonce given : Option ℕ) (revnos numbers : Option (List ℤ)) → IsThere c txn from nonce revnos
    → record_at (edited c (name.Record txn.id) (edit.Move from to given numbers)) txn.id ≡ Some (moved to given numbers (stored txn from nonce revnos))
moved_there c txn from to nonce given revnos numbers there =
    let m = move_hit c txn.id from to given numbers (move_must c txn.id from to given numbers (stored txn from nonce revnos) there refl) in
    m.now ∙ ap (λ (rec : Record). Some (moved to given numbers rec)) (same_some _ _ _ there m.there)

-- each move of the record finds it
pub move_hits : (c : Content) (txn : Waiting) (from to : State) (nonce given : Option ℕ) (revnos numbers : Option (List ℤ)) → IsThere c txn from nonce revnos
    → is_some (hit (edit.Move from to given numbers) (name.Record txn.id) (get c (name.Record txn.id))) ≡ true
move_hits c txn from to nonce given revnos numbers there = move_must c txn.id from to given numbers (stored txn from nonce revnos) there refl

-- a prepared record was prepared
pub decided_now : (c : Content) (txn : Waiting) (nonce : ℕ) → IsThere c txn state.Prepared (Some nonce) None → was_prepared (look c) txn.id ≡ true
unfolding look was_prepared
decided_now c txn nonce there = ap (λ (o : Option Record). state_passes was_prepared_state o) there

-- the document of the one operation is there
pub has_doc : (c : Content) (txn : Waiting) (op : Op) → txn.ops ≡ op ∷ [] → HasDocuments c txn → has_document c op.key ≡ true
has_doc c txn op one docs = (and_parts _ _ (subst (λ (ops : List Op). list_all (λ (o : Op). has_document c o.key) ops ≡ true) one docs)).0
