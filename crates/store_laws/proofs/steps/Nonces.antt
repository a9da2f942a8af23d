-- Which nonces records come to have.
use Rattle.std.proofs.Common.{◌≡◌, ℕ, ◌<◌, Bool, true, false, cond, Option, Some, None, IfSome, List, ℤ, ◌⊎◌, inl, inr, sym, ap, ◌∙◌, refl, subst}
use Rattle.std.proofs.lemmas.Option.{same_Some}
use Rattle.std.specs.Option.{option_and_then}
use Rattle.std.specs.FinMap.{get, insert}
use Rattle.txn_key.specs.declared.id.TxnId.{TxnId}
use Rattle.txn_record.specs.States.{was_prepared_state}
use Rattle.txn_record.specs.declared.record.Record.{Record}
use Rattle.txn_record.specs.declared.state.State.{State}
use Rattle.txn_record.specs.declared.state.State.TheVariants as state
use Rattle.store_trait.specs.Edits.{moved, given_or, edited, put_under, puts, hit_insert_record}
use Rattle.store_trait.specs.Names.{same_id}
use Rattle.txn_key.specs.declared.key.Key.{Key}
use Rattle.store_trait.specs.declared.edit.Edit.{Edit}
use Rattle.store_trait.specs.declared.cell.Cell.{Cell}
use Rattle.store_trait.specs.Cells.{as_record}
use Rattle.store_trait.specs.declared.cell.Cell.TheVariants as cell
use Rattle.store_trait.specs.declared.edit.Edit.TheVariants as edit
use Rattle.store_trait.specs.declared.name.Name.TheVariants as name
use Rattle.store_laws.specs.Nonces.{NoncesCome, NoncesStay}
use Rattle.store_laws.proofs.cells.AfterEdits.{record_elsewhere}
use Rattle.store_laws.proofs.steps.RecordEdits.{stored_numbers}
use Rattle.store_laws.proofs.cells.Looks.{record_looks}
use Rattle.store_laws.proofs.cells.Misses.{by_move}
use Rattle.store_laws.proofs.views.Moves.{each_record, put_here}
use Rattle.store_laws.proofs.chains.Numbers.{unnumbered_nonce}
use Rattle.store_laws.proofs.views.Shapes.{ChangesRecord}
use Rattle.store_laws.proofs.views.Views.{valid_nonce_of}
use Rattle.store_trait.specs.Contents.{Content}
use Rattle.store_laws.specs.Soundness.{IsSound, is_numbered_record}
use Rattle.store_laws.specs.View.{look, record_at, counter, valid_nonce, nonce_if_prepared}
use Rattle.store_laws.proofs.cells.Parts.{parts}

nonce_kept : (rec : Record) (nonce : ℕ) → nonce_if_prepared rec ≡ Some nonce → rec.nonce ≡ Some nonce
nonce_kept rec nonce = go (was_prepared_state rec.state)
  where
    go : (b : Bool) → cond b rec.nonce None ≡ Some nonce → rec.nonce ≡ Some nonce
    go true e = e
    go false e = cc

kept_below : (limit nonce : ℕ) (o : Option ℕ) → IfSome o (λ n. n < limit) → o ≡ Some nonce → nonce < limit
kept_below limit nonce None h e = cc
kept_below limit nonce (Some n) h e = subst (λ (m : ℕ). m < limit) (same_Some n nonce e) h

below_at : (limit nonce : ℕ) (found : Option Record) → ((rec : Record) → found ≡ Some rec → IfSome rec.nonce (λ n. n < limit)) → option_and_then nonce_if_prepared found ≡ Some nonce → nonce < limit
below_at limit nonce None below e = cc
below_at limit nonce (Some rec) below e = kept_below limit nonce rec.nonce (below rec refl) (nonce_kept rec nonce e)

-- the nonce of a prepared record was drawn
pub nonce_below : (c : Content) (id : TxnId) (nonce : ℕ) → IsSound c → valid_nonce (look c) id ≡ Some nonce → nonce < counter c
unfolding look valid_nonce
nonce_below c id nonce s e = below_at (counter c) nonce (record_at c id) ((parts c s).record_nonces id) e

-- a preparing record has none
pub preparing_none : (c : Content) (id : TxnId) (rec : Record) → record_at c id ≡ Some rec → rec.state ≡ state.Preparing → valid_nonce (look c) id ≡ None
unfolding look valid_nonce
preparing_none c id rec there prepares = ap (option_and_then nonce_if_prepared) there ∙ ap (λ (b : Bool). cond b rec.nonce None) (ap was_prepared_state prepares)

-- records that stay have the nonces that they had
pub nonces_same : (c d : Content) (id : TxnId) → record_at d id ≡ record_at c id → valid_nonce (look d) id ≡ valid_nonce (look c) id
unfolding look valid_nonce
nonces_same c d id same = ap (option_and_then nonce_if_prepared) same

-- Where a nonce comes from that a record comes to have.

-- a record with a nonce was prepared
undecided_none : (rec : Record) → is_numbered_record rec ≡ true → (nonce : ℕ) → rec.nonce ≡ Some nonce → was_prepared_state rec.state ≡ true
undecided_none rec numbered nonce e = go rec.state (λ now. unnumbered_nonce rec numbered now)
  where
    go : (s : State) → (s ≡ state.Preparing → rec.nonce ≡ None) → was_prepared_state s ≡ true
    go state.Preparing none = absurd (cc (none refl, e))
    go _ none = refl

kept_valid : (c : Content) (id : TxnId) (rec : Record) (nonce : ℕ) → IsSound c → record_at c id ≡ Some rec → rec.nonce ≡ Some nonce → valid_nonce (look c) id ≡ Some nonce
unfolding look
kept_valid c id rec nonce s there e = valid_nonce_of (look c) id rec there (undecided_none rec (stored_numbers c id rec s there) nonce e) ∙ e

-- after a move each record has the nonce that it had, or the one given to the record that moved
moved_comes : (c : Content) (id : TxnId) (to : State) (drawn : Option ℕ) (revnos : Option (List ℤ)) → IsSound c → (was : Record) → record_at c id ≡ Some was → NoncesCome (look c) (look (insert c (name.Record id) (cell.Record (moved to drawn revnos was)))) id drawn
unfolding look valid_nonce
moved_comes c id to drawn revnos s was there = record {
  from = each_record change.puts (λ i. (nonce : ℕ) → valid_nonce (look d) i ≡ Some nonce → (valid_nonce (look c) i ≡ Some nonce) ⊎ (drawn ≡ Some nonce) × (i ≡ id))
      (λ nonce e. here drawn nonce (nonce_kept rec nonce (sym (ap (option_and_then nonce_if_prepared) (put_here id rec change.puts)) ∙ e)))
      (λ i same nonce e. inl (sym (nonces_same c d i same) ∙ e));
}
  where
    rec : Record
    rec = moved to drawn revnos was

    d : Content
    d = insert c (name.Record id) (cell.Record rec)

    change : ChangesRecord (look c) (look d) id rec
    change = record_looks c id rec

    here : (given : Option ℕ) (nonce : ℕ) → given_or given was.nonce ≡ Some nonce → (valid_nonce (look c) id ≡ Some nonce) ⊎ (given ≡ Some nonce) × (id ≡ id)
    here None nonce e = inl (kept_valid c id was nonce s there e)
    here (Some n) nonce e = inr (e, refl)

pub move_comes : (c : Content) (id : TxnId) (from to : State) (drawn : Option ℕ) (revnos : Option (List ℤ)) → IsSound c → NoncesCome (look c) (look (edited c (name.Record id) (edit.Move from to drawn revnos))) id drawn
move_comes c id from to drawn revnos s = by_move c id from to drawn revnos (λ d. NoncesCome (look c) (look d) id drawn) (record { from = λ i nonce e. inl e }) (λ was there now. moved_comes c id to drawn revnos s was there) (get c (name.Record id)) refl

-- after other edits each has the nonce that it had

pub doc_nonces : (c : Content) (key : Key) (e : Edit) → NoncesStay (look c) (look (edited c (name.Doc key) e))
doc_nonces c key e = record { same = λ id. nonces_same c (edited c (name.Doc key) e) id (record_elsewhere c (name.Doc key) e id (λ h. cc h)) }

pub stash_nonces : (c : Content) (key : Key) (e : Edit) → NoncesStay (look c) (look (edited c (name.Stash key) e))
stash_nonces c key e = record { same = λ id. nonces_same c (edited c (name.Stash key) e) id (record_elsewhere c (name.Stash key) e id (λ h. cc h)) }

pub draw_nonces : (c : Content) (e : Edit) → NoncesStay (look c) (look (edited c name.Nonce e))
draw_nonces c e = record { same = λ id. nonces_same c (edited c name.Nonce e) id (record_elsewhere c name.Nonce e id (λ h. cc h)) }

absent_none : (c : Content) (id : TxnId) → record_at c id ≡ None → valid_nonce (look c) id ≡ None
unfolding look valid_nonce
absent_none c id absent = ap (option_and_then nonce_if_prepared) absent

inserted_nonces : (c : Content) (id : TxnId) (rec : Record) → rec.state ≡ state.Preparing → (found : Option Cell) → get c (name.Record id) ≡ found → NoncesStay (look c) (look (put_under c (name.Record id) (hit_insert_record rec (name.Record id) found)))
unfolding look record_at
inserted_nonces c id rec prepares (Some x) e = record { same = λ i. refl }
inserted_nonces c id rec prepares None e = go (same_id id rec.id)
  where
    d : Content
    d = insert c (name.Record id) (cell.Record rec)

    change : ChangesRecord (look c) (look d) id rec
    change = record_looks c id rec

    here : valid_nonce (look d) id ≡ valid_nonce (look c) id
    here = preparing_none d id rec (put_here id rec change.puts) prepares ∙ sym (absent_none c id (ap (option_and_then as_record) e))

    go : (t : Bool) → NoncesStay (look c) (look (put_under c (name.Record id) (cond t (puts (cell.Record rec)) None)))
    go true = record { same = each_record change.puts (λ i. valid_nonce (look d) i ≡ valid_nonce (look c) i) here (λ i same. nonces_same c d i same) }
    go false = record { same = λ i. refl }

pub insert_nonces : (c : Content) (id : TxnId) (rec : Record) → rec.state ≡ state.Preparing → NoncesStay (look c) (look (edited c (name.Record id) (edit.InsertRecord rec)))
insert_nonces c id rec prepares = inserted_nonces c id rec prepares (get c (name.Record id)) refl
