-- Cells that stay, be they owners or not.
use Rattle.std.proofs.Common.{◌≡◌, ℕ, ℤ, pos, negsuc, ◌≤◌, ◌<◌, if◌then◌else◌, le_of_eq, le_trans, lt_of_lt_of_le, true, not, Option, Some, None, inl, inr, ⊎_elim, sym, ap, ◌∙◌, refl, subst, unsigned_abs, arith}
use Rattle.std.proofs.lemmas.Bool.{and_parts}
use Rattle.std.proofs.lemmas.Bool.Decides.{nat_tests}
use Rattle.std.proofs.lemmas.Option.{same_Some}
use Rattle.std.specs.FinMap.{insert}
use Rattle.txn_key.specs.declared.id.TxnId.{TxnId}
use Rattle.txn_key.specs.declared.id.Token.{Token}
use Rattle.txn_key.specs.declared.key.Key.{Key}
use Rattle.txn_record.specs.Revnos.{is_present, is_within}
use Rattle.txn_record.specs.declared.record.Record.{Record}
use Rattle.store_trait.specs.Contents.{Content}
use Rattle.store_trait.specs.Owners.{epoch}
use Rattle.store_trait.specs.declared.cell.Cell.TheVariants as cell
use Rattle.store_trait.specs.declared.cell.DocCell.{DocCell}
use Rattle.store_trait.specs.declared.cell.StashCell.{StashCell}
use Rattle.store_trait.specs.declared.name.Name.TheVariants as name
use Rattle.store_laws.specs.Entries.{entry_epoch, stash_epoch, DocStays, CellsStay}
use Rattle.store_laws.specs.Soundness.{IsSound}
use Rattle.store_laws.specs.View.{doc_at, stash_at}
use Rattle.store_laws.proofs.views.Equals.{by_key}
use Rattle.store_laws.proofs.cells.Lookups
use Rattle.store_laws.proofs.cells.Looks.{put}
use Rattle.store_laws.proofs.cells.Parts.{parts}
use Rattle.store_laws.proofs.cells.Under.{stash_under}

-- An edit that leaves stash entries, makes no document, and changes a marked one only where it is behind.
pub record LeavesEntries (c d : Content) : Type 0 where
  pub entries : (key : Key) → stash_at d key ≡ stash_at c key
  pub docs : (key : Key) → doc_at c key ≡ None → doc_at d key ≡ None
  pub marked : (key : Key) (doc : DocCell) (mark : Token) → doc_at c key ≡ Some doc → doc.remove ≡ Some mark → DocStays d key doc

pub cells_stay : {c d : Content} → LeavesEntries c d → CellsStay c d
cells_stay leaves = record {
  epochs = λ key. le_of_eq (sym (ap entry_epoch (leaves.entries key)));
  docs = λ key doc stash now. leaves.docs key doc;
  marked_doc = leaves.marked;
  marked_entry = λ key entry mark found marked. inl (leaves.entries key ∙ found);
}

-- each key's two cells stay
pub leaves_cells : {c d : Content} → ((key : Key) → stash_at d key ≡ stash_at c key) → ((key : Key) → doc_at d key ≡ doc_at c key) → LeavesEntries c d
leaves_cells entries docs = record {
  entries = entries;
  docs = λ key none. docs key ∙ none;
  marked = λ key doc mark found marked. inl (docs key ∙ found);
}

-- a document is put in the place of another, which is unmarked or behind the stash entry
pub leaves_put_doc : (c : Content) (key : Key) (was doc : DocCell) → doc_at c key ≡ Some was → ((mark : Token) → was.remove ≡ Some mark → epoch was.revno < stash_epoch c key) → LeavesEntries c (put c key doc)
leaves_put_doc c key was doc found behind = record { entries = stashes; docs = none; marked = marked }
  where
    stashes : (k : Key) → stash_at (put c key doc) k ≡ stash_at c k
    stashes = Lookups.stash_at-put_doc c (cell.Doc doc) key

    none : (k : Key) → doc_at c k ≡ None → doc_at (put c key doc) k ≡ None
    none k gone =
        by_key k key (λ t. doc_at (put c key doc) k ≡ (if t then Some doc else doc_at c k) → doc_at (put c key doc) k ≡ None)
        (λ e now. absurd (cc (ap (doc_at c) e, found, gone)))
        (λ e now. now ∙ gone)
        (Lookups.doc_at-put_doc c (cell.Doc doc) key k)

    marked : (k : Key) (d : DocCell) (mark : Token) → doc_at c k ≡ Some d → d.remove ≡ Some mark → DocStays (put c key doc) k d
    marked k d mark there has =
        by_key k key (λ t. doc_at (put c key doc) k ≡ (if t then Some doc else doc_at c k) → DocStays (put c key doc) k d)
        (λ e now.
        let same : was ≡ d = same_Some was d (sym found ∙ sym (ap (doc_at c) e) ∙ there) in
        inr (subst (λ (n : ℕ). epoch d.revno < n) (ap entry_epoch (sym (ap (stash_at c) e) ∙ sym (stashes k)))
        (subst (λ (d : DocCell). epoch d.revno < stash_epoch c key) same (behind mark (ap (λ (d : DocCell). d.remove) same ∙ has)))))
        (λ e now. inl (now ∙ there))
        (Lookups.doc_at-put_doc c (cell.Doc doc) key k)

-- a record is put, or the counter

pub stays_put_record : (c : Content) (id : TxnId) (rec : Record) → CellsStay c (insert c (name.Record id) (cell.Record rec))
stays_put_record c id rec = cells_stay (leaves_cells (Lookups.stash_at-put_record c (cell.Record rec) id) (Lookups.doc_at-put_record c (cell.Record rec) id))

pub stays_put_nonce : (c : Content) (next : ℕ) → CellsStay c (insert c name.Nonce (cell.Nonce next))
stays_put_nonce c next = cells_stay (leaves_cells (Lookups.stash_at-put_nonce c (cell.Nonce next)) (Lookups.doc_at-put_nonce c (cell.Nonce next)))

-- One after another.

-- an entry's number is below 0, so its epoch is 1 at least
below_zero : (n : ℤ) → not (is_present n) ≡ true → 0 < unsigned_abs n
below_zero (pos k) e = absurd (grind (arith, nat_tests))
below_zero (negsuc k) e = omega arith

pub entry_counts : (c : Content) → IsSound c → (key : Key) (entry : StashCell) → stash_at c key ≡ Some entry → 0 < epoch entry.revno
entry_counts c s key entry found = below_zero entry.revno (and_parts (not (is_present entry.revno)) (is_within entry.revno) ((parts c s).numbers (name.Stash key) (cell.Stash entry) (stash_under c key entry found))).0

pub none_counts : (c : Content) → IsSound c → (key : Key) → stash_epoch c key ≤ 0 → stash_at c key ≡ None
none_counts c s key le = by (stash_at c key) refl
  where
    by : (o : Option StashCell) → stash_at c key ≡ o → stash_at c key ≡ None
    by None e = e
    by (Some entry) e = absurd (omega (arith, entry_counts c s key entry e, le, ap entry_epoch e))

pub cells_then : {a b c : Content} → IsSound b → CellsStay a b → CellsStay b c → CellsStay a c
cells_then {a = a} {b = b} {c = c} s one two = record {
  epochs = λ key. le_trans (one.epochs key) (two.epochs key);
  docs = λ key doc stash now.
      let between : stash_at b key ≡ None = none_counts b s key (subst (λ (n : ℕ). stash_epoch b key ≤ n) (ap entry_epoch now) (two.epochs key)) in
      two.docs key (one.docs key doc stash between) between now;
  marked_doc = λ key doc mark found marked. ⊎_elim (λ still. two.marked_doc key doc mark still marked) (λ less. inr (lt_of_lt_of_le less (two.epochs key))) (one.marked_doc key doc mark found marked);
  marked_entry = λ key entry mark found marked. ⊎_elim (λ still. two.marked_entry key entry mark still marked) (λ less. inr (lt_of_lt_of_le less (two.epochs key))) (one.marked_entry key entry mark found marked);
}
