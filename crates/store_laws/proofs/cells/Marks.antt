-- Marks and stash entries, where a cell is put.
use Rattle.std.proofs.Common.{◌≡◌, ◌≢◌, ℕ, ℤ, List, Bool, true, false, not, Option, Some, None, sym, ap, ◌∙◌, refl, subst, if◌then◌else◌, negsuc}
use Rattle.std.proofs.lemmas.Bool.{and_parts}
use Rattle.std.proofs.lemmas.Option.{same_Some}
use Rattle.std.specs.FinMap.{insert}
use Rattle.txn_key.specs.declared.id.TxnId.{TxnId}
use Rattle.txn_key.specs.declared.id.Token.{Token}
use Rattle.txn_key.specs.declared.key.Key.{Key}
use Rattle.txn_record.specs.Revnos.{has_effect, is_present, is_within}
use Rattle.txn_record.specs.declared.op.Change.{Change}
use Rattle.txn_record.specs.declared.op.Change.TheVariants as change
use Rattle.txn_record.specs.declared.record.Record.{Record}
use Rattle.txn_record.specs.declared.state.State.{State}
use Rattle.txn_record.specs.declared.state.State.TheVariants as state
use Rattle.store_trait.specs.Contents.{Content}
use Rattle.store_trait.specs.Owners.{owner_of, epoch}
use Rattle.store_trait.specs.declared.cell.Cell.TheVariants as cell
use Rattle.store_trait.specs.declared.cell.DocCell.{DocCell}
use Rattle.store_trait.specs.declared.cell.StashCell.{StashCell}
use Rattle.store_trait.specs.declared.name.Name.TheVariants as name
use Rattle.store_trait.specs.declared.side.Side.{Side}
use Rattle.store_trait.specs.declared.side.Side.TheVariants as side
use Rattle.store_laws.specs.View.{View, Held, Number, look, record_at, doc_at, stash_at, held_number, owner_held, by_side, doc_held, stash_held}
use Rattle.store_laws.specs.Soundness.{IsSound, IsMarkOf, is_removal, is_insertion}
use Rattle.store_laws.specs.Chains.{IsAt}
use Rattle.store_laws.proofs.views.Equals.{by_key}
use Rattle.store_laws.proofs.cells.Lookups
use Rattle.store_laws.proofs.cells.Looks.{put, record_looks, doc_records, doc_held_elsewhere}
use Rattle.store_laws.proofs.views.Moves.{each_record}
use Rattle.store_laws.proofs.cells.Owning.{owned_held, stash_below}
use Rattle.store_laws.proofs.cells.Parts.{HasMarks, HasMarksAt, parts}
use Rattle.store_laws.proofs.views.Shapes.{ChangesRecord, Counts}
use Rattle.store_laws.proofs.cells.Under.{doc_under}

-- The operation that a mark is of has an effect.

removal_acts : (ch : Change) (n : ℤ) → is_removal ch ≡ true → is_present n ≡ true → has_effect ch n ≡ true
removal_acts change.Remove n kind present = present
removal_acts _ n kind present = cc

insertion_acts : (ch : Change) (n : ℤ) → is_insertion ch ≡ true → is_present n ≡ false → has_effect ch n ≡ true
insertion_acts (change.Insert body) n kind absent = ap not absent
insertion_acts _ n kind absent = cc

pub mark_of_doc_acts : (c : Content) → IsSound c → (key : Key) (doc : DocCell) (mark : Token) → doc_at c key ≡ Some doc → owner_of (doc_at c key) (stash_at c key) ≡ side.Document
    → (m : IsMarkOf (look c) key mark is_removal) → has_effect m.op.change (held_number ((look c).held_at key)) ≡ true
unfolding look
mark_of_doc_acts c s key doc mark found owns m = removal_acts m.op.change _ m.kind (ap is_present number ∙ present)
  where
    number : held_number (owner_held (doc_at c key) (stash_at c key)) ≡ doc.revno
    number =
        ap (λ (d : Option DocCell). held_number (owner_held d (stash_at c key))) found
        ∙ ap held_number (owned_held doc (stash_at c key) (ap (λ (d : Option DocCell). owner_of d (stash_at c key)) (sym found) ∙ owns))

    present : is_present doc.revno ≡ true
    present = (and_parts (is_present doc.revno) (is_within doc.revno) ((parts c s).numbers (name.Doc key) (cell.Doc doc) (doc_under c key doc found))).0

pub mark_of_stash_acts : (c : Content) → IsSound c → (key : Key) (entry : StashCell) (mark : Token) → stash_at c key ≡ Some entry → owner_of (doc_at c key) (stash_at c key) ≡ side.Stash
    → (m : IsMarkOf (look c) key mark is_insertion) → has_effect m.op.change (held_number ((look c).held_at key)) ≡ true
unfolding look
mark_of_stash_acts c s key entry mark found owns m = insertion_acts m.op.change _ m.kind (ap is_present number ∙ stash_below c s key entry found)
  where
    number : held_number (owner_held (doc_at c key) (stash_at c key)) ≡ entry.revno
    number =
        ap (λ (o : Side). held_number (by_side o (Number (negsuc 0)) (doc_held (doc_at c key)) (stash_held (stash_at c key)))) owns
        ∙ ap (λ (e : Option StashCell). held_number (stash_held e)) found

-- Marks that stay.

pub mark_stays : {old new : View} (key : Key) (mark : Token) (is_kind : Change → Bool) → new.record_at mark.id ≡ old.record_at mark.id → new.held_at key ≡ old.held_at key → IsMarkOf old key mark is_kind → IsMarkOf new key mark is_kind
mark_stays key mark is_kind same held m = record {
  rec = m.rec;
  there = same ∙ m.there;
  applies = m.applies;
  nonce = m.nonce;
  numbers = m.numbers;
  numbered = m.numbered;
  op = m.op;
  stands = subst (λ (h : Held). IsAt m.op (held_number h) m.rec.ops m.numbers) (sym held) m.stands;
  on = m.on;
  kind = m.kind;
}

-- the marks of a key whose two cells stay
marks_same : (c : Content) (new : View) (key : Key) → HasMarksAt c key
    → ((mark : Token) (is_kind : Change → Bool) (m : IsMarkOf (look c) key mark is_kind) → has_effect m.op.change (held_number ((look c).held_at key)) ≡ true → IsMarkOf new key mark is_kind)
    → IsSound c → HasMarks new key (doc_at c key) (stash_at c key)
marks_same c new key has stays s = record {
  of_doc = λ d mark found marked owns. let m = has.of_doc d mark found marked owns in stays mark is_removal m (mark_of_doc_acts c s key d mark found owns m);
  of_stash = λ e mark found marked owns. let m = has.of_stash e mark found marked owns in stays mark is_insertion m (mark_of_stash_acts c s key e mark found owns m);
  entry = has.entry;
}

-- the same two cells
with_cells : (view : View) (key : Key) {doc d : Option DocCell} {stash e : Option StashCell} → d ≡ doc → e ≡ stash → HasMarks view key doc stash → HasMarks view key d e
with_cells view key {d = d} {stash = stash} p q h = subst (λ (e : Option StashCell). HasMarks view key d e) (sym q) (subst (λ (d : Option DocCell). HasMarks view key d stash) (sym p) h)

-- no mark on an owner is of this record
abbrev pub MarksApart : Content → TxnId → Type 0
MarksApart c id = (key : Key) (mark : Token) (is_kind : Change → Bool) (m : IsMarkOf (look c) key mark is_kind) → has_effect m.op.change (held_number ((look c).held_at key)) ≡ true → mark.id ≢ id

-- such is one that isn't there, or isn't applying
pub apart_unless_applying : (c : Content) (id : TxnId) → ((rec : Record) → record_at c id ≡ Some rec → rec.state ≡ state.Applying → ⊥) → MarksApart c id
unfolding look
apart_unless_applying c id not_applying key mark is_kind m acts same = not_applying m.rec (ap (record_at c) (sym same) ∙ m.there) m.applies

pub apart_if_absent : (c : Content) (id : TxnId) → record_at c id ≡ None → MarksApart c id
apart_if_absent c id absent = apart_unless_applying c id (λ rec there applies. cc (absent, there))

pub apart_in_state : (c : Content) (id : TxnId) (was : Record) (from : State) → record_at c id ≡ Some was → was.state ≡ from → (from ≡ state.Applying → ⊥) → MarksApart c id
apart_in_state c id was from there now other = apart_unless_applying c id (λ rec found applies. other (sym now ∙ ap (λ (r : Record). r.state) (same_Some was rec (sym there ∙ found)) ∙ applies))

-- A record is put that no mark is of.
pub marks_put_record : (c : Content) (id : TxnId) (rec : Record) → IsSound c → MarksApart c id → (key : Key) → HasMarksAt (insert c (name.Record id) (cell.Record rec)) key
unfolding look
marks_put_record c id rec s apart key =
    with_cells (look d) key (Lookups.doc_at-put_record c (cell.Record rec) id key) (Lookups.stash_at-put_record c (cell.Record rec) id key)
    (marks_same c (look d) key ((parts c s).marks key) (λ mark is_kind m acts. mark_stays key mark is_kind (others mark.id (apart key mark is_kind m acts)) (shape.held.held key) m) s)
  where
    d : Content
    d = insert c (name.Record id) (cell.Record rec)

    shape : ChangesRecord (look c) (look d) id rec
    shape = record_looks c id rec

    others : (other : TxnId) → other ≢ id → record_at d other ≡ record_at c other
    others = each_record shape.puts (λ other. other ≢ id → record_at d other ≡ record_at c other) (λ not_it. absurd (not_it refl)) (λ other same not_it. same)

-- Nothing but the counter is put.
pub marks_put_nonce : (c : Content) (next : ℕ) → IsSound c → let d = insert c name.Nonce (cell.Nonce next) in Counts (look c) (look d) → (key : Key) → HasMarksAt d key
marks_put_nonce c next s counts key =
    let d = insert c name.Nonce (cell.Nonce next) in
    with_cells (look d) key (Lookups.doc_at-put_nonce c (cell.Nonce next) key) (Lookups.stash_at-put_nonce c (cell.Nonce next) key)
    (marks_same c (look d) key ((parts c s).marks key) (λ mark is_kind m acts. mark_stays key mark is_kind (counts.records.records mark.id) (counts.held.held key) m) s)

-- A document is put: what its key comes to is given, and all other keys stay.
pub marks_put_doc : (c : Content) (key : Key) (doc : DocCell) → IsSound c → HasMarks (look (put c key doc)) key (Some doc) (stash_at c key) → (k : Key) → HasMarksAt (put c key doc) k
marks_put_doc c key doc s here k =
    by_key k key (λ t. doc_at d k ≡ (if t then Some doc else doc_at c k) → HasMarksAt d k)
    (λ e now. with_cells (look d) k now (stashes ∙ ap (stash_at c) e) (subst (λ (j : Key). HasMarks (look d) j (Some doc) (stash_at c key)) (sym e) here))
    (λ e now. with_cells (look d) k now stashes (marks_same c (look d) k ((parts c s).marks k) (λ mark is_kind m acts. mark_stays k mark is_kind ((doc_records c key doc).records mark.id) ((doc_held_elsewhere c key doc).held k e) m) s))
    (Lookups.doc_at-put_doc c (cell.Doc doc) key k)
  where
    d : Content
    d = put c key doc

    stashes : stash_at d k ≡ stash_at c k
    stashes = Lookups.stash_at-put_doc c (cell.Doc doc) key k

-- a longer queue changes no owner
pub same_owner : (doc : DocCell) (queue : List Token) (stash : Option StashCell) → owner_of (Some (record doc { queue = queue })) stash ≡ owner_of (Some doc) stash
same_owner doc queue None = refl
same_owner doc queue (Some stash) = refl

-- a document's queue is put, unseen by marks
pub marks_put_queue : (c : Content) (key : Key) (doc : DocCell) (queue : List Token) → IsSound c → doc_at c key ≡ Some doc → let d = put c key (record doc { queue = queue }) in (look d).held_at key ≡ (look c).held_at key → (k : Key) → HasMarksAt d k
marks_put_queue c key doc queue s found held = marks_put_doc c key (record doc { queue = queue }) s (record {
  of_doc = λ x mark there marked owns. stays mark is_removal (was.of_doc doc mark found (ap (λ (x : DocCell). x.remove) (same_Some (record doc { queue = queue }) x there) ∙ marked) (owner ∙ owns));
  of_stash = λ e mark there marked owns. stays mark is_insertion (was.of_stash e mark there marked (owner ∙ owns));
  entry = λ e there. record {
    no_tie = λ x at. subst (λ (x : DocCell). epoch x.revno ≢ epoch e.revno) (same_Some (record doc { queue = queue }) x at) ((was.entry e there).no_tie doc found);
    owns = λ unmarked. same_owner doc queue (Some e) ∙ ap (λ (o : Option DocCell). owner_of o (Some e)) (sym found) ∙ (was.entry e there).owns unmarked;
  };
})
  where
    was : HasMarksAt c key
    was = (parts c s).marks key

    owner : owner_of (doc_at c key) (stash_at c key) ≡ owner_of (Some (record doc { queue = queue })) (stash_at c key)
    owner = ap (λ (o : Option DocCell). owner_of o (stash_at c key)) found ∙ sym (same_owner doc queue (stash_at c key))

    stays : (mark : Token) (is_kind : Change → Bool) → IsMarkOf (look c) key mark is_kind → IsMarkOf (look (put c key (record doc { queue = queue }))) key mark is_kind
    stays mark is_kind m = mark_stays key mark is_kind ((doc_records c key (record doc { queue = queue })).records mark.id) held m
