-- An update that comes late: its operation has passed.
use Rattle.std.proofs.Common.{◌≡◌, ℤ, pos, negsuc, ◌+ℤ◌, ◌<◌, lt_irrefl, Bool, true, false, cond, ◌&&◌, Option, Some, None, inl, inr, sym, ap, ap₂, ◌∙◌, refl, subst, unsigned_abs, int_lt, int_eq, true≢false}
use Rattle.std.proofs.lemmas.Bool.{and_parts}
use Rattle.std.proofs.lemmas.Bool.Decides.{Decides-int_eq}
use Rattle.std.specs.Prelude.{option_and_then, option_map}
use Rattle.std.specs.FinMap.{get}
use Rattle.doc_value.specs.declared.value.Value.{Value}
use Rattle.doc_update.specs.Updates.{updated}
use Rattle.txn_key.specs.declared.id.Token.{Token}
use Rattle.txn_key.specs.declared.key.Key.{Key}
use Rattle.txn_record.specs.Revnos.{is_present, is_within, number_after}
use Rattle.txn_record.specs.declared.op.Change.TheVariants.{Update}
use Rattle.txn_record.specs.declared.op.Op.{Op}
use Rattle.store_trait.specs.Cells.{as_doc}
use Rattle.store_trait.specs.Contents.{Content}
use Rattle.store_trait.specs.Edits.{hit_update, put_under, edited, is_updatable, with_body, has_token}
use Rattle.store_trait.specs.Owners.{owner_of}
use Rattle.store_trait.specs.declared.cell.Cell.{Cell}
use Rattle.store_trait.specs.declared.cell.Cell.TheVariants as cell
use Rattle.store_trait.specs.declared.cell.DocCell.{DocCell}
use Rattle.store_trait.specs.declared.cell.StashCell.{StashCell}
use Rattle.store_trait.specs.declared.edit.Edit.TheVariants as edit
use Rattle.store_trait.specs.declared.name.Name.TheVariants as name
use Rattle.store_trait.specs.declared.side.Side.{Side}
use Rattle.store_trait.specs.declared.side.Side.TheVariants as side
use Rattle.store_laws.specs.Done.{HasPassed}
use Rattle.store_laws.specs.Soundness.{IsSound}
use Rattle.store_laws.specs.Steps.{IsQuiet}
use Rattle.store_laws.specs.View.{Number, look, doc_at, stash_at, owner_held, held_number, by_side, doc_held, stash_held}
use Rattle.store_laws.proofs.chains.Done.{passed_above}
use Rattle.store_laws.proofs.cells.Looks.{put}
use Rattle.store_laws.proofs.cells.Misses.{quiet_itself}
use Rattle.store_laws.proofs.chains.NumberAfter.{update_acts, update_leads}
use Rattle.store_laws.proofs.steps.Outdated.{written_unseen}
use Rattle.store_laws.proofs.cells.Owning.{next_present, owned_held, stash_below, owned_by_one}
use Rattle.store_laws.proofs.cells.Parts.{parts}
use Rattle.store_laws.proofs.cells.Under.{doc_under}

-- by cases on what an update finds
pub by_update : (c : Content) (key : Key) (revno : ℤ) (z : Token) (update : Value) (P : Content → Type 0) → P c
    → ((doc : DocCell) (body : Value) → doc_at c key ≡ Some doc → doc.revno ≡ revno → updated update doc.body ≡ Some body → P (put c key (record doc { body = body; revno = doc.revno +ℤ pos 1 })))
    → (found : Option Cell) → get c (name.Doc key) ≡ found → P (put_under c (name.Doc key) (hit_update revno z update (name.Doc key) found))
unfolding doc_at
by_update c key revno z update P stays writes None e = stays
by_update c key revno z update P stays writes (Some (cell.Record rec)) e = stays
by_update c key revno z update P stays writes (Some (cell.Stash stash)) e = stays
by_update c key revno z update P stays writes (Some (cell.Nonce n)) e = stays
by_update c key revno z update P stays writes (Some (cell.Doc doc)) e = go (is_updatable doc revno z) (updated update doc.body) refl refl
  where
    go : (t : Bool) (o : Option Value) → is_updatable doc revno z ≡ t → updated update doc.body ≡ o
        → P (put_under c (name.Doc key) (cond t (option_map (λ (body : Value). Some (with_body doc body)) o) None))
    go false o p q = stays
    go true None p q = stays
    go true (Some body) p q =
        let first = and_parts (int_eq doc.revno revno && int_lt revno (pos 9223372036854775807)) (has_token z doc.queue) p in
        let same = (Decides-int_eq doc.revno revno).0 (and_parts (int_eq doc.revno revno) (int_lt revno (pos 9223372036854775807)) first.0).0 in
        writes doc body (ap (option_and_then as_doc) e) same q

module _ (c : Content) (s : IsSound c) (op : Op) (revno : ℤ) (z : Token) (update : Value) (changes : op.change ≡ Update update) (passed : HasPassed (look c) op revno) where
  module _ (doc : DocCell) (found : doc_at c op.key ≡ Some doc) (at : doc.revno ≡ revno) where
    present : is_present revno ≡ true
    present = ap is_present (sym at) ∙ (and_parts (is_present doc.revno) (is_within doc.revno) ((parts c s).numbers (name.Doc op.key) (cell.Doc doc) (doc_under c op.key doc found))).0

    -- its document doesn't own the key
    not_owner : owner_of (Some doc) (stash_at c op.key) ≡ side.Document → ⊥
    unfolding look
    not_owner owns =
        let number : held_number (owner_held (doc_at c op.key) (stash_at c op.key)) ≡ revno = (
        ap (λ (d : Option DocCell). held_number (owner_held d (stash_at c op.key))) found ∙ ap held_number (owned_held doc (stash_at c op.key) owns) ∙ at) in
        lt_irrefl (unsigned_abs revno) (subst (λ (n : ℤ). unsigned_abs revno < unsigned_abs n) number (passed_above (look c) op revno passed (update_acts op.change update revno changes present)))

    -- so a stash entry does, which stays ahead
    stays_behind : (entry : StashCell) → stash_at c op.key ≡ Some entry → owner_of (Some doc) (Some entry) ≡ side.Stash → unsigned_abs (doc.revno +ℤ pos 1) < unsigned_abs entry.revno
    unfolding look
    stays_behind entry stashed behind = by passed
      where
        number : held_number (owner_held (doc_at c op.key) (stash_at c op.key)) ≡ entry.revno
        number =
            ap₂ (λ (d : Option DocCell) (e : Option StashCell). held_number (owner_held d e)) found stashed
            ∙ ap (λ (o : Side). held_number (by_side o (Number (negsuc 0)) (doc_held (Some doc)) (stash_held (Some entry)))) behind

        leads : number_after op.change revno ≡ doc.revno +ℤ pos 1
        leads = update_leads op.change update revno changes present ∙ ap (λ (n : ℤ). n +ℤ pos 1) (sym at)

        by : HasPassed (look c) op revno → unsigned_abs (doc.revno +ℤ pos 1) < unsigned_abs entry.revno
        by (inl idle) = absurd (true≢false (sym (update_acts op.change update revno changes present) ∙ idle))
        by (inr (inl come)) = absurd (true≢false (sym (next_present doc.revno (ap is_present at ∙ present)) ∙ ap is_present (sym leads ∙ sym come ∙ number) ∙ stash_below c s op.key entry stashed))
        by (inr (inr less)) = subst (λ (n : ℤ). unsigned_abs (doc.revno +ℤ pos 1) < unsigned_abs n) number (subst (λ (n : ℤ). unsigned_abs n < unsigned_abs (held_number (owner_held (doc_at c op.key) (stash_at c op.key)))) leads less)

    late_put : (body : Value) (stash : Option StashCell) → stash_at c op.key ≡ stash → IsQuiet c (put c op.key (record doc { body = body; revno = doc.revno +ℤ pos 1 }))
    late_put body None e = absurd (not_owner (ap (owner_of (Some doc)) e))
    late_put body (Some entry) e = by (owner_of (Some doc) (Some entry)) refl
      where
        by : (o : Side) → owner_of (Some doc) (Some entry) ≡ o → IsQuiet c (put c op.key (record doc { body = body; revno = doc.revno +ℤ pos 1 }))
        by side.Neither q = absurd (owned_by_one doc entry q)
        by side.Document q = absurd (not_owner (ap (owner_of (Some doc)) e ∙ q))
        by side.Stash q = written_unseen c s op.key doc found entry e (stays_behind entry e q) body

  pub late_quiet : IsQuiet c (edited c (name.Doc op.key) (edit.Update revno z update))
  late_quiet = by_update c op.key revno z update (IsQuiet c) (quiet_itself c s) (λ doc body found at fit. late_put doc found at body (stash_at c op.key) refl) (get c (name.Doc op.key)) refl

  -- with no stash entry it changes nothing
  pub late_alone : stash_at c op.key ≡ None → edited c (name.Doc op.key) (edit.Update revno z update) ≡ c
  late_alone none = by_update c op.key revno z update (λ d. d ≡ c) refl (λ doc body found at fit. absurd (not_owner doc found at (ap (owner_of (Some doc)) none))) (get c (name.Doc op.key)) refl
