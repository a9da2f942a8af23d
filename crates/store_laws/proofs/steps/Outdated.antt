-- An update of a document that doesn't own its key: nobody sees it.
use Rattle.std.proofs.Common.{◌≡◌, ℕ, ℤ, pos, negsuc, ◌+◌, ◌+ℤ◌, ◌<◌, lt_trans, lt_irrefl, true, not, ◌&&◌, Some, [], sym, ap, ap₂, ◌∙◌, subst, unsigned_abs, arith, true≢false}
use Rattle.std.proofs.lemmas.Bool.{and_parts}
use Rattle.std.proofs.lemmas.Bool.Decides.{nat_tests}
use Rattle.std.proofs.lemmas.Option.{same_Some}
use Rattle.doc_value.specs.declared.value.Value.{Value}
use Rattle.txn_key.specs.declared.key.Key.{Key}
use Rattle.txn_record.specs.Revnos.{is_present, is_within}
use Rattle.store_trait.specs.Contents.{Content}
use Rattle.store_trait.specs.Owners.{owner_of, epoch}
use Rattle.store_trait.specs.declared.cell.Cell.TheVariants as cell
use Rattle.store_trait.specs.declared.cell.DocCell.{DocCell}
use Rattle.store_trait.specs.declared.cell.StashCell.{StashCell}
use Rattle.store_trait.specs.declared.name.Name.TheVariants as name
use Rattle.store_trait.specs.declared.side.Side.{Side}
use Rattle.store_trait.specs.declared.side.Side.TheVariants as side
use Rattle.store_laws.specs.Entries.{entry_epoch}
use Rattle.store_laws.specs.Soundness.{IsSound, IsSoundEntry, is_numbered, is_insertion}
use Rattle.store_laws.specs.Steps.{IsQuiet}
use Rattle.store_laws.specs.View.{Number, look, doc_at, stash_at, owner_queue, owner_held, by_side, doc_held, stash_held, stash_queue}
use Rattle.store_laws.proofs.steps.DocEdits.{put_unseen_quiet}
use Rattle.store_laws.proofs.cells.Looks.{put, doc_unseen}
use Rattle.store_laws.proofs.views.Lost.{lost_same}
use Rattle.store_laws.proofs.cells.Marks.{mark_stays, marks_put_doc}
use Rattle.store_laws.proofs.views.Orderly.{orderly}
use Rattle.store_laws.proofs.cells.Owning.{next_present, next_above, ahead_owns}
use Rattle.store_laws.proofs.cells.Parts.{parts, HasMarksAt}
use Rattle.store_laws.proofs.views.Shapes.{Counts}
use Rattle.store_laws.proofs.cells.Under.{doc_under, stash_under}
use Rattle.store_laws.proofs.views.Writes.{count_step}

one_less : (n : ℤ) → is_present n ≡ true → unsigned_abs (n +ℤ pos 1) ≡ unsigned_abs n + 1
one_less (pos k) e = omega arith
one_less (negsuc k) e = absurd (true≢false (sym e))

within_below : (n m : ℤ) → unsigned_abs n < unsigned_abs m → is_within m ≡ true → is_within n ≡ true
within_below n m less within = grind (arith, nat_tests)

-- The document is behind the key's stash entry, and still is at its next number.
module _ (c : Content) (s : IsSound c) (key : Key) (doc : DocCell) (found : doc_at c key ≡ Some doc) (entry : StashCell) (stashed : stash_at c key ≡ Some entry) (less : unsigned_abs (doc.revno +ℤ pos 1) < unsigned_abs entry.revno) (body : Value) where
  abbrev next : DocCell
  next = record doc { body = body; revno = doc.revno +ℤ pos 1 }

  present : is_present doc.revno ≡ true
  present = (and_parts (is_present doc.revno) (is_within doc.revno) ((parts c s).numbers (name.Doc key) (cell.Doc doc) (doc_under c key doc found))).0

  before : epoch doc.revno < epoch entry.revno
  before = lt_trans (next_above doc.revno present) less

  behind : owner_of (Some doc) (Some entry) ≡ side.Stash
  behind = ahead_owns doc entry before

  behind_next : owner_of (Some next) (Some entry) ≡ side.Stash
  behind_next = ahead_owns next entry less

  numbered : is_numbered (cell.Doc next) ≡ true
  numbered =
      let entry_within = (and_parts (not (is_present entry.revno)) (is_within entry.revno) ((parts c s).numbers (name.Stash key) (cell.Stash entry) (stash_under c key entry stashed))).1 in
      λ i. next_present doc.revno present i && within_below (doc.revno +ℤ pos 1) entry.revno less entry_within i

  unseen : Counts (look c) (look (put c key next))
  unseen = doc_unseen c key next
      (ap (owner_queue (Some next)) stashed ∙ ap (λ (o : Side). by_side o [] next.queue (stash_queue (Some entry))) behind_next
      ∙ sym (ap₂ owner_queue found stashed ∙ ap (λ (o : Side). by_side o [] doc.queue (stash_queue (Some entry))) behind))
      (ap (owner_held (Some next)) stashed ∙ ap (λ (o : Side). by_side o (Number (negsuc 0)) (doc_held (Some next)) (stash_held (Some entry))) behind_next
      ∙ sym (ap₂ owner_held found stashed ∙ ap (λ (o : Side). by_side o (Number (negsuc 0)) (doc_held (Some doc)) (stash_held (Some entry))) behind))

  marks : (k : Key) → HasMarksAt (put c key next) k
  marks = marks_put_doc c key next s (record {
    of_doc = λ d mark there marked owns. absurd (cc (ap (owner_of (Some next)) stashed, behind_next, owns));
    of_stash = λ e mark there marked owns. mark_stays key mark is_insertion (unseen.records.records mark.id) (unseen.held.held key) (((parts c s).marks key).of_stash e mark there marked (ap₂ owner_of found stashed ∙ behind));
    entry = λ e there.
        let same : entry ≡ e = same_Some entry e (sym stashed ∙ there) in
        subst (IsSoundEntry (Some next)) same (record {
          no_tie = λ d at tie. lt_irrefl (epoch entry.revno) (subst (λ (n : ℕ). n < epoch entry.revno) (ap (λ (d : DocCell). epoch d.revno) (same_Some next d at) ∙ tie) less);
          owns = λ unmarked. behind_next;
        });
  })

  -- so nobody sees its update
  pub written_unseen : IsQuiet c (put c key next)
  written_unseen = put_unseen_quiet c key doc next s
      (record { there = found; step = count_step (orderly c s) unseen; lost = lost_same unseen.records unseen.queues; held = unseen.held; marks = marks; behind = λ mark marked. subst (λ (n : ℕ). epoch doc.revno < n) (ap entry_epoch (sym stashed)) before })
      numbered ((parts c s).doc_tokens key doc found) ((parts c s).doc_nonces key doc found)
