-- What the reads of a preparation come to.
use Rattle.std.proofs.Common.{◌≡◌, ℕ, ℤ, ◌&&◌, not, nat_lt, Bool, true, false, cond, Option, Some, None, Ok, [], inl, sym, ap, ◌∙◌, refl, subst, true≢false}
use Rattle.std.specs.FinMap.{get}
use Rattle.std.specs.Option.{option_and_then}
use Rattle.txn_key.specs.declared.id.Token.{Token}
use Rattle.txn_key.specs.declared.key.Key.{Key}
use Rattle.txn_record.specs.declared.op.Change.{Change}
use Rattle.store_trait.specs.Cells.{as_doc, as_stash}
use Rattle.store_trait.specs.Contents.{Content}
use Rattle.store_trait.specs.Edits.{has_token}
use Rattle.store_trait.specs.Owners.{owner_of, epoch}
use Rattle.store_trait.specs.declared.cell.Cell.{Cell}
use Rattle.store_trait.specs.declared.cell.DocCell.{DocCell}
use Rattle.store_trait.specs.declared.cell.StashCell.{StashCell}
use Rattle.store_trait.specs.declared.name.Name.TheVariants as name
use Rattle.store_trait.specs.declared.side.Side.{Side}
use Rattle.store_trait.specs.declared.side.Side.TheVariants as side
use Rattle.store_laws.specs.Known.{HasNoDocAlone}
use Rattle.store_laws.specs.Readiness.{token, In}
use Rattle.store_laws.specs.Soundness.{IsMarkOf}
use Rattle.store_laws.specs.View.{look, doc_at, stash_at, by_side, owner_queue, IsOn}
use Rattle.store_laws.proofs.cells.Owning.{owned_by_one}
use Rattle.store_laws.proofs.cells.Parts.{parts}
use Rattle.store_laws.proofs.chains.Inherits.{at_on}
use Rattle.store_laws.proofs.steps.Known.{queued_later, no_doc_later, still_later}
use Rattle.store_laws.proofs.steps.Moments.{since_step}
use Rattle.store_laws.proofs.views.Lost.{still_there}
use Rattle.store_laws.proofs.views.Queues.{in_if_has}
use Rattle.flush_prepare.specs.Moments.{WasRead}
use Rattle.flush_prepare.specs.Preparations.{name_at, edit_at, begun, key_done, after_seen, seen_answer, read_answer_at, after_read_at}
use Rattle.flush_prepare.specs.PrepareFacts.{IsDone, IsQueueing, WasAdded, PlaceIsWorth, IsPreparing, IsBlocked, ComesTo}
use Rattle.flush_prepare.specs.Sights.{doc_mark, stash_mark, owner_mark, marked_or_free, is_outdated}
use Rattle.flush_prepare.specs.declared.prepare.Place.{Place}
use Rattle.flush_prepare.specs.declared.prepare.Place.TheVariants.{Draw, Document, Entry, AddToDocument, AddToEntry, EntryAgain, Move}
use Rattle.flush_prepare.specs.declared.prepare.Prepare.{Prepare}
use Rattle.flush_prepare.specs.declared.prepare.PrepareStep.{PrepareStep}
use Rattle.flush_prepare.specs.declared.prepare.PrepareStep.TheVariants.{More}
use Rattle.flush_prepare.specs.declared.sight.Sight.{Sight}
use Rattle.flush_prepare.specs.declared.sight.Sight.TheVariants.{Queued, Free}
use Rattle.flush_prepare.proofs.Preparing.{begun_worth, done_worth}
use Rattle.flush_prepare.proofs.KeysShown.{WasShown, was_shown}
use Rattle.flush_prepare.proofs.Records.{moment_now}

-- what a read comes to, with the content as it was
pub record ReadComes (c : Content) (prepare : Prepare) (answer : PrepareStep) (next : Prepare) : Type 0 where
  pub worth : IsPreparing c next
  pub comes : ComesTo c prepare (Ok answer)

module _ (c : Content) (prepare : Prepare) (worth : IsPreparing c prepare) where
  present : IsOn prepare.key prepare.rec.ops
  present = worth.own prepare.key (inl refl)

  more : (next : Prepare) → IsPreparing c next → ReadComes c prepare More next
  more next w = record { worth = w; comes = tt }

  module _ (nonce : ℕ) (queueing : IsQueueing c prepare nonce) where
    z : Token
    z = token prepare.rec.id nonce

    starts : IsPreparing c (begun prepare nonce)
    starts = begun_worth c prepare worth.sound worth.stored worth.own nonce queueing

    ends : IsDone c prepare nonce prepare.key → IsPreparing c (key_done prepare nonce)
    ends here = done_worth c prepare worth.sound worth.stored worth.own nonce queueing here

    module _ (doc : Option DocCell) (stash : Option StashCell) (shown : WasShown c prepare.rec prepare.key doc stash) where
      -- a token in the owner queue as it was shown waits there, unless the record was prepared since
      waits : In (token prepare.rec.id nonce) (owner_queue doc stash) → IsDone c prepare nonce prepare.key
      waits inside = queued_later shown.moment.at c prepare.key (token prepare.rec.id nonce) (since_step shown.moment.at c shown.moment.sound shown.moment.since) (inl (subst (In (token prepare.rec.id nonce)) (sym shown.queue) inside))

      doc_then : Option DocCell
      doc_then = doc_at shown.moment.at prepare.key

      stash_then : Option StashCell
      stash_then = stash_at shown.moment.at prepare.key

      -- the record of the mark that the owner bore was applying then
      marks : (mark : Token) → owner_mark doc_then stash_then ≡ Some mark → (is_kind : Change → Bool) → IsMarkOf (look shown.moment.at) prepare.key mark is_kind → IsBlocked c prepare.rec prepare.key mark.id
      unfolding doc_then stash_then look
      marks mark seen is_kind m = record {
        moment = shown.moment;
        mark = mark;
        seen = seen;
        is_of = refl;
        marker = m.rec;
        stored = m.there;
        applies = m.applies;
        on = subst (λ (k : Key). IsOn k m.rec.ops) m.on (at_on m.op _ m.rec.ops m.numbers m.stands);
        there = still_later shown.moment.at c mark.id m.rec (since_step shown.moment.at c shown.moment.sound shown.moment.since) (still_there mark.id m.rec m.there);
      }

      owner_then : (o : Side) → owner_of doc stash ≡ o → owner_of doc_then stash_then ≡ o
      unfolding doc_then stash_then
      owner_then o e = shown.shows.owner ∙ e

      -- the owner's mark then is that of the cell that was shown
      mark_then : (o : Side) → owner_of doc stash ≡ o → owner_mark doc_then stash_then ≡ by_side o None (doc_mark doc_then) (stash_mark stash_then)
      mark_then o e = ap (λ (o : Side). by_side o None (doc_mark doc_then) (stash_mark stash_then)) (owner_then o e)

      blocked_doc : (mark : Token) (d : Option DocCell) → doc ≡ d → owner_of doc stash ≡ side.Document → doc_mark d ≡ Some mark → IsBlocked c prepare.rec prepare.key mark.id
      unfolding doc_then stash_then
      blocked_doc mark None e owns marked = cc
      blocked_doc mark (Some d) e owns marked =
          marks mark (mark_then side.Document owns ∙ ap doc_mark (shown.shows.by_doc owns ∙ e) ∙ marked) _ (((parts shown.moment.at shown.moment.sound).marks prepare.key).of_doc d mark (shown.shows.by_doc owns ∙ e) marked (owner_then side.Document owns))

      blocked_stash : (mark : Token) (s : Option StashCell) → stash ≡ s → owner_of doc stash ≡ side.Stash → stash_mark s ≡ Some mark → IsBlocked c prepare.rec prepare.key mark.id
      unfolding doc_then stash_then
      blocked_stash mark None e owns marked = cc
      blocked_stash mark (Some s) e owns marked =
          marks mark (mark_then side.Stash owns ∙ ap stash_mark (shown.shows.by_stash owns ∙ e) ∙ marked) _ (((parts shown.moment.at shown.moment.sound).marks prepare.key).of_stash s mark (shown.shows.by_stash owns ∙ e) marked (owner_then side.Stash owns))

      blocked : (mark : Token) (o : Side) → owner_of doc stash ≡ o → by_side o None (doc_mark doc) (stash_mark stash) ≡ Some mark → IsBlocked c prepare.rec prepare.key mark.id
      blocked mark side.Neither e marked = cc
      blocked mark side.Document e marked = blocked_doc mark doc refl e marked
      blocked mark side.Stash e marked = blocked_stash mark stash refl e marked

      module _ (was : WasRead c prepare.rec prepare.key doc) (now : stash_at c prepare.key ≡ stash) where
        -- where the document isn't the owner, there is an entry, or no document
        alone_stash : (s : Option StashCell) → stash ≡ s → owner_of doc s ≡ side.Stash → HasNoDocAlone c prepare.key
        alone_stash None e owns none = absurd (no_stash doc owns)
          where
            no_stash : (d : Option DocCell) → owner_of d None ≡ side.Stash → ⊥
            no_stash None p = cc p
            no_stash (Some d) p = cc p
        alone_stash (Some s) e owns none = absurd (cc (now, e, none))

        alone_neither : (d : Option DocCell) (s : Option StashCell) → doc ≡ d → owner_of d s ≡ side.Neither → HasNoDocAlone c prepare.key
        alone_neither None None e owns = no_doc_later was.moment.at c prepare.key was.moment.sound (since_step was.moment.at c was.moment.sound was.moment.since) (λ none. was.read ∙ e)
        alone_neither None (Some s) e owns = absurd (cc owns)
        alone_neither (Some d) None e owns = absurd (cc owns)
        alone_neither (Some d) (Some s) e owns = absurd (owned_by_one d s owns)

        free : (o : Side) → owner_of doc stash ≡ o → ReadComes c prepare More (after_seen prepare nonce (Free o))
        free side.Document e = more _ (record { sound = worth.sound; stored = worth.stored; own = worth.own; place = record { counted = queueing.counted; free = queueing.free; done = queueing.done } })
        free side.Stash e = more _ (record { sound = worth.sound; stored = worth.stored; own = worth.own; place = (record { counted = queueing.counted; free = queueing.free; done = queueing.done }, alone_stash stash refl e) })
        free side.Neither e = more _ (record { sound = worth.sound; stored = worth.stored; own = worth.own; place = (record { counted = queueing.counted; free = queueing.free; done = queueing.done }, alone_neither doc stash refl e) })

        by_mark : (mark : Option Token) → owner_mark doc stash ≡ mark → ReadComes c prepare (seen_answer (marked_or_free mark (owner_of doc stash))) (after_seen prepare nonce (marked_or_free mark (owner_of doc stash)))
        by_mark (Some mark) e = record { worth = starts; comes = blocked mark (owner_of doc stash) refl e }
        by_mark None e = side_free (owner_of doc stash) refl
          where
            side_free : (o : Side) → owner_of doc stash ≡ o → ReadComes c prepare (seen_answer (Free o)) (after_seen prepare nonce (Free o))
            side_free o e = free o e

        by_queue : (t : Bool) → has_token (token prepare.rec.id nonce) (owner_queue doc stash) ≡ t → let s : Sight = cond t Queued (marked_or_free (owner_mark doc stash) (owner_of doc stash)) in ReadComes c prepare (seen_answer s) (after_seen prepare nonce s)
        by_queue true e = more _ (ends (waits (in_if_has (token prepare.rec.id nonce) (owner_queue doc stash) e)))
        by_queue false e = by_mark (owner_mark doc stash) refl

    entry_read : (doc : Option DocCell) (found : Option Cell) → found ≡ get c (name.Stash prepare.key) → WasRead c prepare.rec prepare.key doc → ReadComes c prepare (read_answer_at prepare (Entry nonce doc) found) (after_read_at prepare (Entry nonce doc) found)
    unfolding stash_at
    entry_read doc found e was =
        let stash = option_and_then as_stash found in
        by_queue doc stash (was_shown c prepare.rec prepare.key doc found e was) was (ap (option_and_then as_stash) (sym e)) (has_token (token prepare.rec.id nonce) (owner_queue doc stash)) refl

    -- the token that was added waits, unless an entry past the document lacks it
    added_waits : (doc : DocCell) (revno : ℤ) (stash : Option StashCell) → WasShown c prepare.rec prepare.key (Some doc) stash → doc.revno ≡ revno → In (token prepare.rec.id nonce) doc.queue → is_outdated revno (token prepare.rec.id nonce) stash ≡ false → IsDone c prepare nonce prepare.key
    added_waits doc revno None shown number inside here = waits (Some doc) None shown inside
    added_waits doc revno (Some s) shown number inside here = by (nat_lt (epoch revno) (epoch s.revno)) refl (has_token (token prepare.rec.id nonce) s.queue) refl here
      where
        owner : (t : Bool) → nat_lt (epoch revno) (epoch s.revno) ≡ t → owner_of (Some doc) (Some s) ≡ cond t side.Stash side.Document
        owner t e = ap (λ (r : ℤ). cond (nat_lt (epoch r) (epoch s.revno)) side.Stash side.Document) number ∙ ap (λ (t : Bool). cond t side.Stash side.Document) e

        queue : (o : Side) → owner_of (Some doc) (Some s) ≡ o → owner_queue (Some doc) (Some s) ≡ by_side o [] doc.queue s.queue
        queue o e = ap (λ (o : Side). by_side o [] doc.queue s.queue) e

        by : (t : Bool) → nat_lt (epoch revno) (epoch s.revno) ≡ t → (h : Bool) → has_token (token prepare.rec.id nonce) s.queue ≡ h → (t && not h) ≡ false → IsDone c prepare nonce prepare.key
        by false past h has e = waits (Some doc) (Some s) shown (subst (In (token prepare.rec.id nonce)) (sym (queue side.Document (owner false past))) inside)
        by true past true has e = waits (Some doc) (Some s) shown (subst (In (token prepare.rec.id nonce)) (sym (queue side.Stash (owner true past))) (in_if_has (token prepare.rec.id nonce) s.queue has))
        by true past false has e = absurd (true≢false e)

    again_read : (revno : ℤ) (found : Option Cell) → found ≡ get c (name.Stash prepare.key) → WasAdded c prepare.rec prepare.key (token prepare.rec.id nonce) revno → ReadComes c prepare More (after_read_at prepare (EntryAgain nonce revno) found)
    again_read revno found e was = by (is_outdated revno (token prepare.rec.id nonce) stash) refl
      where
        stash : Option StashCell
        stash = option_and_then as_stash found

        by : (t : Bool) → is_outdated revno (token prepare.rec.id nonce) stash ≡ t → ReadComes c prepare More (cond t (begun prepare nonce) (key_done prepare nonce))
        by true past = more _ starts
        by false here = more _ (ends (added_waits was.doc revno stash (was_shown c prepare.rec prepare.key (Some was.doc) found e was.read) was.number was.waits here))

  document_read : (nonce : ℕ) (found : Option Cell) → found ≡ get c (name.Doc prepare.key) → IsQueueing c prepare nonce → ReadComes c prepare More (after_read_at prepare (Document nonce) found)
  unfolding doc_at
  document_read nonce found e queueing = more _ (record {
    sound = worth.sound;
    stored = worth.stored;
    own = worth.own;
    place = (record { counted = queueing.counted; free = queueing.free; done = queueing.done }, record { moment = moment_now c prepare.rec worth.sound worth.stored; read = ap (option_and_then as_doc) (sym e) });
  })

  pub read_comes : (place : Place) (found : Option Cell) → edit_at prepare.rec place ≡ None → found ≡ get c (name_at prepare.rec prepare.key place) → PlaceIsWorth c prepare place → ReadComes c prepare (read_answer_at prepare place found) (after_read_at prepare place found)
  read_comes Draw found reads e was = absurd (cc reads)
  read_comes (Document nonce) found reads e was = document_read nonce found e was
  read_comes (Entry nonce doc) found reads e was = entry_read nonce was.0 doc found e was.1
  read_comes (AddToDocument nonce) found reads e was = absurd (cc reads)
  read_comes (AddToEntry nonce) found reads e was = absurd (cc reads)
  read_comes (EntryAgain nonce revno) found reads e was = again_read nonce was.0 revno found e was.1
  read_comes (Move nonce) found reads e was = absurd (cc reads)
