-- Nonces drawn and tokens added: nothing is decided, and nobody waits for less.
use Rattle.std.proofs.Common.{negsuc, option_to_list, ◌≡◌, ◌≢◌, ℕ, ◌≤◌, ◌<◌, ◌+◌, nat_lt, Bool, true, false, cond, Option, Some, None, [], ◌++◌, inl, ⊎_elim, sym, ap, ◌∙◌, refl, subst, arith}
use Rattle.std.specs.Option.{option_and_then, unwrap_or}
use Rattle.std.specs.FinMap.{get, insert}
use Rattle.txn_key.specs.declared.id.Token.{Token}
use Rattle.txn_key.specs.declared.key.Key.{Key}
use Rattle.store_trait.specs.Cells.{as_record, as_doc, as_counter}
use Rattle.store_trait.specs.Contents.{Content}
use Rattle.store_trait.specs.Edits.{puts, unmarked, hit_draw_nonce, hit_add_token, nonce_limit, with_token, put_under, edited}
use Rattle.store_laws.specs.Meaning.{records}
use Rattle.store_laws.specs.Soundness.{IsSound, HasSoundTokens, AllBelow, tokens_of_doc, is_numbered}
use Rattle.store_laws.specs.Steps.{IsQuiet}
use Rattle.store_laws.specs.View.{look, doc_at, stash_at, Number, owner_queue, owner_held, by_side, doc_held, stash_queue, stash_held, counter, HasKey, valid_nonce}
use Rattle.store_trait.specs.declared.cell.Cell.{Cell}
use Rattle.store_trait.specs.declared.cell.Cell.TheVariants as cell
use Rattle.store_trait.specs.declared.cell.DocCell.{DocCell}
use Rattle.store_trait.specs.Owners.{owner_of, epoch}
use Rattle.store_trait.specs.declared.cell.StashCell.{StashCell}
use Rattle.store_trait.specs.declared.side.Side.{Side}
use Rattle.store_trait.specs.declared.side.Side.TheVariants as side
use Rattle.store_trait.specs.declared.edit.Edit.TheVariants as edit
use Rattle.store_trait.specs.declared.name.Name.TheVariants as name
use Rattle.store_laws.proofs.views.Shapes.{SameHeld, Counts, AddsToken}
use Rattle.store_laws.proofs.views.Changes.{IsOrderlyStep}
use Rattle.store_laws.proofs.cells.CellRules.{sound_cells, cells_put_nonce, cells_put_doc}
use Rattle.store_laws.proofs.meanings.Decided.{decided_by-same}
use Rattle.store_laws.proofs.cells.Looks.{nonce_looks, put, doc_records, doc_unseen, doc_queues}
use Rattle.store_laws.proofs.views.Queues.{in_left, in_right, in_parts, in_without, once_with}
use Rattle.store_laws.proofs.views.Additions.{add_step}
use Rattle.store_laws.specs.Later.{NothingLost}
use Rattle.store_laws.proofs.views.Lost.{lost_same, lost_added}
use Rattle.store_laws.proofs.meanings.Meanings.{meaning-same}
use Rattle.store_laws.proofs.cells.Misses.{quiet_itself}
use Rattle.store_laws.proofs.views.Orderly.{orderly}
use Rattle.store_laws.proofs.cells.Records.{records-put_other}
use Rattle.store_laws.proofs.cells.SoundParts.{sound_from, sound_chains, chains_same}
use Rattle.store_laws.proofs.chains.Done.{done_still, stands_on}
use Rattle.store_laws.proofs.cells.Entries.{cells_stay, leaves_put_doc, stays_put_nonce}
use Rattle.store_laws.proofs.cells.Marks.{same_owner, marks_put_nonce, marks_put_queue}
use Rattle.store_laws.proofs.cells.Lookups
use Rattle.store_laws.proofs.cells.Under.{doc_under}
use Rattle.store_laws.specs.Entries.{stash_epoch}
use Rattle.store_laws.proofs.views.Writes.{count_step}
use Rattle.store_laws.proofs.cells.Parts.{parts, HasMarksAt}

-- The counter.

counted : (c : Content) (next : ℕ) → IsSound c → counter c ≤ next → option_and_then as_record (get c name.Nonce) ≡ None → IsQuiet c (insert c name.Nonce (cell.Nonce next))
unfolding look
counted c next s le none = record {
  step = record {
    sound = sound_from d (cells_put_nonce c next (sound_cells c s) step.later) step.orderly (marks_put_nonce c next s change) (chains_same c d (sound_chains c s) change.records.records change.held);
    later = step.later;
    lost = lost_same change.records change.queues;
    done = done_still change.records (stands_on change.held);
    cells = stays_put_nonce c next;
  };
  entry = λ key. inl (Lookups.stash_at-put_nonce c (cell.Nonce next) key);
  means = meaning-same c d same change.held;
  none = λ at. decided_by-same c d at s.kinds same;
}
  where
    d : Content
    d = insert c name.Nonce (cell.Nonce next)

    change : Counts (look c) (look d)
    change = nonce_looks c next le

    step : IsOrderlyStep (look c) (look d)
    step = count_step (orderly c s) change

    same : records d ≡ records c
    same = records-put_other c name.Nonce (cell.Nonce next) refl none

draws_at : (c : Content) → IsSound c → (found : Option Cell) → get c name.Nonce ≡ found → IsQuiet c (put_under c name.Nonce (hit_draw_nonce name.Nonce found))
unfolding counter
draws_at c s None e = counted c 1 s (omega (arith, ap (λ (o : Option Cell). unwrap_or (option_and_then as_counter o) 0) e)) (ap (option_and_then as_record) e)
draws_at c s (Some (cell.Record rec)) e = quiet_itself c s
draws_at c s (Some (cell.Doc doc)) e = quiet_itself c s
draws_at c s (Some (cell.Stash stash)) e = quiet_itself c s
draws_at c s (Some (cell.Nonce n)) e = go (nat_lt n nonce_limit)
  where
    go : (t : Bool) → IsQuiet c (put_under c name.Nonce (cond t (puts (cell.Nonce (n + 1))) None))
    go true = counted c (n + 1) s (omega (arith, ap (λ (o : Option Cell). unwrap_or (option_and_then as_counter o) 0) e)) (ap (option_and_then as_record) e)
    go false = quiet_itself c s

-- Drawing a nonce decides nothing.
pub draw_quiet : (c : Content) → IsSound c → IsQuiet c (edited c name.Nonce edit.DrawNonce)
draw_quiet c s = draws_at c s (get c name.Nonce) refl

-- A document is put that holds what was held, or where nothing was.

-- the tokens of a document with one more at its queue's end
with_tokens : (c : Content) (key : Key) (doc : DocCell) (z : Token) → HasSoundTokens (look c) key doc.queue (tokens_of_doc doc) → HasKey (look c) z.id key
    → HasSoundTokens (look c) key (with_token z doc.queue) (with_token z doc.queue ++ option_to_list doc.remove)
with_tokens c key doc z was has = record {
  named = λ x inside. ⊎_elim
      (λ here. ⊎_elim (λ there. was.named x (in_left x doc.queue (option_to_list doc.remove) there)) (λ e. subst (λ (y : Token). HasKey (look c) y.id key) e has) (in_without x z doc.queue here))
      (λ mark. was.named x (in_right x doc.queue (option_to_list doc.remove) mark))
      (in_parts x (with_token z doc.queue) (option_to_list doc.remove) inside);
  once = λ x. once_with x z doc.queue (was.once x);
}

all_below : (limit : ℕ) (doc : DocCell) (z : Token) → AllBelow limit (tokens_of_doc doc) → z.nonce < limit → AllBelow limit (with_token z doc.queue ++ option_to_list doc.remove)
all_below limit doc z was below = λ x inside. ⊎_elim
    (λ here. ⊎_elim (λ there. was x (in_left x doc.queue (option_to_list doc.remove) there)) (λ e. subst (λ (y : Token). y.nonce < limit) e below) (in_without x z doc.queue here))
    (λ mark. was x (in_right x doc.queue (option_to_list doc.remove) mark))
    (in_parts x (with_token z doc.queue) (option_to_list doc.remove) inside)

-- A document is put where there was one, and what is held stays.
pub record IsPutUnseen (c : Content) (key : Key) (was doc : DocCell) : Type 0 where
  pub there : doc_at c key ≡ Some was
  pub step : IsOrderlyStep (look c) (look (put c key doc))
  pub lost : NothingLost (look c) (look (put c key doc))
  pub held : SameHeld (look c) (look (put c key doc))
  pub marks : (k : Key) → HasMarksAt (put c key doc) k
  pub behind : (mark : Token) → was.remove ≡ Some mark → epoch was.revno < stash_epoch c key

pub put_unseen_quiet : (c : Content) (key : Key) (was doc : DocCell) → IsSound c → IsPutUnseen c key was doc → is_numbered (cell.Doc doc) ≡ true
    → HasSoundTokens (look c) key doc.queue (tokens_of_doc doc) → AllBelow (counter c) (tokens_of_doc doc) → IsQuiet c (put c key doc)
unfolding look
put_unseen_quiet c key was doc s unseen numbered tokens below = record {
  step = record {
    sound = sound_from (put c key doc) (cells_put_doc c key doc (sound_cells c s) unseen.step.later numbered tokens below) unseen.step.orderly unseen.marks (chains_same c (put c key doc) (sound_chains c s) (doc_records c key doc).records unseen.held);
    later = unseen.step.later;
    lost = unseen.lost;
    done = done_still (doc_records c key doc) (stands_on unseen.held);
    cells = cells_stay (leaves_put_doc c key was doc unseen.there unseen.behind);
  };
  entry = λ k. inl (Lookups.stash_at-put_doc c (cell.Doc doc) key k);
  means = meaning-same c (put c key doc) same unseen.held;
  none = λ at. decided_by-same c (put c key doc) at s.kinds same;
}
  where
    same : records (put c key doc) ≡ records c
    same = records-put_other c (name.Doc key) (cell.Doc doc) refl (ap (option_and_then as_record) (doc_under c key was unseen.there))

-- A token.

record Added (c : Content) (key : Key) (doc : DocCell) : Type 0 where
  step : IsOrderlyStep (look c) (look (put c key doc))
  lost : NothingLost (look c) (look (put c key doc))
  held : SameHeld (look c) (look (put c key doc))

-- where the document owns its key, the owner queue has the token at its end; else none changes
added_look : (c : Content) (key : Key) (doc : DocCell) (z : Token) → IsSound c → doc_at c key ≡ Some doc → HasKey (look c) z.id key → valid_nonce (look c) z.id ≢ Some z.nonce
    → Added c key (record doc { queue = with_token z doc.queue })
unfolding look
added_look c key doc z s there has other = go (owner_of (Some doc) (stash_at c key)) refl
  where
    new : DocCell
    new = record doc { queue = with_token z doc.queue }

    stash : Option StashCell
    stash = stash_at c key

    now : (owner : Side) → owner_of (Some doc) stash ≡ owner → owner_queue (Some new) stash ≡ by_side owner [] new.queue (stash_queue stash)
    now owner e = ap (λ (o : Side). by_side o [] new.queue (stash_queue stash)) (same_owner doc new.queue stash ∙ e)

    was : (owner : Side) → owner_of (Some doc) stash ≡ owner → owner_queue (doc_at c key) stash ≡ by_side owner [] doc.queue (stash_queue stash)
    was owner e = ap (λ (d : Option DocCell). owner_queue d stash) there ∙ ap (λ (o : Side). by_side o [] doc.queue (stash_queue stash)) e

    holds : owner_held (Some new) stash ≡ owner_held (doc_at c key) stash
    holds = ap (λ (o : Side). by_side o (Number (negsuc 0)) (doc_held (Some doc)) (stash_held stash)) (same_owner doc new.queue stash) ∙ ap (λ (d : Option DocCell). owner_held d stash) (sym there)

    unseen : Counts (look c) (look (put c key new)) → Added c key new
    unseen change = record { step = count_step (orderly c s) change; lost = lost_same change.records change.queues; held = change.held }

    seen : AddsToken (look c) (look (put c key new)) key z → Added c key new
    seen change = record { step = add_step key z (orderly c s) change has other; lost = lost_added key z change; held = change.held }

    go : (owner : Side) → owner_of (Some doc) stash ≡ owner → Added c key new
    go side.Neither e = unseen (doc_unseen c key new (now side.Neither e ∙ sym (was side.Neither e)) holds)
    go side.Stash e = unseen (doc_unseen c key new (now side.Stash e ∙ sym (was side.Stash e)) holds)
    go side.Document e = seen (doc_queues c key new z (now side.Document e ∙ ap (with_token z) (sym (was side.Document e))) holds)

module _ (c : Content) (key : Key) (z : Token) (s : IsSound c) (has : HasKey (look c) z.id key) (below : z.nonce < counter c) (other : valid_nonce (look c) z.id ≢ Some z.nonce) where
  added : (doc : DocCell) → doc_at c key ≡ Some doc → doc.remove ≡ None → is_numbered (cell.Doc doc) ≡ true → IsQuiet c (put c key (record doc { queue = with_token z doc.queue }))
  unfolding look
  added doc there free numbered =
      let seen = added_look c key doc z s there has other in
      put_unseen_quiet c key doc (record doc { queue = with_token z doc.queue }) s
      (record { there = there; step = seen.step; lost = seen.lost; held = seen.held; marks = marks_put_queue c key doc (with_token z doc.queue) s there (seen.held.held key); behind = λ mark marked. absurd (cc (free, marked)) })
      numbered (with_tokens c key doc z ((parts c s).doc_tokens key doc there) has) (all_below (counter c) doc z ((parts c s).doc_nonces key doc there) below)

  adds_at : (found : Option Cell) → get c (name.Doc key) ≡ found → IsQuiet c (put_under c (name.Doc key) (hit_add_token z (name.Doc key) found))
  unfolding doc_at
  adds_at None e = quiet_itself c s
  adds_at (Some (cell.Record rec)) e = quiet_itself c s
  adds_at (Some (cell.Stash stash)) e = quiet_itself c s
  adds_at (Some (cell.Nonce n)) e = quiet_itself c s
  adds_at (Some (cell.Doc doc)) e = go doc.remove refl
    where
      go : (mark : Option Token) → doc.remove ≡ mark → IsQuiet c (put_under c (name.Doc key) (unmarked mark (puts (cell.Doc (record doc { queue = with_token z doc.queue })))))
      go (Some mark) marked = quiet_itself c s
      go None free = added doc (ap (option_and_then as_doc) e) free ((parts c s).numbers (name.Doc key) (cell.Doc doc) e)

  -- Adding a token decides nothing: one that was drawn, of a present record that has the key and
  -- doesn't have that nonce yet.
  pub add_quiet : IsQuiet c (edited c (name.Doc key) (edit.AddToken z))
  add_quiet = adds_at (get c (name.Doc key)) refl
