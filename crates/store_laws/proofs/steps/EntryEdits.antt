-- A token added to a stash entry, or to the entry that it makes: nothing is decided.
use Rattle.std.proofs.Common.{◌≡◌, ◌≢◌, ℕ, ◌≤◌, ◌<◌, Bool, true, false, cond, Option, Some, None, is_some, option_to_list, List, [], ◌∷◌, ◌++◌, inl, inr, ◌⊎◌, ⊎_elim, sym, ap, ap₂, ◌∙◌, refl, subst, if◌then◌else◌, negsuc, le_of_eq, arith}
use Rattle.std.proofs.lemmas.Option.{same_Some}
use Rattle.std.specs.Option.{option_and_then}
use Rattle.std.specs.FinMap.{get}
use Rattle.txn_key.specs.Keys.{same_key}
use Rattle.txn_key.specs.declared.id.Token.{Token}
use Rattle.txn_key.specs.declared.key.Key.{Key}
use Rattle.txn_record.specs.declared.op.Change.{Change}
use Rattle.store_trait.specs.Cells.{as_record, as_stash}
use Rattle.store_trait.specs.Contents.{Content}
use Rattle.store_trait.specs.Edits.{Hit, puts, hit, unmarked, hit_add_token, new_stash, with_token, put_under, edited}
use Rattle.store_trait.specs.Owners.{owner_of, epoch}
use Rattle.store_trait.specs.declared.cell.Cell.{Cell}
use Rattle.store_trait.specs.declared.cell.Cell.TheVariants as cell
use Rattle.store_trait.specs.declared.cell.DocCell.{DocCell}
use Rattle.store_trait.specs.declared.cell.StashCell.{StashCell}
use Rattle.store_trait.specs.declared.edit.Edit.TheVariants as edit
use Rattle.store_trait.specs.declared.name.Name.TheVariants as name
use Rattle.store_trait.specs.declared.side.Side.{Side}
use Rattle.store_trait.specs.declared.side.Side.TheVariants as side
use Rattle.store_laws.specs.Entries.{entry_epoch, stash_epoch, IsUnmarked, StaysOrOwns, CellsStay, EntryStays}
use Rattle.store_laws.specs.Known.{HasNoDocAlone}
use Rattle.store_laws.specs.Meaning.{records}
use Rattle.store_laws.specs.Readiness.{In}
use Rattle.store_laws.specs.Soundness.{IsSound, IsMarkOf, IsSoundEntry, is_removal, is_insertion, HasSoundTokens, AllBelow, tokens_of_stash, is_numbered}
use Rattle.store_laws.specs.Steps.{IsQuiet}
use Rattle.store_laws.specs.View.{View, Number, look, doc_at, stash_at, owner_queue, owner_held, by_side, doc_held, doc_queue, stash_queue, stash_held, counter, HasKey, valid_nonce}
use Rattle.store_laws.proofs.cells.CellRules.{HasSoundCells, sound_cells, cells_put}
use Rattle.store_laws.proofs.cells.EntryLooks.{put_entry, read_put_entry, entry_queues, doc_at-put_stash, stash_at-put_stash}
use Rattle.store_laws.proofs.cells.Marks.{mark_stays}
use Rattle.store_laws.proofs.cells.Misses.{quiet_itself}
use Rattle.store_laws.proofs.cells.Parts.{parts, HasMarks, HasMarksAt}
use Rattle.store_laws.proofs.cells.Records.{records-put_other}
use Rattle.store_laws.proofs.cells.SoundParts.{sound_from, sound_chains, chains_same}
use Rattle.store_laws.proofs.chains.Done.{done_still, stands_on}
use Rattle.store_laws.proofs.meanings.Decided.{decided_by-same}
use Rattle.store_laws.proofs.meanings.Meanings.{meaning-same}
use Rattle.store_laws.proofs.views.Additions.{add_step}
use Rattle.store_laws.proofs.views.Changes.{IsOrderlyStep}
use Rattle.store_laws.proofs.views.Equals.{by_key}
use Rattle.store_laws.proofs.views.Lost.{lost_added}
use Rattle.store_laws.proofs.views.Orderly.{orderly}
use Rattle.store_laws.proofs.views.Queues.{in_left, in_right, in_parts, in_without, in_put, once_with}
use Rattle.store_laws.proofs.views.Shapes.{SameHeld, AddsToken}

-- An unmarked entry is put that owns its key, with the token at the end of the owner queue; what is held
-- stays, and the entry before it, if there was one, was unmarked.
record IsPutEntry (c : Content) (key : Key) (z : Token) (entry : StashCell) : Type 0 where
  free : entry.insert ≡ None
  stands : IsSoundEntry (doc_at c key) entry
  queue : entry.queue ≡ with_token z (owner_queue (doc_at c key) (stash_at c key))
  number : Number entry.revno ≡ owner_held (doc_at c key) (stash_at c key)
  was_free : IsUnmarked (stash_at c key)
  epochs : stash_epoch c key ≤ epoch entry.revno
  numbered : is_numbered (cell.Stash entry) ≡ true
  tokens : HasSoundTokens (look c) key entry.queue (tokens_of_stash entry)
  below : AllBelow (counter c) (tokens_of_stash entry)
  no_record : option_and_then as_record (get c (name.Stash key)) ≡ None

module _ (c : Content) (key : Key) (z : Token) (entry : StashCell) (s : IsSound c) (has : HasKey (look c) z.id key) (other : valid_nonce (look c) z.id ≢ Some z.nonce) (put : IsPutEntry c key z entry) where
  d : Content
  d = put_entry c key entry

  owner : owner_of (doc_at c key) (Some entry) ≡ side.Stash
  owner = put.stands.owns put.free

  change : AddsToken (look c) (look d) key z
  unfolding d
  change = entry_queues c key entry z
      (ap (λ (o : Side). by_side o [] (doc_queue (doc_at c key)) entry.queue) owner ∙ put.queue)
      (ap (λ (o : Side). by_side o (Number (negsuc 0)) (doc_held (doc_at c key)) (Number entry.revno)) owner ∙ put.number)

  step : IsOrderlyStep (look c) (look d)
  step = add_step key z (orderly c s) change has other

  docs : (k : Key) → doc_at d k ≡ doc_at c k
  unfolding d
  docs k = doc_at-put_stash c (cell.Stash entry) key k

  stashes : (k : Key) → stash_at d k ≡ (if same_key k key then Some entry else stash_at c k)
  unfolding d
  stashes k = stash_at-put_stash c (cell.Stash entry) key k

  -- marks stay, and the entry has none
  stays : (k : Key) (mark : Token) (is_kind : Change → Bool) → IsMarkOf (look c) k mark is_kind → IsMarkOf (look d) k mark is_kind
  stays k mark is_kind m = mark_stays k mark is_kind (change.records.records mark.id) (change.held.held k) m

  carried : (k : Key) → HasMarks (look c) k (doc_at c k) (stash_at c k) → HasMarks (look d) k (doc_at c k) (stash_at c k)
  carried k was = record {
    of_doc = λ x mark found marked owns. stays k mark is_removal (was.of_doc x mark found marked owns);
    of_stash = λ e mark found marked owns. stays k mark is_insertion (was.of_stash e mark found marked owns);
    entry = was.entry;
  }

  here : HasMarks (look d) key (doc_at c key) (Some entry)
  here = record {
    of_doc = λ x mark found marked owns. absurd (cc (owner, owns));
    of_stash = λ e mark found marked owns. absurd (cc (ap (λ (x : StashCell). x.insert) (same_Some entry e found), put.free, marked));
    entry = λ e found. subst (IsSoundEntry (doc_at c key)) (same_Some entry e found) put.stands;
  }

  with_doc : (k : Key) (stash : Option StashCell) → HasMarks (look d) k (doc_at c k) stash → HasMarks (look d) k (doc_at d k) stash
  with_doc k stash h = subst (λ (x : Option DocCell). HasMarks (look d) k x stash) (sym (docs k)) h

  marks : (k : Key) → HasMarksAt d k
  marks k =
      by_key k key (λ t. stash_at d k ≡ (if t then Some entry else stash_at c k) → HasMarksAt d k)
      (λ e now. subst (λ (x : Option StashCell). HasMarks (look d) k (doc_at d k) x) (sym now) (with_doc k (Some entry) (subst (λ (j : Key). HasMarks (look d) j (doc_at c j) (Some entry)) (sym e) here)))
      (λ e now. subst (λ (x : Option StashCell). HasMarks (look d) k (doc_at d k) x) (sym now) (with_doc k (stash_at c k) (carried k ((parts c s).marks k))))
      (stashes k)

  cells : HasSoundCells d
  unfolding look d
  cells = cells_put c (name.Stash key) (cell.Stash entry) (sound_cells c s) step.later (record { stands = refl; numbered = put.numbered; tokens = put.tokens; nonces = put.below })

  sound : IsSound d
  unfolding look
  sound = sound_from d cells step.orderly marks (chains_same c d (sound_chains c s) change.records.records change.held)

  -- what stays of the cells
  stay : CellsStay c d
  stay = record {
    epochs = λ k. by_key k key (λ t. stash_at d k ≡ (if t then Some entry else stash_at c k) → stash_epoch c k ≤ stash_epoch d k)
        (λ e now. subst (λ (x : Option StashCell). stash_epoch c k ≤ entry_epoch x) (sym now) (subst (λ (j : Key). stash_epoch c j ≤ epoch entry.revno) (sym e) put.epochs))
        (λ e now. le_of_eq (ap entry_epoch (sym now)))
        (stashes k);
    docs = λ k none was now. docs k ∙ none;
    marked_doc = λ k doc mark found marked. inl (docs k ∙ found);
    marked_entry = λ k e mark found marked.
        by_key k key (λ t. stash_at d k ≡ (if t then Some entry else stash_at c k) → EntryStays d k e)
        (λ at now. absurd (cc (subst IsUnmarked (ap (stash_at c) (sym at) ∙ found) put.was_free, marked)))
        (λ at now. inl (now ∙ found))
        (stashes k);
  }

  owns : (k : Key) → StaysOrOwns c d k
  owns k =
      by_key k key (λ t. stash_at d k ≡ (if t then Some entry else stash_at c k) → StaysOrOwns c d k)
      (λ e now. inr (record { owner = ap₂ owner_of (docs k ∙ ap (doc_at c) e) now ∙ owner; newer = inl (subst (λ (j : Key). IsUnmarked (stash_at c j)) (sym e) put.was_free) }))
      (λ e now. inl now)
      (stashes k)

  same : records d ≡ records c
  unfolding d
  same = records-put_other c (name.Stash key) (cell.Stash entry) refl put.no_record

  -- the token waits there
  put_entry_waits : In z ((look (put_entry c key entry)).queue_at key)
  unfolding look d
  put_entry_waits = subst (In z) (sym (read_put_entry c key entry owner_queue key ∙ by_key key key (λ t. (if t then owner_queue (doc_at c key) (Some entry) else owner_queue (doc_at c key) (stash_at c key)) ≡ owner_queue (doc_at c key) (Some entry)) (λ e. refl) (λ apart. absurd (apart refl)) ∙ ap (λ (o : Side). by_side o [] (doc_queue (doc_at c key)) entry.queue) owner ∙ put.queue)) (in_put z (owner_queue (doc_at c key) (stash_at c key)))

  put_entry_quiet : IsQuiet c (put_entry c key entry)
  unfolding look d
  put_entry_quiet = record {
    step = record {
      sound = sound;
      later = step.later;
      lost = lost_added key z change;
      done = done_still change.records (stands_on change.held);
      cells = stay;
    };
    entry = owns;
    means = meaning-same c d same change.held;
    none = λ at. decided_by-same c d at s.kinds same;
  }

-- the tokens of an entry with one more at its queue's end
more_tokens : (view : View) (key : Key) (z : Token) (queue rest : List Token) → HasSoundTokens view key queue (queue ++ rest) → HasKey view z.id key → HasSoundTokens view key (with_token z queue) (with_token z queue ++ rest)
more_tokens view key z queue rest was has = record {
  named = λ x inside. ⊎_elim
      (λ here. ⊎_elim (λ there. was.named x (in_left x queue rest there)) (λ e. subst (λ (y : Token). HasKey view y.id key) e has) (in_without x z queue here))
      (λ mark. was.named x (in_right x queue rest mark))
      (in_parts x (with_token z queue) rest inside);
  once = λ x. once_with x z queue (was.once x);
}

more_below : (limit : ℕ) (z : Token) (queue rest : List Token) → AllBelow limit (queue ++ rest) → z.nonce < limit → AllBelow limit (with_token z queue ++ rest)
more_below limit z queue rest was below x inside = ⊎_elim
    (λ here. ⊎_elim (λ there. was x (in_left x queue rest there)) (λ e. subst (λ (y : Token). y.nonce < limit) e below) (in_without x z queue here))
    (λ mark. was x (in_right x queue rest mark))
    (in_parts x (with_token z queue) rest inside)

module _ (c : Content) (key : Key) (z : Token) (s : IsSound c) where
  -- an unmarked entry owns its key, with a longer queue too
  pub there : (e : StashCell) → get c (name.Stash key) ≡ Some (cell.Stash e) → stash_at c key ≡ Some e
  unfolding stash_at
  there e found = ap (option_and_then as_stash) found

  longer : (e : StashCell) → get c (name.Stash key) ≡ Some (cell.Stash e) → e.insert ≡ None → HasKey (look c) z.id key → z.nonce < counter c → IsPutEntry c key z (record e { queue = with_token z e.queue })
  longer e found free has below = record {
    free = free;
    stands = record { no_tie = stands.no_tie; owns = λ unmarked. same_side (doc_at c key) ∙ owns };
    queue = ap (with_token z) (sym (ap (owner_queue (doc_at c key)) at ∙ ap (λ (o : Side). by_side o [] (doc_queue (doc_at c key)) e.queue) owns));
    number = sym (ap (owner_held (doc_at c key)) at ∙ ap (λ (o : Side). by_side o (Number (negsuc 0)) (doc_held (doc_at c key)) (Number e.revno)) owns);
    was_free = subst IsUnmarked (sym at) free;
    epochs = le_of_eq (ap entry_epoch at);
    numbered = (parts c s).numbers (name.Stash key) (cell.Stash e) found;
    tokens = more_tokens (look c) key z e.queue (option_to_list e.insert) ((parts c s).stash_tokens key e at) has;
    below = more_below (counter c) z e.queue (option_to_list e.insert) ((parts c s).stash_nonces key e at) below;
    no_record = ap (option_and_then as_record) found;
  }
    where
      at : stash_at c key ≡ Some e
      at = there e found

      stands : IsSoundEntry (doc_at c key) e
      stands = ((parts c s).marks key).entry e at

      owns : owner_of (doc_at c key) (Some e) ≡ side.Stash
      owns = stands.owns free

      same_side : (doc : Option DocCell) → owner_of doc (Some (record e { queue = with_token z e.queue })) ≡ owner_of doc (Some e)
      same_side None = refl
      same_side (Some doc) = refl

  -- with neither cell a new entry owns the key
  pub no_entry : get c (name.Stash key) ≡ None → stash_at c key ≡ None
  unfolding stash_at
  no_entry found = ap (option_and_then as_stash) found

  fresh : get c (name.Stash key) ≡ None → HasNoDocAlone c key → HasKey (look c) z.id key → z.nonce < counter c → IsPutEntry c key z (new_stash z)
  fresh found alone has below = record {
    free = refl;
    stands = record { no_tie = λ x at. absurd (cc (none, at)); owns = λ unmarked. ap (λ (o : Option DocCell). owner_of o (Some (new_stash z))) none };
    queue = ap (with_token z) (sym (ap₂ owner_queue none at));
    number = sym (ap₂ owner_held none at);
    was_free = subst IsUnmarked (sym at) tt;
    epochs = subst (λ (o : Option StashCell). entry_epoch o ≤ 1) (sym at) (omega arith);
    numbered = refl;
    tokens = more_tokens (look c) key z [] [] (record { named = λ x inside. absurd inside; once = λ x before. before }) has;
    below = more_below (counter c) z [] [] (λ x inside. absurd inside) below;
    no_record = ap (option_and_then as_record) found;
  }
    where
      at : stash_at c key ≡ None
      at = no_entry found

      none : doc_at c key ≡ None
      none = alone at

  module _ (has : HasKey (look c) z.id key) (below : z.nonce < counter c) (other : valid_nonce (look c) z.id ≢ Some z.nonce) (alone : HasNoDocAlone c key) where
    adds_at : (found : Option Cell) → get c (name.Stash key) ≡ found → IsQuiet c (put_under c (name.Stash key) (hit_add_token z (name.Stash key) found))
    adds_at None e = put_entry_quiet c key z (new_stash z) s has other (fresh e alone has below)
    adds_at (Some (cell.Record rec)) e = quiet_itself c s
    adds_at (Some (cell.Doc doc)) e = quiet_itself c s
    adds_at (Some (cell.Nonce n)) e = quiet_itself c s
    adds_at (Some (cell.Stash entry)) e = go entry.insert refl
      where
        go : (mark : Option Token) → entry.insert ≡ mark → IsQuiet c (put_under c (name.Stash key) (unmarked mark (puts (cell.Stash (record entry { queue = with_token z entry.queue })))))
        go (Some mark) marked = quiet_itself c s
        go None free = put_entry_quiet c key z (record entry { queue = with_token z entry.queue }) s has other (longer entry e free has below)

    waits_at : (found : Option Cell) → get c (name.Stash key) ≡ found → let h = hit_add_token z (name.Stash key) found in is_some h ≡ true → In z ((look (put_under c (name.Stash key) h)).queue_at key)
    waits_at None e hits = put_entry_waits c key z (new_stash z) s has other (fresh e alone has below)
    waits_at (Some (cell.Record rec)) e hits = cc
    waits_at (Some (cell.Doc doc)) e hits = cc
    waits_at (Some (cell.Nonce n)) e hits = cc
    waits_at (Some (cell.Stash entry)) e hits = go entry.insert refl hits
      where
        go : (mark : Option Token) → entry.insert ≡ mark → let h = unmarked mark (puts (cell.Stash (record entry { queue = with_token z entry.queue }))) in is_some h ≡ true → In z ((look (put_under c (name.Stash key) h)).queue_at key)
        go (Some mark) marked h = cc
        go None free h = put_entry_waits c key z (record entry { queue = with_token z entry.queue }) s has other (longer entry e free has below)

    -- where it was added it waits in the owner queue
    pub added_entry_waits : is_some (hit (edit.AddToken z) (name.Stash key) (get c (name.Stash key))) ≡ true → In z ((look (edited c (name.Stash key) (edit.AddToken z))).queue_at key)
    added_entry_waits hits = waits_at (get c (name.Stash key)) refl hits

    -- Adding a token to a stash entry decides nothing: one that was drawn, of a present record that has the
    -- key and doesn't have that nonce yet, where there is an entry, or no document.
    pub add_entry_quiet : IsQuiet c (edited c (name.Stash key) (edit.AddToken z))
    add_entry_quiet = adds_at (get c (name.Stash key)) refl
