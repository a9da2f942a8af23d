-- Chains of calls, and the moment that two reads of a key show.
use Rattle.std.proofs.Common.{◌≡◌, ℕ, ◌≤◌, le_trans, Bool, true, false, cond, Option, Some, None, inl, inr, sym, ap, ap₂, ◌∙◌, refl, subst, nat_lt, negsuc, []}
use Rattle.txn_key.specs.declared.key.Key.{Key}
use Rattle.store_trait.specs.Contents.{Content}
use Rattle.store_trait.specs.Owners.{owner_of, epoch}
use Rattle.store_trait.specs.declared.cell.DocCell.{DocCell}
use Rattle.store_trait.specs.declared.cell.StashCell.{StashCell}
use Rattle.store_trait.specs.declared.side.Side.{Side}
use Rattle.store_trait.specs.declared.side.Side.TheVariants as side
use Rattle.store_laws.specs.Entries.{entry_epoch, stash_epoch, StaysOrOwns}
use Rattle.store_laws.specs.Since.{Link, Since, IsOwnedAs, IsMoment}
use Rattle.store_laws.specs.Soundness.{IsSound}
use Rattle.store_laws.specs.Steps.{IsStep}
use Rattle.store_laws.specs.Trail.{IsCall}
use Rattle.store_laws.specs.View.{Number, look, doc_at, stash_at, owner_queue, owner_held, by_side, doc_queue, stash_queue, doc_held, stash_held}
use Rattle.store_laws.proofs.steps.Chained.{step_then}
use Rattle.store_laws.proofs.cells.Entries.{none_counts}
use Rattle.store_laws.proofs.cells.Misses.{quiet_itself}
use Rattle.store_laws.proofs.cells.Owning.{entry_behind, behind_owns}
use Rattle.store_laws.proofs.trails.TrailGrows.{step_of}

-- What a link is.

call_entry : {old new : Content} → IsCall old new → (key : Key) → StaysOrOwns old new key
call_entry (IsCall.Quiet quiet) = quiet.entry
call_entry (IsCall.Applying rec applies) = applies.entry
call_entry (IsCall.Aborting rec aborts) = aborts.entry

link_step : {old new : Content} → Link old new → IsStep old new
link_step (Link.Call call) = step_of call

link_entry : {old new : Content} → Link old new → (key : Key) → StaysOrOwns old new key
link_entry (Link.Call call) = call_entry call

-- Chains.

pub since_step : (c d : Content) → IsSound c → Since c d → IsStep c d
since_step _ _ s (Since.Nothing c) = (quiet_itself c s).step
since_step _ _ s (Since.Then c d e chain link) = step_then (since_step c d s chain) (link_step link)

pub since_sound : (c d : Content) → IsSound c → Since c d → IsSound d
since_sound _ _ s (Since.Nothing c) = s
since_sound _ _ s (Since.Then c d e chain link) = (link_step link).sound

pub since_then : (b c d : Content) → Since b c → Since c d → Since b d
since_then b _ _ one (Since.Nothing c) = one
since_then b _ _ one (Since.Then c d e two link) = Since.Then b d e (since_then b c d one two) link

-- One moment.

-- the entry owned its key somewhere on the way, and is the same since then
record HasOwned (first last : Content) (key : Key) (entry : StashCell) : Type 0 where
  at : Content
  sound : IsSound at
  before : Since first at
  after : Since at last
  there : stash_at at key ≡ Some entry
  owns : owner_of (doc_at at key) (stash_at at key) ≡ side.Stash

owned_since : (key : Key) (entry : StashCell) (c d : Content) → IsSound c → Since c d → stash_at d key ≡ Some entry → owner_of (doc_at c key) (Some entry) ≡ side.Stash → HasOwned c d key entry
owned_since key entry _ _ s (Since.Nothing c) there owns = record { at = c; sound = s; before = Since.Nothing c; after = Since.Nothing c; there = there; owns = ap (owner_of (doc_at c key)) there ∙ owns }
owned_since key entry _ _ s (Since.Then c d e chain link) there owns = by (link_entry link key) (owned_since key entry c d s chain)
  where
    by : StaysOrOwns d e key → (stash_at d key ≡ Some entry → owner_of (doc_at c key) (Some entry) ≡ side.Stash → HasOwned c d key entry) → HasOwned c e key entry
    by (inr now) rest = record { at = e; sound = (link_step link).sound; before = Since.Then c d e chain link; after = Since.Nothing e; there = there; owns = now.owner }
    by (inl same) rest =
        let was = rest (sym same ∙ there) owns in
        record { at = was.at; sound = was.sound; before = was.before; after = Since.Then was.at d e was.after link; there = was.there; owns = was.owns }

module _ (first last : Content) (key : Key) (s : IsSound first) (chain : Since first last) where
  -- as the document was read, where no entry was past it then
  then_ : owner_of (doc_at first key) (stash_at first key) ≡ owner_of (doc_at first key) (stash_at last key) → (owner_of (doc_at first key) (stash_at last key) ≡ side.Stash → ⊥) → IsMoment first last key (doc_at first key) (stash_at last key)
  then_ owner never = record { at = first; sound = s; before = Since.Nothing first; after = chain; shows = record { owner = owner; by_doc = λ e. refl; by_stash = λ e. absurd (never e) } }

  -- the entry as it was read later
  later : (entry : StashCell) → stash_at last key ≡ Some entry → owner_of (doc_at first key) (Some entry) ≡ side.Stash → IsMoment first last key (doc_at first key) (stash_at last key)
  later entry there owns =
      let owned = owned_since key entry first last s chain there owns in
      let shown = ap (owner_of (doc_at first key)) there ∙ owns in
      record {
        at = owned.at;
        sound = owned.sound;
        before = owned.before;
        after = owned.after;
        shows = record { owner = owned.owns ∙ sym shown; by_doc = λ e. absurd (cc (shown, e)); by_stash = λ e. owned.there ∙ sym there };
      }

  epochs : stash_epoch first key ≤ stash_epoch last key
  epochs = (since_step first last s chain).cells.epochs key

  pub one_moment : IsMoment first last key (doc_at first key) (stash_at last key)
  one_moment = by (stash_at last key) refl
    where
      -- no entry later, so none before
      none : stash_at last key ≡ None → IsMoment first last key (doc_at first key) (stash_at last key)
      none e =
          let before : stash_at first key ≡ None = none_counts first s key (subst (λ (n : ℕ). stash_epoch first key ≤ n) (ap entry_epoch e) epochs) in
          then_ (ap (owner_of (doc_at first key)) (before ∙ sym e)) (λ owns. never (doc_at first key) (ap (owner_of (doc_at first key)) (sym e) ∙ owns))
        where
          never : (doc : Option DocCell) → owner_of doc None ≡ side.Stash → ⊥
          never None p = cc p
          never (Some doc) p = cc p

      -- the document is no less than the entry, so it was no less than the one before
      still : (entry : StashCell) → stash_at last key ≡ Some entry → (doc : DocCell) → doc_at first key ≡ Some doc → owner_of (Some doc) (Some entry) ≡ side.Document → IsMoment first last key (doc_at first key) (stash_at last key)
      still entry e doc found owns =
          let now : owner_of (doc_at first key) (stash_at last key) ≡ side.Document = ap₂ owner_of found e ∙ owns in
          then_ (ap (λ (d : Option DocCell). owner_of d (stash_at first key)) found
          ∙ behind_owns doc (stash_at first key) (le_trans epochs (subst (λ (n : ℕ). n ≤ epoch doc.revno) (ap entry_epoch (sym e)) (entry_behind doc entry owns))) ∙ sym now)
          (λ other. cc (now, other))

      side_of : (entry : StashCell) → stash_at last key ≡ Some entry → (doc : Option DocCell) → doc_at first key ≡ doc → (o : Side) → owner_of doc (Some entry) ≡ o → IsMoment first last key (doc_at first key) (stash_at last key)
      side_of entry e None found o owns = later entry e (ap (λ (d : Option DocCell). owner_of d (Some entry)) found)
      side_of entry e (Some doc) found side.Neither owns = absurd (neither (nat_lt (epoch doc.revno) (epoch entry.revno)) owns)
        where
          neither : (b : Bool) → cond b side.Stash side.Document ≡ side.Neither → ⊥
          neither true p = cc p
          neither false p = cc p
      side_of entry e (Some doc) found side.Document owns = still entry e doc found owns
      side_of entry e (Some doc) found side.Stash owns = later entry e (ap (λ (d : Option DocCell). owner_of d (Some entry)) found ∙ owns)

      by : (o : Option StashCell) → stash_at last key ≡ o → IsMoment first last key (doc_at first key) (stash_at last key)
      by None e = none e
      by (Some entry) e = side_of entry e (doc_at first key) refl (owner_of (doc_at first key) (Some entry)) refl

-- What such an owner holds.

module _ (c : Content) (key : Key) (doc : Option DocCell) (stash : Option StashCell) (shows : IsOwnedAs c key doc stash) where
  side_alike : {A : Type 0} (neither : A) (of_doc : Option DocCell → A) (of_stash : Option StashCell → A) (o : Side) → owner_of doc stash ≡ o
      → by_side o neither (of_doc (doc_at c key)) (of_stash (stash_at c key)) ≡ by_side o neither (of_doc doc) (of_stash stash)
  side_alike neither of_doc of_stash side.Neither e = refl
  side_alike neither of_doc of_stash side.Document e = ap of_doc (shows.by_doc e)
  side_alike neither of_doc of_stash side.Stash e = ap of_stash (shows.by_stash e)

  pub shown_queue : (look c).queue_at key ≡ owner_queue doc stash
  unfolding look
  shown_queue = ap (λ (o : Side). by_side o [] (doc_queue (doc_at c key)) (stash_queue (stash_at c key))) shows.owner ∙ side_alike [] doc_queue stash_queue (owner_of doc stash) refl

  pub shown_held : (look c).held_at key ≡ owner_held doc stash
  unfolding look
  shown_held = ap (λ (o : Side). by_side o (Number (negsuc 0)) (doc_held (doc_at c key)) (stash_held (stash_at c key))) shows.owner ∙ side_alike (Number (negsuc 0)) doc_held stash_held (owner_of doc stash) refl
