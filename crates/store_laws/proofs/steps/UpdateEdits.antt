-- The edit of an applying record's update: quiet, and after it nothing is left to do.
use Rattle.std.proofs.Common.{◌≡◌, ◌≤◌, if◌then◌else◌, ℕ, ℤ, pos, negsuc, ◌+ℤ◌, ◌<◌, Bool, true, false, cond, ◌&&◌, ◌||◌, ⊎_elim, arith, Option, Some, None, is_some, List, [], ◌∷◌, ◌⊎◌, inl, inr, sym, ap, ap₂, ◌∙◌, refl, subst, unsigned_abs, int_lt, true≢false}
use Rattle.std.proofs.lemmas.Bool.Decides.{Decides-int_eq, Decides-eqb, nat_tests}
use Rattle.std.proofs.lemmas.Slice.Eq.{bytes_eq-Decides}
use Rattle.std.specs.List.{list_any}
use Rattle.std.specs.Prelude.{option_map}
use Rattle.std.specs.FinMap.{get}
use Rattle.doc_value.specs.declared.value.Value.{Value}
use Rattle.txn_key.specs.Keys.{same_key}
use Rattle.txn_record.specs.Revnos.{is_within, is_present, has_effect}
use Rattle.doc_update.specs.Updates.{updated}
use Rattle.txn_key.specs.declared.id.TxnId.{TxnId}
use Rattle.txn_key.specs.declared.id.Token.{Token}
use Rattle.txn_record.specs.Effects.{changes_fit, change_fits}
use Rattle.txn_record.specs.declared.op.Change.{Change}
use Rattle.txn_record.specs.declared.op.Op.{Op}
use Rattle.txn_record.specs.declared.state.State.TheVariants as state
use Rattle.txn_record.specs.declared.record.Record.{Record}
use Rattle.store_trait.specs.Contents.{Content}
use Rattle.store_trait.specs.Edits.{same_token, hit_update, put_under, edited, is_updatable, with_body, has_token}
use Rattle.store_laws.specs.Soundness.{IsSound}
use Rattle.store_laws.specs.Steps.{IsQuiet}
use Rattle.store_laws.specs.Readiness.{token, In}
use Rattle.store_laws.specs.View.{View, Held, Number, look, doc_at, stash_at, owner_queue, owner_held, by_side, doc_held, stash_held, held_number, is_queued_state, epoch_at}
use Rattle.store_trait.specs.Names.{same_state}
use Rattle.store_laws.specs.Meaning.{bodies, pending_of, not_done}
use Rattle.store_trait.specs.declared.cell.Cell.{Cell}
use Rattle.store_trait.specs.declared.cell.DocCell.{DocCell}
use Rattle.store_trait.specs.declared.cell.StashCell.{StashCell}
use Rattle.store_trait.specs.declared.side.Side.{Side}
use Rattle.store_trait.specs.declared.side.Side.TheVariants as side
use Rattle.store_trait.specs.Owners.{owner_of}
use Rattle.store_trait.specs.declared.edit.Edit.TheVariants as edit
use Rattle.store_trait.specs.declared.name.Name.TheVariants as name
use Rattle.store_laws.specs.Chains.{AppliesUpdate, IsAt}
use Rattle.store_laws.specs.Done.{HasPassed, IsTurn}
use Rattle.store_laws.proofs.chains.ChainOrder.{same_on_chain}
use Rattle.store_laws.proofs.chains.Applying
use Rattle.store_laws.proofs.chains.Done.{passed_later}
use Rattle.store_laws.proofs.steps.Late.{by_update, late_quiet}
use Rattle.store_laws.proofs.chains.NumberAfter.{update_acts, update_leads}
use Rattle.store_laws.proofs.meanings.Fitting.{fits_now}
use Rattle.store_laws.proofs.meanings.Idle.{pending_of-applying}
use Rattle.store_laws.proofs.chains.Inherits.{at_on, at_found}
use Rattle.store_laws.proofs.chains.Reaching.{reached_in_turn}
use Rattle.store_laws.proofs.meanings.Runs.{same_key-itself, same_key-apart}
use Rattle.store_laws.proofs.meanings.Taken.{Taken, taken}
use Rattle.store_laws.proofs.meanings.Thinned.{thinned_away, thinned_fits}
use Rattle.store_laws.proofs.cells.Looks.{put}
use Rattle.store_laws.proofs.cells.Misses.{quiet_itself}
use Rattle.store_laws.proofs.cells.Owning.{OwnsAt, finds_doc, owned_queue, next_above, entry_ahead, owned_by_one}
use Rattle.store_laws.proofs.steps.Updating.{written, revno_present, held_now, held_next, body_there, next_number}
use Rattle.store_laws.proofs.cells.Parts.{parts}
use Rattle.store_laws.proofs.cells.Under.{doc_under}

-- An applying record's update is quiet.
pub update_quiet : (c : Content) (id : TxnId) (rec : Record) (op : Op) (revno : ℤ) (update : Value) (z : Token) → IsSound c → AppliesUpdate c id rec op revno update
    → IsQuiet c (edited c (name.Doc op.key) (edit.Update revno z update))
unfolding look
update_quiet c id rec op revno update z s u = by (is_past (unsigned_abs revno) (epoch_at (look c) op.key))
  where
    is_past : (a b : ℕ) → (a < b) ⊎ (b ≤ a)
    is_past a b = grind arith

    -- where no stash entry is ahead of the document, it owns its key
    owns : (doc : DocCell) → doc_at c op.key ≡ Some doc → doc.revno ≡ revno → epoch_at (look c) op.key ≤ unsigned_abs revno → (stash : Option StashCell) → stash_at c op.key ≡ stash → owner_of (Some doc) (stash_at c op.key) ≡ side.Document
    owns doc found at le None e = ap (owner_of (Some doc)) e
    owns doc found at le (Some entry) e = go (owner_of (Some doc) (Some entry)) refl
      where
        go : (o : Side) → owner_of (Some doc) (Some entry) ≡ o → owner_of (Some doc) (stash_at c op.key) ≡ side.Document
        go side.Neither p = absurd (owned_by_one doc entry p)
        go side.Document p = ap (owner_of (Some doc)) e ∙ p
        go side.Stash p =
            let number : held_number ((look c).held_at op.key) ≡ entry.revno = (
            ap₂ (λ (d : Option DocCell) (x : Option StashCell). held_number (owner_held d x)) found e
            ∙ ap (λ (o : Side). held_number (by_side o (Number (negsuc 0)) (doc_held (Some doc)) (stash_held (Some entry)))) p) in
            absurd (omega (arith, entry_ahead doc entry p, le, ap unsigned_abs number, ap unsigned_abs at))

    by : (unsigned_abs revno < epoch_at (look c) op.key) ⊎ (epoch_at (look c) op.key ≤ unsigned_abs revno) → IsQuiet c (edited c (name.Doc op.key) (edit.Update revno z update))
    by (inl past) = late_quiet c s op revno z update u.change (Applying.passed_if_past c s id rec op revno u.at past)
    by (inr le) = by_update c op.key revno z update (IsQuiet c) (quiet_itself c s)
        (λ doc body found at fit. written c s id rec op revno update u doc found at (owns doc found at le (stash_at c op.key) refl) body fit) (get c (name.Doc op.key)) refl

-- What an update leaves to do. It hits where the operation finds its document at its number: the
-- record's token waits there, and what is pending fits.

token_itself : (z : Token) → same_token z z ≡ true
token_itself z = λ i. (bytes_eq-Decides z.id.0 z.id.0).1 refl i && (Decides-eqb z.nonce z.nonce).1 refl i

or_true : (b : Bool) → (b || true) ≡ true
or_true true = refl
or_true false = refl

in_is_there : (z : Token) (queue : List Token) → In z queue → has_token z queue ≡ true
in_is_there z [] h = absurd h
in_is_there z (y ∷ queue) (inl e) = ap (λ (b : Bool). b || list_any (same_token z) queue) (subst (λ (x : Token). same_token z x ≡ true) (sym e) (token_itself z))
in_is_there z (y ∷ queue) (inr h) = ap (λ (b : Bool). same_token z y || b) (in_is_there z queue h) ∙ or_true (same_token z y)

-- a number within the limits has a next one
below_last : (n : ℤ) → is_within n ≡ true → int_lt n (pos 9223372036854775807) ≡ true
below_last (pos k) e = grind (arith, nat_tests)
below_last (negsuc k) e = refl

module _ (c : Content) (s : IsSound c) (id : TxnId) (rec : Record) (op : Op) (revno : ℤ) (update : Value) (u : AppliesUpdate c id rec op revno update) where
  equal_or_less : (a b : ℕ) → a ≤ b → (a ≡ b) ⊎ (a < b)
  equal_or_less a b le = grind arith

  owner : ℤ
  owner = held_number ((look c).held_at op.key)

  -- either the operation has passed, or its document owns the key at its number, where the key has come so far
  passed_or_finds : unsigned_abs revno ≤ epoch_at (look c) op.key → HasPassed (look c) op revno ⊎ OwnsAt c op.key revno
  unfolding owner
  passed_or_finds reached = by (is_present revno) refl
    where
      by : (b : Bool) → is_present revno ≡ b → HasPassed (look c) op revno ⊎ OwnsAt c op.key revno
      by false e = inl (inl (ap (λ (ch : Change). has_effect ch revno) u.change ∙ e))
      by true e = ⊎_elim
          (λ equal.
          let number = same_on_chain op.key owner revno rec.ops u.at.numbers (Applying.in_turn c s id rec op revno u.at) (Applying.owner_on_chain c s id rec op revno u.at) (at_found op revno rec.ops u.at.numbers u.at.stands) (sym equal) in
          inr (subst (OwnsAt c op.key) number (finds_doc c s op.key (ap is_present number ∙ e))))
          (λ less. inl (Applying.passed_if_past c s id rec op revno u.at less))
          (equal_or_less _ _ reached)

  updates_there : (there : OwnsAt c op.key revno) (nonce : ℕ) → rec.nonce ≡ Some nonce → is_updatable there.doc revno (token id nonce) ≡ true
  unfolding look
  updates_there there nonce drawn = λ i. (Decides-int_eq there.doc.revno revno).1 there.at i && below_last revno (Applying.within_ends c s id rec op revno u.at).0 i && in_is_there (token id nonce) there.doc.queue inside i
    where
      queued : In (token id nonce) (owner_queue (doc_at c op.key) (stash_at c op.key))
      queued = (parts c s).queued id rec nonce op.key u.at.there (ap is_queued_state u.at.applies) drawn (at_on op revno rec.ops u.at.numbers u.at.stands)

      inside : In (token id nonce) there.doc.queue
      inside = subst (In (token id nonce)) (ap (λ (d : Option DocCell). owner_queue d (stash_at c op.key)) there.there ∙ owned_queue there.doc (stash_at c op.key) there.owns) queued

  -- the look with the key one further on
  beyond : View
  beyond = record (look c) { held_at = λ k. if same_key k op.key then Number (revno +ℤ pos 1) else (look c).held_at k }

  parted : OwnsAt c op.key revno → Taken op (pending_of (look c) rec) (not_done beyond rec.ops u.at.numbers)
  unfolding beyond
  parted there =
      let present = revno_present c s id rec op revno update u there.doc there.there there.at in
      subst (λ (l : List Op). Taken op l (not_done beyond rec.ops u.at.numbers)) (sym (pending_of-applying (look c) rec rec.ops u.at.numbers u.at.applies refl u.at.numbered))
      (taken (look c) beyond op.key revno (revno +ℤ pos 1) present (next_above revno present)
      (ap (λ (h : Held). unsigned_abs (held_number h)) (held_now c s id rec op revno update u there.doc there.there there.at there.owns) ∙ ap unsigned_abs there.at)
      (ap (λ (b : Bool). unsigned_abs (held_number (if b then Number (revno +ℤ pos 1) else (look c).held_at op.key))) (same_key-itself op.key))
      (λ k apart. ap (λ (b : Bool). if b then Number (revno +ℤ pos 1) else (look c).held_at k) (same_key-apart k op.key apart))
      op refl (update_acts op.change update revno u.change present) (update_leads op.change update revno u.change present) rec.ops u.at.numbers (Applying.in_turn c s id rec op revno u.at) u.at.stands)

  fits_there : (there : OwnsAt c op.key revno) → is_some (updated update there.doc.body) ≡ true
  fits_there there =
      let part = parted there in
      let body = body_there c s id rec op revno update u there.doc there.there there.at there.owns in
      let all = sym (ap (λ (ops : List Op). changes_fit ops (bodies c)) part.before) ∙ (parts c s).fits id rec u.at.there (ap (same_state state.Applying) u.at.applies) in
      let fit = fits_now op part.kept part.post (bodies c) (thinned_away op.key part.all part.kept part.thins) (thinned_fits op.key part.all part.kept (op ∷ part.post) (bodies c) there.doc.body part.thins body all) in
      sym (ap (λ (o : Option Value). change_fits op.change o) body ∙ ap (λ (ch : Change). change_fits ch (Some there.doc.body)) u.change) ∙ fit

  -- After the edit nothing is left to do, whoever did it.
  pub update_passes : unsigned_abs revno ≤ epoch_at (look c) op.key → (nonce : ℕ) → rec.nonce ≡ Some nonce → HasPassed (look (edited c (name.Doc op.key) (edit.Update revno (token id nonce) update))) op revno
  update_passes reached nonce drawn = ⊎_elim
      (λ passed. passed_later (look c) (look (edited c (name.Doc op.key) (edit.Update revno (token id nonce) update))) (update_quiet c id rec op revno update (token id nonce) s u).step.done.forward op revno passed)
      (λ there. hits there (updated update there.doc.body) refl (fits_there there))
      (passed_or_finds reached)
    where
      hits : (there : OwnsAt c op.key revno) (o : Option Value) → updated update there.doc.body ≡ o → is_some (updated update there.doc.body) ≡ true
          → HasPassed (look (edited c (name.Doc op.key) (edit.Update revno (token id nonce) update))) op revno
      hits there None fit some = absurd (true≢false (sym some ∙ ap is_some fit))
      hits there (Some body) fit some = subst (λ (d : Content). HasPassed (look d) op revno) (sym hit_there) (inr (inl
          (ap held_number (held_next c s id rec op revno update u there.doc there.there there.at there.owns body fit) ∙ sym (next_number c s id rec op revno update u there.doc there.there there.at))))
        where
          hit_there : edited c (name.Doc op.key) (edit.Update revno (token id nonce) update) ≡ put c op.key (record there.doc { body = body; revno = there.doc.revno +ℤ pos 1 })
          hit_there =
              ap (λ (o : Option Cell). put_under c (name.Doc op.key) (hit_update revno (token id nonce) update (name.Doc op.key) o)) (doc_under c op.key there.doc there.there)
              ∙ (λ i. put_under c (name.Doc op.key) (cond (updates_there there nonce drawn i) (option_map (λ (body : Value). Some (with_body there.doc body)) (fit i)) None))

-- one operation alone needs no more
pub update_passes_alone : (c : Content) (s : IsSound c) (id : TxnId) (rec : Record) (op : Op) (revno : ℤ) (update : Value) (u : AppliesUpdate c id rec op revno update) → rec.ops ≡ op ∷ [] → (nonce : ℕ) → rec.nonce ≡ Some nonce → HasPassed (look (edited c (name.Doc op.key) (edit.Update revno (token id nonce) update))) op revno
update_passes_alone c s id rec op revno update u one = update_passes c s id rec op revno update u (reached_in_turn c id rec op revno u.at s (its_turn rec.ops u.at.numbers one u.at.stands))
  where
    its_turn : (ops : List Op) (revnos : List ℤ) → ops ≡ op ∷ [] → IsAt op revno ops revnos → IsTurn (look c) op revno ops revnos
    its_turn ops revnos e = subst (λ (ops : List Op). IsAt op revno ops revnos → IsTurn (look c) op revno ops revnos) (sym e) (at_one revnos)
      where
        at_one : (revnos : List ℤ) → IsAt op revno (op ∷ []) revnos → IsTurn (look c) op revno (op ∷ []) revnos
        at_one [] at = absurd at
        at_one (r ∷ revnos) (inl here) = inl here
        at_one (r ∷ revnos) (inr later) = absurd later
