-- An applying record's update of its document: the meaning stays, and nothing is left to do there.
use Rattle.std.proofs.Common.{◌≡◌, ◌≢◌, ℕ, ℤ, pos, ◌+ℤ◌, ◌<◌, le_of_lt, lt_irrefl, lt_of_le_of_lt, inl, inr, Bool, true, false, ◌&&◌, Option, Some, IsTrue, unwrap_or, List, [], ◌∷◌, sym, ap, ◌∙◌, refl, subst, unsigned_abs, true≢false, if◌then◌else◌}
use Rattle.std.proofs.lemmas.Bool.{and_parts}
use Rattle.std.proofs.lemmas.Option.{same_Some}
use Rattle.std.specs.Cmp.{Equal-is}
use Rattle.std.specs.Prelude.{option_and_then}
use Rattle.std.specs.FinMap.{get}
use Rattle.std.specs.Ordering.{is_eq}
use Rattle.doc_value.specs.declared.value.Value.{Value}
use Rattle.txn_key.proofs.KeyOrder.{id_cmp_total, id_cmp-IsAntisymmetric}
use Rattle.std.proofs.lemmas.Cmp.{tied_itself}
use Rattle.txn_key.specs.Ids.{id_cmp}
use Rattle.txn_key.specs.Keys.{same_key}
use Rattle.txn_record.specs.Effects.{changes_fit, body_after, effect_of}
use Rattle.txn_record.specs.Revnos.{is_present, is_within, has_effect, number_after, is_on_chain, follows}
use Rattle.doc_update.specs.Updates.{updated}
use Rattle.txn_key.specs.declared.id.TxnId.{TxnId}
use Rattle.txn_key.specs.declared.id.Token.{Token}
use Rattle.txn_key.specs.declared.key.Key.{Key}
use Rattle.txn_record.specs.declared.op.Change.{Change}
use Rattle.txn_record.specs.declared.op.Op.{Op}
use Rattle.txn_record.specs.declared.record.Record.{Record}
use Rattle.txn_record.specs.declared.state.State.TheVariants as state
use Rattle.store_trait.specs.Cells.{as_record}
use Rattle.store_trait.specs.Contents.{Content}
use Rattle.store_laws.specs.Meaning.{bodies, pending_of, not_done, records}
use Rattle.store_trait.specs.Names.{same_state}
use Rattle.store_trait.specs.Owners.{owner_of, epoch}
use Rattle.store_laws.specs.Soundness.{IsSound, StandsOnChain, PendingFits, is_removal}
use Rattle.store_laws.specs.Steps.{IsQuiet}
use Rattle.store_laws.specs.View.{Held, Body, look, record_at, doc_at, stash_at, applying, IsOn, HasKey, held_number, owner_held, owner_queue, epoch_at}
use Rattle.store_trait.specs.declared.cell.Cell.TheVariants as cell
use Rattle.store_trait.specs.declared.cell.DocCell.{DocCell}
use Rattle.store_trait.specs.declared.name.Name.TheVariants as name
use Rattle.store_trait.specs.declared.side.Side.TheVariants as side
use Rattle.store_laws.specs.Chains.{AppliesUpdate}
use Rattle.store_laws.proofs.meanings.Bodies.{body_in, get-bodies}
use Rattle.store_laws.proofs.cells.CellRules.{HasSoundCells, sound_cells, cells_put_doc}
use Rattle.store_laws.proofs.views.Changes.{IsOrderlyStep}
use Rattle.store_laws.proofs.meanings.Decided.{decided_by-same}
use Rattle.store_laws.proofs.chains.Applying
use Rattle.store_laws.proofs.chains.Done.{ComesOn, done_still}
use Rattle.store_laws.specs.Done.{HasCome}
use Rattle.store_laws.proofs.cells.Entries.{cells_stay, leaves_put_doc}
use Rattle.store_laws.proofs.views.Equals.{by_key}
use Rattle.store_laws.proofs.cells.Marks.{mark_of_doc_acts, marks_put_doc}
use Rattle.store_laws.proofs.meanings.Effects.{meaning-updated}
use Rattle.store_laws.proofs.meanings.Fitting.{changes_fit-agree, taken_fits}
use Rattle.store_laws.proofs.chains.Inherits.{at_leaves}
use Rattle.store_laws.proofs.meanings.Taken.{Taken, taken}
use Rattle.store_laws.proofs.meanings.Thinned.{thinned_away, thinned_fits}
use Rattle.txn_record.proofs.EffectLaws.{get-effect_of_here, get-effect_of_other}
use Rattle.store_laws.proofs.meanings.Idle.{OnlyApplies, on_pending, pending_of-keys, pending_of-applying}
use Rattle.store_laws.proofs.cells.Lookups
use Rattle.store_laws.proofs.views.Lost.{lost_same}
use Rattle.store_laws.proofs.cells.Looks.{put, read_put, doc_held_elsewhere, doc_writes}
use Rattle.store_laws.proofs.chains.NumberAfter.{update_acts, update_leads}
use Rattle.store_laws.proofs.views.Orderly.{orderly}
use Rattle.store_laws.proofs.cells.Owning.{next_present, next_above, owner_grows, owned_held, owned_queue, entry_behind}
use Rattle.store_laws.proofs.cells.Records.{records-put_other}
use Rattle.store_laws.proofs.meanings.Runs.{same_key-itself, same_key-equal, same_key-other}
use Rattle.store_laws.proofs.views.Shapes.{ChangesHeld}
use Rattle.store_laws.proofs.cells.SoundParts.{HasSoundChains, sound_from}
use Rattle.store_laws.proofs.views.Views.{applying_at}
use Rattle.store_laws.proofs.views.Writes.{write_step}
use Rattle.store_laws.proofs.cells.Parts.{parts, HasMarksAt}
use Rattle.store_laws.proofs.cells.Under.{doc_under}

module _ (c : Content) (s : IsSound c) (id : TxnId) (rec : Record) (op : Op) (revno : ℤ) (update : Value) (u : AppliesUpdate c id rec op revno update) where
  is_applying : applying (look c) id ≡ true
  is_applying = Applying.is_applying c s id rec op revno u.at

  has_key : HasKey (look c) id op.key
  has_key = Applying.has_key c s id rec op revno u.at

  only : OnlyApplies (look c) id op.key
  only = Applying.only c s id rec op revno u.at

  in_turn : follows rec.ops u.at.numbers ≡ true
  in_turn = Applying.in_turn c s id rec op revno u.at

  pub effect_there : is_present revno ≡ true → has_effect op.change revno ≡ true
  effect_there present = update_acts op.change update revno u.change present

  pub after_there : is_present revno ≡ true → number_after op.change revno ≡ revno +ℤ pos 1
  after_there present = update_leads op.change update revno u.change present

  module _ (doc : DocCell) (found : doc_at c op.key ≡ Some doc) (at : doc.revno ≡ revno) where
    pub present : is_present doc.revno ≡ true
    present = (and_parts (is_present doc.revno) (is_within doc.revno) ((parts c s).numbers (name.Doc op.key) (cell.Doc doc) (doc_under c op.key doc found))).0

    pub revno_present : is_present revno ≡ true
    revno_present = subst (λ (n : ℤ). is_present n ≡ true) at present

    pub next_number : number_after op.change revno ≡ doc.revno +ℤ pos 1
    next_number = after_there revno_present ∙ ap (λ (n : ℤ). n +ℤ pos 1) (sym at)

    pub numbered_next : (is_present (doc.revno +ℤ pos 1) && is_within (doc.revno +ℤ pos 1)) ≡ true
    numbered_next = λ i. next_present doc.revno present i && (ap is_within (sym next_number) ∙ (Applying.within_ends c s id rec op revno u.at).1) i

    pub rises : unsigned_abs revno < unsigned_abs (doc.revno +ℤ pos 1)
    rises = subst (λ (n : ℤ). unsigned_abs n < unsigned_abs (doc.revno +ℤ pos 1)) at (next_above doc.revno present)

  -- The document owns its key.
  module _ (doc : DocCell) (found : doc_at c op.key ≡ Some doc) (at : doc.revno ≡ revno) (owns : owner_of (Some doc) (stash_at c op.key) ≡ side.Document) where
    pub held_now : (look c).held_at op.key ≡ Body doc.revno doc.body
    unfolding look
    held_now = ap (λ (d : Option DocCell). owner_held d (stash_at c op.key)) found ∙ owned_held doc (stash_at c op.key) owns

    pub body_there : get (bodies c) op.key ≡ Some doc.body
    body_there = get-bodies c op.key ∙ ap body_in held_now

    -- no mark stands on it: it would be of a removal at the same number
    unmarked : (mark : Token) → doc.remove ≡ Some mark → ⊥
    unmarked mark marked =
        let owner = ap (λ (d : Option DocCell). owner_of d (stash_at c op.key)) found ∙ owns in
        let m = ((parts c s).marks op.key).of_doc doc mark found marked owner in
        let own = Applying.mark_is_own c s id rec op revno u.at (ap held_number held_now ∙ at) (effect_there (revno_present doc found at)) mark is_removal m (mark_of_doc_acts c s op.key doc mark found owner m) in
        true≢false (sym m.kind ∙ ap (λ (o : Op). is_removal o.change) own.1 ∙ ap is_removal u.change)

    module _ (body : Value) (fit : updated update doc.body ≡ Some body) where
      abbrev next : DocCell
      next = record doc { body = body; revno = doc.revno +ℤ pos 1 }

      owns_next : owner_of (Some next) (stash_at c op.key) ≡ side.Document
      owns_next = owner_grows doc next (stash_at c op.key) (le_of_lt (next_above doc.revno (present doc found at))) owns

      pub held_next : (look (put c op.key next)).held_at op.key ≡ Body (doc.revno +ℤ pos 1) body
      unfolding look
      held_next =
          read_put c op.key next owner_held op.key
          ∙ ap (λ (b : Bool). if b then owner_held (Some next) (stash_at c op.key) else owner_held (doc_at c op.key) (stash_at c op.key)) (same_key-itself op.key)
          ∙ owned_held next (stash_at c op.key) owns_next

      -- the operation is no more to be done
      took : Taken op (pending_of (look c) rec) (pending_of (look (put c op.key next)) rec)
      took =
          let d = put c op.key next in
          subst (λ (l : List Op). Taken op l (pending_of (look d) rec)) (sym (pending_of-applying (look c) rec rec.ops u.at.numbers u.at.applies refl u.at.numbered))
          (subst (Taken op (not_done (look c) rec.ops u.at.numbers)) (sym (pending_of-applying (look d) rec rec.ops u.at.numbers u.at.applies refl u.at.numbered))
          (taken (look c) (look d) op.key revno (doc.revno +ℤ pos 1) (revno_present doc found at) (rises doc found at)
          (ap (λ (h : Held). unsigned_abs (held_number h)) held_now ∙ ap unsigned_abs at)
          (ap (λ (h : Held). unsigned_abs (held_number h)) held_next)
          (doc_held_elsewhere c op.key next).held op refl (effect_there (revno_present doc found at)) (next_number doc found at) rec.ops u.at.numbers in_turn u.at.stands))

      change : ChangesHeld (look c) (look (put c op.key next)) op.key
      change = doc_writes c op.key next (owned_queue next (stash_at c op.key) owns_next ∙ sym (ap (λ (d : Option DocCell). owner_queue d (stash_at c op.key)) found ∙ owned_queue doc (stash_at c op.key) owns))

      step : IsOrderlyStep (look c) (look (put c op.key next))
      step = write_step op.key id (orderly c s) change is_applying has_key

      cells : HasSoundCells (put c op.key next)
      cells = cells_put_doc c op.key next (sound_cells c s) step.later (numbered_next doc found at) ((parts c s).doc_tokens op.key doc found) ((parts c s).doc_nonces op.key doc found)

      -- a record on other keys finds the same
      same_there : (other : TxnId) (r : Record) → record_at c other ≡ Some r → IsTrue (same_state state.Applying r.state) → other ≢ id → (key : Key) → IsOn key r.ops → (look (put c op.key next)).held_at key ≡ (look c).held_at key
      unfolding look
      same_there other r there applies apart key on =
          (doc_held_elsewhere c op.key next).held key (λ e. only other (applying_at (look c) other r there ∙ applies) (record { rec = r; there = there; on = subst (λ (k : Key). IsOn k r.ops) e on }) apart)

      other_stands : (other : TxnId) (r : Record) → record_at c other ≡ Some r → IsTrue (same_state state.Applying r.state) → other ≢ id → StandsOnChain (look (put c op.key next)) r × PendingFits (put c op.key next) r
      other_stands other r there applies apart =
          let d = put c op.key next in
          let same = same_there other r there applies apart in (
            record { on_chain = λ key on. ap (λ (h : Held). is_on_chain key (held_number h) r.ops (unwrap_or r.revnos [])) (same key on) ∙ ((parts c s).on_chain other r there applies).on_chain key on },
            ap (λ (ops : List Op). changes_fit ops (bodies d)) (pending_of-keys (look c) (look d) r same)
                ∙ changes_fit-agree (pending_of (look c) r) (bodies d) (bodies c) (λ key on. get-bodies d key ∙ ap body_in (same key (on_pending (look c) key r on).1) ∙ sym (get-bodies c key))
                ∙ (parts c s).fits other r there applies,
          )

      body_done : body_in ((look (put c op.key next)).held_at op.key) ≡ body_after op.change (body_in ((look c).held_at op.key))
      body_done =
          ap body_in held_next
          ∙ sym (ap (λ (h : Held). body_after op.change (body_in h)) held_now ∙ ap (λ (ch : Change). body_after ch (Some doc.body)) u.change ∙ ap (λ (o : Option Value). Some (unwrap_or o doc.body)) fit)

      -- the bodies are those after the operation
      bodies_done : (key : Key) → get (bodies (put c op.key next)) key ≡ get (effect_of op (bodies c)) key
      bodies_done key = by (same_key key op.key) refl
        where
          d : Content
          d = put c op.key next

          here : get (bodies d) op.key ≡ get (effect_of op (bodies c)) op.key
          here = get-bodies d op.key ∙ body_done ∙ sym (get-effect_of_here op (bodies c) ∙ ap (body_after op.change) (get-bodies c op.key))

          by : (b : Bool) → same_key key op.key ≡ b → get (bodies d) key ≡ get (effect_of op (bodies c)) key
          by true e = subst (λ (k : Key). get (bodies d) k ≡ get (effect_of op (bodies c)) k) (sym (same_key-equal key op.key e)) here
          by false e =
              let apart = same_key-other key op.key e in
              get-bodies d key ∙ ap body_in ((doc_held_elsewhere c op.key next).held key apart) ∙ sym (get-effect_of_other op (bodies c) key apart ∙ get-bodies c key)

      own_stands : StandsOnChain (look (put c op.key next)) rec × PendingFits (put c op.key next) rec
      own_stands = (
        record { on_chain = λ key on. by key (same_key key op.key) refl on },
        ap (λ (ops : List Op). changes_fit ops (bodies (put c op.key next))) took.after
            ∙ taken_fits op took.kept took.post (bodies c) (bodies (put c op.key next)) (thinned_away op.key took.all took.kept took.thins) bodies_done
            (thinned_fits op.key took.all took.kept (op ∷ took.post) (bodies c) doc.body took.thins body_there
            (sym (ap (λ (ops : List Op). changes_fit ops (bodies c)) took.before) ∙ (parts c s).fits id rec u.at.there (ap (same_state state.Applying) u.at.applies))),
      )
        where
          here : is_on_chain op.key (held_number ((look (put c op.key next)).held_at op.key)) rec.ops (unwrap_or rec.revnos []) ≡ true
          here =
              (λ i. is_on_chain op.key ((ap held_number held_next ∙ sym (next_number doc found at)) i) rec.ops (unwrap_or (u.at.numbered i) []))
              ∙ at_leaves op revno rec.ops u.at.numbers u.at.stands

          by : (key : Key) (b : Bool) → same_key key op.key ≡ b → IsOn key rec.ops → is_on_chain key (held_number ((look (put c op.key next)).held_at key)) rec.ops (unwrap_or rec.revnos []) ≡ true
          by key true e on = subst (λ (k : Key). is_on_chain k (held_number ((look (put c op.key next)).held_at k)) rec.ops (unwrap_or rec.revnos []) ≡ true) (sym (same_key-equal key op.key e)) here
          by key false e on =
              ap (λ (h : Held). is_on_chain key (held_number h) rec.ops (unwrap_or rec.revnos [])) ((doc_held_elsewhere c op.key next).held key (same_key-other key op.key e))
              ∙ ((parts c s).on_chain id rec u.at.there (ap (same_state state.Applying) u.at.applies)).on_chain key on

      chains : HasSoundChains (put c op.key next)
      chains = record { on_chain = λ i r there applies. (each i r there applies).0; fits = λ i r there applies. (each i r there applies).1 }
        where
          each : (i : TxnId) (r : Record) → record_at (put c op.key next) i ≡ Some r → IsTrue (same_state state.Applying r.state) → StandsOnChain (look (put c op.key next)) r × PendingFits (put c op.key next) r
          each i r there applies = by (is_eq (id_cmp i id)) refl
            where
              before : record_at c i ≡ Some r
              before = sym (Lookups.record_at-put_doc c (cell.Doc next) op.key i) ∙ there

              by : (b : Bool) → is_eq (id_cmp i id) ≡ b → StandsOnChain (look (put c op.key next)) r × PendingFits (put c op.key next) r
              by true e =
                  let same = id_cmp-IsAntisymmetric i id ((Equal-is (id_cmp i id)).0 e) in
                  let own : rec ≡ r = same_Some rec r (sym u.at.there ∙ ap (record_at c) (sym same) ∙ before) in
                  subst (λ (r : Record). StandsOnChain (look (put c op.key next)) r × PendingFits (put c op.key next) r) own own_stands
              by false e = other_stands i r before applies (λ q. true≢false (sym (ap is_eq (tied_itself id_cmp_total id)) ∙ sym (ap (λ (j : TxnId). is_eq (id_cmp j id)) q) ∙ e))

      -- a stash entry stays behind, and goes on being marked
      marks : (k : Key) → HasMarksAt (put c op.key next) k
      marks = marks_put_doc c op.key next s (record {
        of_doc = λ d mark there marked owner. absurd (unmarked mark (ap (λ (d : DocCell). d.remove) (same_Some next d there) ∙ marked));
        of_stash = λ e mark there marked owner. absurd (cc (owns_next, owner));
        entry = λ e there. record {
          no_tie = λ d is tie. lt_irrefl (epoch e.revno) (subst (λ (n : ℕ). epoch e.revno < n) (ap (λ (d : DocCell). epoch d.revno) (same_Some next d is) ∙ tie) (lt_of_le_of_lt (entry_behind doc e (ap (owner_of (Some doc)) (sym there) ∙ owns)) (next_above doc.revno (present doc found at))));
          owns = λ free. absurd (cc (ap (owner_of (Some doc)) (sym there) ∙ owns, ap (λ (d : Option DocCell). owner_of d (Some e)) (sym found) ∙ (((parts c s).marks op.key).entry e there).owns free));
        };
      })

      forward : ComesOn (look c) (look (put c op.key next))
      forward key = by_key key op.key (λ t. HasCome (look (put c op.key next)) key (held_number ((look c).held_at key)))
          (λ e. subst (λ (k : Key). HasCome (look (put c op.key next)) k (held_number ((look c).held_at k))) (sym e)
          (inr (subst (λ (n : ℕ). n < epoch_at (look (put c op.key next)) op.key) (ap (λ (h : Held). unsigned_abs (held_number h)) (sym held_now)) (subst (λ (n : ℕ). unsigned_abs doc.revno < n) (ap (λ (h : Held). unsigned_abs (held_number h)) (sym held_next)) (next_above doc.revno (present doc found at))))))
          (λ apart. inl (ap held_number ((doc_held_elsewhere c op.key next).held key apart)))

      same_records : records (put c op.key next) ≡ records c
      same_records = records-put_other c (name.Doc op.key) (cell.Doc next) refl (ap (option_and_then as_record) (doc_under c op.key doc found))

      -- the update leaves the meaning, and decides nothing
      pub written : IsQuiet c (put c op.key next)
      written = record {
        step = record {
          sound = sound_from (put c op.key next) cells step.orderly marks chains;
          later = step.later;
          lost = lost_same change.records change.queues;
          done = done_still change.records forward;
          cells = cells_stay (leaves_put_doc c op.key doc next found (λ mark marked. absurd (unmarked mark marked)));
        };
        entry = λ key. inl (Lookups.stash_at-put_doc c (cell.Doc next) op.key key);
        means = meaning-updated c id s.kinds rec u.at.there (put c op.key next) same_records op (doc_held_elsewhere c op.key next) only doc.body (ap body_in held_now) took body_done;
        none = λ at. decided_by-same c (put c op.key next) at s.kinds same_records;
      }
