-- Pending operations of the cells in turn: they fit as those of each cell alone, since no two applying
-- records are on one key.
use Rattle.std.proofs.Common.{◌≡◌, ◌≢◌, ◌<◌, ◌&&◌, ℕ, zero, suc, Bool, true, false, T, Option, Some, None, option_to_list, option_map, List, [], ◌∷◌, length, get_or, if◌then◌else◌, sym, ap, ◌∙◌, refl, subst, arith}
use Rattle.std.specs.Prelude.{option_and_then}
use Rattle.std.specs.FinMap.{get, is_sorted}
use Rattle.std.specs.FinMap.Entries.{below_all}
use Rattle.std.specs.List.{AllByRecursion, AllWithin, HoldsAt}
use Rattle.std.specs.Ordering.{is_lt}
use Rattle.std.specs.declared.cmp.Ordering.{Ordering}
use Rattle.std.specs.declared.cmp.Ordering.TheVariants.{Less, Equal, Greater}
use Rattle.std.proofs.lemmas.Cmp.{tied_itself}
use Rattle.txn_key.specs.Documents.{Docs}
use Rattle.txn_key.specs.declared.id.TxnId.{TxnId}
use Rattle.txn_key.specs.declared.id.Token.{Token}
use Rattle.txn_key.specs.declared.key.Key.{Key}
use Rattle.txn_record.specs.Effects.{effect, changes_fit}
use Rattle.txn_record.specs.declared.record.Record.{Record}
use Rattle.store_trait.proofs.NameOrder.{name_cmp_total}
use Rattle.store_trait.specs.Cells.{as_record}
use Rattle.store_trait.specs.Contents.{Content}
use Rattle.store_trait.specs.Names.{name_cmp, may_stand}
use Rattle.store_trait.specs.Owners.{owner_of}
use Rattle.store_trait.specs.declared.cell.Cell.{Cell}
use Rattle.store_trait.specs.declared.cell.Cell.TheVariants as cell
use Rattle.store_trait.specs.declared.cell.DocCell.{DocCell}
use Rattle.store_trait.specs.declared.cell.StashCell.{StashCell}
use Rattle.store_trait.specs.declared.cell.Named.{Named}
use Rattle.store_trait.specs.declared.name.Name.{Name}
use Rattle.store_trait.specs.declared.name.Name.TheVariants as name
use Rattle.store_trait.specs.declared.side.Side.{Side}
use Rattle.store_trait.specs.declared.side.Side.TheVariants as side
use Rattle.store_laws.specs.Meaning.{bodies}
use Rattle.store_laws.specs.Readiness.{In}
use Rattle.store_laws.specs.Soundness.{Rule, Holds, rule_number, HasSoundTokens, tokens_of_doc, tokens_of_stash}
use Rattle.store_laws.specs.View.{View, look, record_at, doc_at, stash_at, applying, by_side, doc_queue, stash_queue, HasKey, IsOn}
use Rattle.store_laws.proofs.cells.Records.{same_id-equal}
use Rattle.store_laws.proofs.cells.Under.{record_under, doc_under, stash_under}
use Rattle.store_laws.proofs.meanings.Fitting.{changes_fit-agree}
use Rattle.store_laws.proofs.meanings.Idle.{on_pending}
use Rattle.store_laws.proofs.meanings.Runs.{run_on-away, get-effect}
use Rattle.store_laws.proofs.views.Exclusive.{one_applying}
use Rattle.store_laws.proofs.views.Orderly.{IsOrderly, numbered_nonce}
use Rattle.store_laws.proofs.views.Queues.{in_left}
use Rattle.store_laws.proofs.views.Views.{applying_at}
use Rattle.txn_audit.specs.Bodies.{pending_in, first_unfit}
use Rattle.listed_cells.specs.Listing.{entries_of}

-- ---- order from the rules but the last

-- all rules but the last hold at all names
abbrev pub AllBut : Content → Type 0
AllBut c = (r : Rule) → rule_number r < 10 → (n : Name) → Holds r c n

module _ (view : View) (key : Key) (x : Token) where
  of_doc : (found : Option DocCell) → ((doc : DocCell) → found ≡ Some doc → HasSoundTokens view key doc.queue (tokens_of_doc doc)) → In x (doc_queue found) → HasKey view x.id key
  of_doc None sound h = absurd h
  of_doc (Some doc) sound h = (sound doc refl).named x (in_left x doc.queue (option_to_list doc.remove) h)

  of_stash : (found : Option StashCell) → ((stash : StashCell) → found ≡ Some stash → HasSoundTokens view key stash.queue (tokens_of_stash stash)) → In x (stash_queue found) → HasKey view x.id key
  of_stash None sound h = absurd h
  of_stash (Some stash) sound h = (sound stash refl).named x (in_left x stash.queue (option_to_list stash.insert) h)

  of_owner : (owner : Side) (doc stash : List Token) → (In x doc → HasKey view x.id key) → (In x stash → HasKey view x.id key) → In x (by_side owner [] doc stash) → HasKey view x.id key
  of_owner side.Neither doc stash d s h = absurd h
  of_owner side.Document doc stash d s h = d h
  of_owner side.Stash doc stash d s h = s h

pub orderly_but : (c : Content) → AllBut c → IsOrderly (look c)
unfolding look
orderly_but c all = record {
  named = λ key x h. of_owner (look c) key x (owner_of (doc_at c key) (stash_at c key)) (doc_queue (doc_at c key)) (stash_queue (stash_at c key))
      (of_doc (look c) key x (doc_at c key) (λ doc found. all Rule.Tokens (omega arith) (name.Doc key) (cell.Doc doc) (doc_under c key doc found)))
      (of_stash (look c) key x (stash_at c key) (λ stash found. all Rule.Tokens (omega arith) (name.Stash key) (cell.Stash stash) (stash_under c key stash found))) h;
  drawn = λ id rec there d. numbered_nonce rec (all Rule.Numbers (omega arith) (name.Record id) (cell.Record rec) (record_under c id rec there)) d;
  queued = λ id. all Rule.InQueues (omega arith) (name.Record id);
  ready = λ id. all Rule.AppliesReady (omega arith) (name.Record id);
  sealed = λ id. all Rule.DecidedSealed (omega arith) (name.Record id);
}

-- ---- the cells as they stand

pub record Stands (c : Content) (x : Named) : Type 0 where
  pub found : get c x.name ≡ Some x.cell
  pub kind : may_stand x.name x.cell ≡ true

own_name : (n : Name) (rec : Record) → may_stand n (cell.Record rec) ≡ true → n ≡ name.Record rec.id
own_name (name.Record id) rec e = ap name.Record (same_id-equal id rec.id e)
own_name _ rec e = cc

-- the applying record that has something to do on a key
record Works (c : Content) (n : Name) (key : Key) : Type 0 where
  id : TxnId
  named : n ≡ name.Record id
  applies : applying (look c) id ≡ true
  has : HasKey (look c) id key

works : (c : Content) (n : Name) (x : Cell) → get c n ≡ Some x → may_stand n x ≡ true → (key : Key) → IsOn key (pending_in (look c) x) → Works c n key
unfolding look record_at
works c n (cell.Record rec) found kind key on =
    let own = own_name n rec kind in
    let there : record_at c rec.id ≡ Some rec = ap (option_and_then as_record) (subst (λ (m : Name). get c m ≡ Some (cell.Record rec)) own found) in
    let parts = on_pending (look c) key rec on in
    record { id = rec.id; named = own; applies = applying_at (look c) rec.id rec there ∙ parts.0; has = record { rec = rec; there = there; on = parts.1 } }
works c n (cell.Doc doc) found kind key on = absurd on
works c n (cell.Stash stash) found kind key on = absurd on
works c n (cell.Nonce nonce) found kind key on = absurd on

both : (a b : Bool) → T (a && b) → T a × T b
both true b p = (tt, p)
both false b p = absurd p

unlike : (m n : Name) → T (is_lt (name_cmp m n)) → m ≢ n
unlike m n p q = by (name_cmp n n) (tied_itself name_cmp_total n) (subst (λ (z : Name). T (is_lt (name_cmp z n))) q p)
  where
    by : (r : Ordering) → r ≡ Equal → T (is_lt r) → ⊥
    by Less e p = cc
    by Equal e p = p
    by Greater e p = p

module _ (c : Content) (o : IsOrderly (look c)) where
  apart : (x y : Named) → Stands c x → Stands c y → x.name ≢ y.name → (key : Key) → IsOn key (pending_in (look c) x.cell) → IsOn key (pending_in (look c) y.cell) → ⊥
  apart x y s t differ key on also =
      let a = works c x.name x.cell s.found s.kind key on in
      let b = works c y.name y.cell t.found t.kind key also in
      one_applying o key a.id b.id a.has b.has a.applies b.applies (λ e. differ (a.named ∙ ap name.Record e ∙ sym b.named))

  -- documents as they lie, where the cells have something to do
  abbrev pub Agrees : Docs → List Named → Type 0
  Agrees docs cells = AllByRecursion (λ (x : Named). (key : Key) → IsOn key (pending_in (look c) x.cell) → get docs key ≡ get (bodies c) key) cells

  agrees_after : (x : Named) (rest : List Named) (docs : Docs) → Stands c x → AllByRecursion (Stands c) rest → T (below_all name_cmp x.name (entries_of rest)) → Agrees docs rest → Agrees (effect (pending_in (look c) x.cell) docs) rest
  agrees_after x [] docs s all below agree = tt
  agrees_after x (y ∷ rest) docs s all below agree =
      let parts = both _ _ below in (
        (λ key on. get-effect key (pending_in (look c) x.cell) docs
            ∙ run_on-away key (pending_in (look c) x.cell) (get docs key) (λ here. apart x y s all.0 (unlike x.name y.name parts.0) key here on)
            ∙ agree.0 key on),
        agrees_after x rest docs s all.1 parts.1 agree.1,
      )

  -- what the cell has to do fits on the documents as they lie
  abbrev pub FitsAt : Named → Bool → Type 0
  FitsAt x b = changes_fit (pending_in (look c) x.cell) (bodies c) ≡ b

  test_agrees : (x : Named) (docs : Docs) → ((key : Key) → IsOn key (pending_in (look c) x.cell) → get docs key ≡ get (bodies c) key) → (b : Bool) → changes_fit (pending_in (look c) x.cell) docs ≡ b → FitsAt x b
  test_agrees x docs agree b e = sym (changes_fit-agree (pending_in (look c) x.cell) docs (bodies c) agree) ∙ e

  pub all_fit : (cells : List Named) (docs : Docs) → T (is_sorted name_cmp (entries_of cells)) → AllByRecursion (Stands c) cells → Agrees docs cells → first_unfit (look c) cells docs ≡ None → AllByRecursion (λ (x : Named). FitsAt x true) cells
  all_fit [] docs s all agree e = tt
  all_fit (x ∷ cells) docs s all agree e =
      let parts = both _ _ s in
      let test = changes_fit (pending_in (look c) x.cell) docs in
      by test refl (all_fit cells (effect (pending_in (look c) x.cell) docs) parts.1 all.1 (agrees_after x cells docs all.0 all.1 parts.0 agree.1)) e
    where
      shifted : (found : Option ℕ) → option_map suc found ≡ None → found ≡ None
      shifted None e = refl
      shifted (Some n) e = cc

      by : (b : Bool) → changes_fit (pending_in (look c) x.cell) docs ≡ b
          → (first_unfit (look c) cells (effect (pending_in (look c) x.cell) docs) ≡ None → AllByRecursion (λ (x : Named). FitsAt x true) cells)
          → (if b then option_map suc (first_unfit (look c) cells (effect (pending_in (look c) x.cell) docs)) else Some 0) ≡ None → AllByRecursion (λ (x : Named). FitsAt x true) (x ∷ cells)
      by true t rest e = (test_agrees x docs agree.0 true t, rest (shifted _ e))
      by false t rest e = cc

  pub record FirstUnfit (cells : List Named) (place : ℕ) : Type 0 where
    pub within : place < length cells
    pub fails : HoldsAt (λ (x : Named). FitsAt x false) cells place
    pub before : AllWithin (λ (x : Named). FitsAt x true) cells 0 place

  pub one_fails : (cells : List Named) (docs : Docs) (place : ℕ) → T (is_sorted name_cmp (entries_of cells)) → AllByRecursion (Stands c) cells → Agrees docs cells → first_unfit (look c) cells docs ≡ Some place → FirstUnfit cells place
  one_fails [] docs place s all agree e = cc
  one_fails (x ∷ cells) docs place s all agree e =
      let parts = both _ _ s in
      let test = changes_fit (pending_in (look c) x.cell) docs in
      by test refl (λ p. one_fails cells (effect (pending_in (look c) x.cell) docs) p parts.1 all.1 (agrees_after x cells docs all.0 all.1 parts.0 agree.1)) e
    where
      by : (b : Bool) → changes_fit (pending_in (look c) x.cell) docs ≡ b
          → ((p : ℕ) → first_unfit (look c) cells (effect (pending_in (look c) x.cell) docs) ≡ Some p → FirstUnfit cells p)
          → (if b then option_map suc (first_unfit (look c) cells (effect (pending_in (look c) x.cell) docs)) else Some 0) ≡ Some place → FirstUnfit (x ∷ cells) place
      by true t rest e = later (first_unfit (look c) cells (effect (pending_in (look c) x.cell) docs)) rest e
        where
          at : (p : ℕ) → FirstUnfit cells p → (q : ℕ) → suc p ≡ q → FirstUnfit (x ∷ cells) q
          at p f q e = subst (FirstUnfit (x ∷ cells)) e (record {
            within = omega (arith, f.within);
            fails = λ d. f.fails d;
            before = λ k d low high. each p f k d high;
          })
            where
              each : (p : ℕ) → FirstUnfit cells p → (k : ℕ) (d : Named) → k < suc p → FitsAt (get_or (x ∷ cells) k d) true
              each p f zero d high = test_agrees x docs agree.0 true t
              each p f (suc k) d high = f.before k d (omega arith) (omega arith)

          later : (found : Option ℕ) → ((p : ℕ) → found ≡ Some p → FirstUnfit cells p) → option_map suc found ≡ Some place → FirstUnfit (x ∷ cells) place
          later None rest e = cc
          later (Some p) rest e = let q : suc p ≡ place = cc in at p (rest p refl) place q
      by false t rest e =
          let q : 0 ≡ place = cc in
          subst (FirstUnfit (x ∷ cells)) q (record {
            within = omega arith;
            fails = λ d. test_agrees x docs agree.0 false t;
            before = λ k d low high. absurd (omega arith);
          })
