-- Which tokens wait on which key.
use Rattle.std.proofs.Common.{◌≡◌, ℕ, zero, suc, ◌+◌, ◌<◌, ◌≤◌, ◌↔◌, Bool, true, cond, List, [], ◌∷◌, ◌++◌, length, get_or, take, Option, Some, None, MatchOption, IsTrue, inl, inr, ⊎_elim, refl, sym, ap, ◌∙◌, subst, arith}
use Rattle.std.proofs.lemmas.List.{take_more, take_all}
use Rattle.std.proofs.lemmas.Option.{same_Some}
use Rattle.std.specs.BTreeSet.{BTreeSet, contains}
use Rattle.std.specs.Ordering.{is_eq}
use Rattle.txn_key.specs.declared.id.Token.{Token}
use Rattle.txn_key.specs.declared.key.Key.{Key}
use Rattle.txn_record.specs.declared.op.Op.{Op}
use Rattle.txn_record.specs.declared.record.Record.{Record}
use Rattle.store_trait.specs.Cells.{as_doc, as_stash}
use Rattle.store_trait.specs.Contents.{Content}
use Rattle.store_trait.specs.Owners.{owner_of}
use Rattle.store_trait.specs.declared.cell.Cell.{Cell}
use Rattle.store_trait.specs.declared.cell.Cell.TheVariants as cell
use Rattle.store_trait.specs.declared.cell.DocCell.{DocCell}
use Rattle.store_trait.specs.declared.cell.Named.{Named}
use Rattle.store_trait.specs.declared.cell.StashCell.{StashCell}
use Rattle.store_trait.specs.declared.name.Name.TheVariants as name
use Rattle.store_trait.specs.declared.side.Side.{Side}
use Rattle.store_trait.specs.declared.side.Side.TheVariants as side
use Rattle.store_laws.specs.Readiness.{In, token}
use Rattle.store_laws.specs.Soundness.{IsInQueues}
use Rattle.store_laws.specs.View.{View, look, record_at, doc_at, stash_at, doc_queue, stash_queue, by_side, is_queued_state, IsOn}
use Rattle.store_laws.proofs.views.Queues.{in_more, in_less, in_right}
use Rattle.listed_cells.specs.Listing.{StandsAt, content_of}
use Rattle.listed_cells.specs.Standing.{AllWait, AreQueues, IsSetOf, Parts, parts_cmp, queue_in}
use Rattle.listed_cells.proofs.Listings.{doc_there, stash_there}
use Rattle.listed_cells.proofs.TokenSets.{same_seen, seen_itself, from_cond, cond_second, cond_first}

abbrev parts : Token → Parts
parts x = (x.id.0, x.nonce)

-- one token more
pub set_more : (old new : BTreeSet Parts) (tokens : List Token) (y : Token) → IsSetOf tokens old
    → ((q : Parts) → contains parts_cmp new q ≡ cond (is_eq (parts_cmp (parts y) q)) true (contains parts_cmp old q)) → IsSetOf (tokens ++ y ∷ []) new
set_more old new tokens y s updates x = (
  λ e. ⊎_elim (λ here. in_right x tokens (y ∷ []) (inl (same_seen y x here))) (λ there. in_more x y tokens ((s x).0 there))
      (from_cond (is_eq (parts_cmp (parts y) (parts x))) (contains parts_cmp old (parts x)) (sym (updates (parts x)) ∙ e)),
  λ h. updates (parts x) ∙ ⊎_elim
      (λ there. cond_second (is_eq (parts_cmp (parts y) (parts x))) (contains parts_cmp old (parts x)) ((s x).1 there))
      (λ e. cond_first (is_eq (parts_cmp (parts y) (parts x))) (contains parts_cmp old (parts x)) (subst (λ (z : Token). is_eq (parts_cmp (parts y) (parts z)) ≡ true) e (seen_itself y)))
      (in_less x y tokens h),
)

pub set_next : (old new : BTreeSet Parts) (queue : List Token) (i : ℕ) (d : Token) → i < length queue → IsSetOf (take i queue) old
    → ((q : Parts) → contains parts_cmp new q ≡ cond (is_eq (parts_cmp (parts (get_or queue i d)) q)) true (contains parts_cmp old q)) → IsSetOf (take (i + 1) queue) new
set_next old new queue i d within s updates =
    subst (λ (xs : List Token). IsSetOf xs new) (sym (take_more queue i d within)) (set_more old new (take i queue) (get_or queue i d) s updates)

pub set_all : (tokens : BTreeSet Parts) (queue : List Token) (i : ℕ) → length queue ≤ i → IsSetOf (take i queue) tokens → IsSetOf queue tokens
set_all tokens queue i past s = subst (λ (xs : List Token). IsSetOf xs tokens) (take_all i queue past) s

-- a set for each cell
queues_more : (cells : List Named) (queues : List (BTreeSet Parts)) (x : Named) (tokens : BTreeSet Parts) → AreQueues cells queues → IsSetOf (queue_in x.cell) tokens
    → AreQueues (cells ++ x ∷ []) (queues ++ tokens ∷ [])
queues_more [] [] x tokens q s = (s, tt)
queues_more [] (_ ∷ _) x tokens q s = absurd q
queues_more (_ ∷ _) [] x tokens q s = absurd q
queues_more (y ∷ cells) (t ∷ queues) x tokens q s = (q.0, queues_more cells queues x tokens q.1 s)

pub queues_next : (cells : List Named) (queues more : List (BTreeSet Parts)) (i : ℕ) (x : Named) (tokens : BTreeSet Parts) → i < length cells → x ≡ get_or cells i x
    → more ≡ queues ++ tokens ∷ [] → AreQueues (take i cells) queues → IsSetOf (queue_in x.cell) tokens → AreQueues (take (i + 1) cells) more
queues_next cells queues more i x tokens within is e q s =
    subst (AreQueues (take (i + 1) cells)) (sym e) (subst (λ (xs : List Named). AreQueues xs (queues ++ tokens ∷ []))
    (ap (λ (z : Named). take i cells ++ z ∷ []) is ∙ sym (take_more cells i x within)) (queues_more (take i cells) queues x tokens q s))

pub queues_all : (cells : List Named) (queues : List (BTreeSet Parts)) (i : ℕ) → length cells ≤ i → AreQueues (take i cells) queues → AreQueues cells queues
queues_all cells queues i past q = subst (λ (xs : List Named). AreQueues xs queues) (take_all i cells past) q

pub queues_none : (cells : List Named) (queues : List (BTreeSet Parts)) → queues ≡ [] → AreQueues (take 0 cells) queues
queues_none cells queues e = subst (AreQueues []) (sym e) tt

pub within_queues : (cells : List Named) (queues : List (BTreeSet Parts)) (k : ℕ) → AreQueues cells queues → k < length cells → k < length queues
within_queues [] queues k q below = absurd (omega arith)
within_queues (x ∷ cells) [] k q below = absurd q
within_queues (x ∷ cells) (t ∷ queues) zero q below = omega arith
within_queues (x ∷ cells) (t ∷ queues) (suc k) q below = let b = within_queues cells queues k q.1 (omega arith) in omega arith

set_at : (cells : List Named) (queues : List (BTreeSet Parts)) (k : ℕ) (d : Named) (e : BTreeSet Parts) → AreQueues cells queues → k < length cells
    → IsSetOf (queue_in (get_or cells k d).cell) (get_or queues k e)
set_at [] queues k d e q below = absurd (omega arith)
set_at (x ∷ cells) [] k d e q below = absurd q
set_at (x ∷ cells) (t ∷ queues) zero d e q below = q.0
set_at (x ∷ cells) (t ∷ queues) (suc k) d e q below = set_at cells queues k d e q.1 (omega arith)

an_element : (cells : List Named) (k : ℕ) → k < length cells → Named
an_element [] k below = absurd (omega arith)
an_element (x ∷ cells) k below = x

-- the set at the place of the owner tells who waits
pub waits_there : (cells : List Named) (queues : List (BTreeSet Parts)) (k : ℕ) (tokens : BTreeSet Parts) (x : Token) (queue : List Token) (b : Bool) → AreQueues cells queues → k < length cells
    → tokens ≡ get_or queues k tokens → ((d : Named) → queue_in (get_or cells k d).cell ≡ queue) → b ≡ contains parts_cmp tokens (parts x) → IsTrue b ↔ In x queue
waits_there cells queues k tokens x queue b q below is same e =
    let d : Named = an_element cells k below in
    let s : IsSetOf queue tokens
    = subst (λ (t : BTreeSet Parts). IsSetOf queue t) (sym is) (subst (λ (xs : List Token). IsSetOf xs (get_or queues k tokens)) (same d) (set_at cells queues k d tokens q below)) in
    (λ h. (s x).0 (sym e ∙ h), λ i. e ∙ (s x).1 i)

-- the owner's queue is that of the cell at its place
not_doc : (s : Option StashCell) → side.Document ≡ owner_of None s → ⊥
not_doc None e = cc
not_doc (Some s) e = cc

doc_queue_in : (x : Cell) (s : Option StashCell) → side.Document ≡ owner_of (as_doc x) s → queue_in x ≡ doc_queue (as_doc x)
doc_queue_in (cell.Doc doc) s e = refl
doc_queue_in (cell.Record rec) s e = absurd (not_doc s e)
doc_queue_in (cell.Stash stash) s e = absurd (not_doc s e)
doc_queue_in (cell.Nonce n) s e = absurd (not_doc s e)

not_stash : (d : Option DocCell) → side.Stash ≡ owner_of d None → ⊥
not_stash None e = cc
not_stash (Some d) e = cc

stash_queue_in : (x : Cell) (d : Option DocCell) → side.Stash ≡ owner_of d (as_stash x) → queue_in x ≡ stash_queue (as_stash x)
stash_queue_in (cell.Doc doc) d e = absurd (not_stash d e)
stash_queue_in (cell.Record rec) d e = absurd (not_stash d e)
stash_queue_in (cell.Stash stash) d e = refl
stash_queue_in (cell.Nonce n) d e = absurd (not_stash d e)

module _ (cells : List Named) (key : Key) where
  owned : (s : Side) → s ≡ owner_of (doc_at (content_of cells) key) (stash_at (content_of cells) key)
      → (look (content_of cells)).queue_at key ≡ by_side s [] (doc_queue (doc_at (content_of cells) key)) (stash_queue (stash_at (content_of cells) key))
  unfolding look
  owned s e = ap (λ t. by_side t [] (doc_queue (doc_at (content_of cells) key)) (stash_queue (stash_at (content_of cells) key))) (sym e)

  pub doc_owner : (o : Option ℕ) → StandsAt cells (name.Doc key) o → side.Document ≡ owner_of (doc_at (content_of cells) key) (stash_at (content_of cells) key)
      → MatchOption o ((look (content_of cells)).queue_at key ≡ []) (λ k. (d : Named) → queue_in (get_or cells k d).cell ≡ (look (content_of cells)).queue_at key)
  doc_owner None e s = absurd (not_doc _ (subst (λ x. side.Document ≡ owner_of x (stash_at (content_of cells) key)) (doc_there (content_of cells) key None e) s))
  doc_owner (Some k) e s = λ d.
      let there = doc_there (content_of cells) key (Some (get_or cells k d).cell) (e.1 d) in
      doc_queue_in (get_or cells k d).cell (stash_at (content_of cells) key) (subst (λ x. side.Document ≡ owner_of x (stash_at (content_of cells) key)) there s)
      ∙ ap doc_queue (sym there) ∙ sym (owned side.Document s)

  pub stash_owner : (o : Option ℕ) → StandsAt cells (name.Stash key) o → side.Stash ≡ owner_of (doc_at (content_of cells) key) (stash_at (content_of cells) key)
      → MatchOption o ((look (content_of cells)).queue_at key ≡ []) (λ k. (d : Named) → queue_in (get_or cells k d).cell ≡ (look (content_of cells)).queue_at key)
  stash_owner None e s = absurd (not_stash _ (subst (λ x. side.Stash ≡ owner_of (doc_at (content_of cells) key) x) (stash_there (content_of cells) key None e) s))
  stash_owner (Some k) e s = λ d.
      let there = stash_there (content_of cells) key (Some (get_or cells k d).cell) (e.1 d) in
      stash_queue_in (get_or cells k d).cell (doc_at (content_of cells) key) (subst (λ x. side.Stash ≡ owner_of (doc_at (content_of cells) key) x) there s)
      ∙ ap stash_queue (sym there) ∙ sym (owned side.Stash s)

  pub no_owner : side.Neither ≡ owner_of (doc_at (content_of cells) key) (stash_at (content_of cells) key) → (look (content_of cells)).queue_at key ≡ []
  no_owner s = owned side.Neither s

-- a pass over operations
all_more : (view : View) (x : Token) (ops : List Op) (op : Op) → AllWait view x ops → In x (view.queue_at op.key) → AllWait view x (ops ++ op ∷ [])
all_more view x [] op all here = (here, tt)
all_more view x (o ∷ ops) op all here = (all.0, all_more view x ops op all.1 here)

pub all_next : (view : View) (x : Token) (ops : List Op) (i : ℕ) (op : Op) → i < length ops → op ≡ get_or ops i op → AllWait view x (take i ops) → In x (view.queue_at op.key)
    → AllWait view x (take (i + 1) ops)
all_next view x ops i op within is all here =
    subst (AllWait view x) (ap (λ (z : Op). take i ops ++ z ∷ []) is ∙ sym (take_more ops i op within)) (all_more view x (take i ops) op all here)

pub all_past : (view : View) (x : Token) (ops : List Op) (i : ℕ) → length ops ≤ i → AllWait view x (take i ops) → AllWait view x ops
all_past view x ops i past all = subst (AllWait view x) (take_all i ops past) all

waits_at : (view : View) (x : Token) (ops : List Op) (i : ℕ) (d : Op) → i < length ops → AllWait view x ops → In x (view.queue_at (get_or ops i d).key)
waits_at view x [] i d within all = absurd (omega arith)
waits_at view x (op ∷ ops) zero d within all = all.0
waits_at view x (op ∷ ops) (suc i) d within all = waits_at view x ops i d (omega arith) all.1

pub waits_here : (view : View) (x : Token) (ops : List Op) (i : ℕ) (op : Op) → i < length ops → op ≡ get_or ops i op → AllWait view x ops → In x (view.queue_at op.key)
waits_here view x ops i op within is all = subst (λ (o : Op). In x (view.queue_at o.key)) (sym is) (waits_at view x ops i op within all)

all_on : (view : View) (x : Token) (ops : List Op) (key : Key) → AllWait view x ops → IsOn key ops → In x (view.queue_at key)
all_on view x [] key all on = absurd on
all_on view x (op ∷ ops) key all (inl e) = subst (λ k. In x (view.queue_at k)) e all.0
all_on view x (op ∷ ops) key all (inr on) = all_on view x ops key all.1 on

on_all : (view : View) (x : Token) (ops : List Op) → ((key : Key) → IsOn key ops → In x (view.queue_at key)) → AllWait view x ops
on_all view x [] f = tt
on_all view x (op ∷ ops) f = (f op.key (inl refl), on_all view x ops (λ key on. f key (inr on)))

-- what the rule asks of a record that has to wait
pub in_queues : (c : Content) (rec : Record) (nonce : ℕ) (ops : List Op) (b : Bool) → record_at c rec.id ≡ Some rec → rec.nonce ≡ Some nonce → is_queued_state rec.state ≡ true → ops ≡ rec.ops
    → (IsTrue b ↔ AllWait (look c) (token rec.id nonce) ops) → IsTrue b ↔ IsInQueues c rec.id
in_queues c rec nonce ops b there is queued same tells = (
  λ h other n key r q m on.
      let one : rec ≡ other = same_Some rec other (sym there ∙ r) in
      let number : nonce ≡ n = same_Some nonce n (sym is ∙ subst (λ (x : Record). x.nonce ≡ Some n) (sym one) m) in
      subst (λ k. In (token rec.id k) ((look c).queue_at key)) number
      (all_on (look c) (token rec.id nonce) ops key (tells.0 h) (subst (IsOn key) (sym same) (subst (λ (x : Record). IsOn key x.ops) (sym one) on))),
  λ f. tells.1 (on_all (look c) (token rec.id nonce) ops (λ key on. f rec nonce key there queued is (subst (IsOn key) same on))),
)
