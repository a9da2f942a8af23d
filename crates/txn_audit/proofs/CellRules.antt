-- Rules at the names of cells, and at all names.
use Rattle.std.proofs.Common.{◌≡◌, ℕ, zero, suc, ◌+◌, ◌<◌, ◌≤◌, ◌↔◌, Bool, true, false, List, [], ◌∷◌, length, get_or, Option, Some, None, cond, inl, inr, refl, sym, ap, ◌∙◌, subst, arith, IsTrue}
use Rattle.std.proofs.lemmas.Bool.{cases_lt, false≢true}
use Rattle.std.proofs.lemmas.Cmp.{tied_itself}
use Rattle.std.specs.FinMap.{get, find}
use Rattle.std.specs.Ordering.{is_eq, ordering_reverse}
use Rattle.std.specs.declared.cmp.Ordering.{Ordering}
use Rattle.std.specs.declared.cmp.Ordering.TheVariants.{Less, Equal, Greater}
use Rattle.txn_key.specs.declared.id.TxnId.{TxnId}
use Rattle.txn_record.specs.declared.record.Record.{Record}
use Rattle.store_trait.specs.Contents.{Content}
use Rattle.store_trait.specs.Names.{name_cmp, may_stand, same_state}
use Rattle.store_trait.specs.declared.cell.Cell.{Cell}
use Rattle.store_trait.specs.declared.cell.Cell.TheVariants as cell
use Rattle.store_trait.specs.declared.cell.Named.{Named}
use Rattle.store_trait.specs.declared.name.Name.{Name}
use Rattle.store_trait.specs.declared.name.Name.TheVariants as name
use Rattle.store_trait.proofs.NameOrder.{name_cmp_total, name_cmp-IsAntisymmetric}
use Rattle.store_laws.specs.Soundness.{Rule, Holds, rule_number, AtCell, AtRecord, Numbers, Tokens, Nonces, InQueues, AppliesReady, DecidedSealed, Marks, Entries, OnChain, Fits, IsInQueues, StandsOnChain, IfApplying, HasTokens, is_numbered_record}
use Rattle.store_laws.specs.Readiness.{IsReady, Sealed}
use Rattle.store_laws.proofs.cells.Records.{same_id-equal}
use Rattle.txn_record.specs.States.{was_decided_state}
use Rattle.txn_record.specs.declared.state.State.{State}
use Rattle.txn_record.specs.declared.state.State.TheVariants as state
use Rattle.store_laws.specs.View.{look, record_at, applying, was_decided, state_passes}
use Rattle.txn_audit.specs.Checks.{IsCellOf, HoldsAtPlace, FailsFirst, HoldBelow}
use Rattle.txn_audit.specs.Flaws.{HoldsAtAll, IsFirstBroken, rule_of}
use Rattle.listed_cells.specs.Listing.{IsListing, content_of, entries_of}
use Rattle.listed_cells.proofs.Listings.{record_there, doc_there, stash_there, ordered_at, found_by, stands_at, held}

-- of the cell under a name
pub at_cell : (c : Content) (P : Cell → Type 0) (n : Name) (x : Cell) → get c n ≡ Some x → P x ↔ AtCell c P n
at_cell c P n x e = (λ p y f. subst P (same (sym e ∙ f)) p, λ all. all x e)
  where
    same : {y : Cell} → Some x ≡ Some y → x ≡ y
    same q = cc

-- a record's cell stands under its id
named_record : (n : Name) (rec : Record) → may_stand n (cell.Record rec) ≡ true → n ≡ name.Record rec.id
named_record (name.Record id) rec h = ap name.Record (same_id-equal id rec.id h)
named_record (name.Doc key) rec h = absurd (false≢true h)
named_record (name.Stash key) rec h = absurd (false≢true h)
named_record name.Nonce rec h = absurd (false≢true h)

-- whether a record in such a state is meant
meant : (test other b : Bool) (A : Type 0) → test ≡ true → other ≡ test → (IsTrue b ↔ A) → IsTrue b ↔ (other ≡ true → A)
meant test other b A t e tells = (λ h on. tells.0 h, λ f. tells.1 (f (e ∙ t)))

unmeant : (test other : Bool) (A : Type 0) → test ≡ false → other ≡ test → other ≡ true → A
unmeant test other A t e on = absurd (false≢true (sym t ∙ sym e ∙ on))

module _ (c : Content) (x : Named) (rec : Record) (s : IsCellOf c x) (e : x.cell ≡ cell.Record rec) where
  pub named : x.name ≡ name.Record rec.id
  named = named_record x.name rec (subst (λ y. may_stand x.name y ≡ true) e s.kind)

  pub record_stands : record_at c rec.id ≡ Some rec
  record_stands = record_there c rec.id (Some (cell.Record rec)) (subst (λ n. get c n ≡ Some (cell.Record rec)) named (s.there ∙ ap Some e))

  at_record : (P : TxnId → Type 0) → P rec.id → AtRecord P x.name
  at_record P p = subst (AtRecord P) (sym named) p

  of_record : (P : TxnId → Type 0) → AtRecord P x.name → P rec.id
  of_record P p = subst (AtRecord P) named p

  tells_at : (P : TxnId → Type 0) (b : Bool) → (IsTrue b ↔ P rec.id) → IsTrue b ↔ AtRecord P x.name
  tells_at P b tells = (λ h. at_record P (tells.0 h), λ p. tells.1 (of_record P p))

  passes_as : (test : State → Bool) → state_passes test (record_at c rec.id) ≡ test rec.state
  passes_as test = ap (state_passes test) record_stands

  only_this : (other : Record) → record_at c rec.id ≡ Some other → rec ≡ other
  only_this other there = let q : Some rec ≡ Some other = sym record_stands ∙ there in cc

  pub queues_tell : (b : Bool) → (IsTrue b ↔ IsInQueues c rec.id) → IsTrue b ↔ Holds InQueues c x.name
  queues_tell b tells = tells_at (IsInQueues c) b tells

  pub ready_tells : (b : Bool) → same_state state.Applying rec.state ≡ true → (IsTrue b ↔ IsReady (look c) rec.id) → IsTrue b ↔ Holds AppliesReady c x.name
  unfolding look applying
  ready_tells b on tells = tells_at (λ id. applying (look c) id ≡ true → IsReady (look c) id) b (meant _ _ b _ on (passes_as (same_state state.Applying)) tells)

  pub ready_idle : same_state state.Applying rec.state ≡ false → Holds AppliesReady c x.name
  unfolding look applying
  ready_idle off = at_record (λ id. applying (look c) id ≡ true → IsReady (look c) id) (unmeant _ _ _ off (passes_as (same_state state.Applying)))

  pub sealed_tells : (b : Bool) → was_decided_state rec.state ≡ true → (IsTrue b ↔ Sealed (look c) rec.id) → IsTrue b ↔ Holds DecidedSealed c x.name
  unfolding look was_decided
  sealed_tells b on tells = tells_at (λ id. was_decided (look c) id ≡ true → Sealed (look c) id) b (meant _ _ b _ on (passes_as was_decided_state) tells)

  pub sealed_idle : was_decided_state rec.state ≡ false → Holds DecidedSealed c x.name
  unfolding look was_decided
  sealed_idle off = at_record (λ id. was_decided (look c) id ≡ true → Sealed (look c) id) (unmeant _ _ _ off (passes_as was_decided_state))

  pub chain_tells : (b : Bool) → same_state state.Applying rec.state ≡ true → (IsTrue b ↔ StandsOnChain (look c) rec) → IsTrue b ↔ Holds OnChain c x.name
  chain_tells b on tells = tells_at (IfApplying c (StandsOnChain (look c))) b (
    λ h other there applies. subst (StandsOnChain (look c)) (only_this other there) (tells.0 h),
    λ f. tells.1 (f rec record_stands on),
  )

  pub chain_idle : same_state state.Applying rec.state ≡ false → Holds OnChain c x.name
  chain_idle off = at_record (IfApplying c (StandsOnChain (look c)))
      (λ other there applies. absurd (false≢true (sym off ∙ subst (λ (r : Record). same_state state.Applying r.state ≡ true) (sym (only_this other there)) applies)))

  pub numbered_here : HoldsAtAll c Numbers → is_numbered_record rec ≡ true
  numbered_here all = all x.name (cell.Record rec) (s.there ∙ ap Some e)

-- tokens under a cell's name
pub tokens_tell : (c : Content) (x : Named) (b : Bool) → IsCellOf c x → (IsTrue b ↔ HasTokens (look c) x.name x.cell) → IsTrue b ↔ Holds Tokens c x.name
tokens_tell c x b s tells =
    let at = at_cell c (HasTokens (look c) x.name) x.name x.cell s.there in
    (λ h. at.0 (tells.0 h), λ p. tells.1 (at.1 p))

none_some : {A : Type 0} (x : A) → None ≡ Some x → ⊥
none_some x e = cc

-- where no cell is, no rule asks for anything
module _ (c : Content) where
  no_record : (id : TxnId) → get c (name.Record id) ≡ None → (rec : Record) → record_at c id ≡ Some rec → ⊥
  no_record id e rec there = none_some rec (sym (record_there c id None e) ∙ there)

  not_passing : (test : State → Bool) (id : TxnId) → get c (name.Record id) ≡ None → state_passes test (record_at c id) ≡ true → ⊥
  not_passing test id e h = false≢true (sym (ap (state_passes test) (record_there c id None e)) ∙ h)

  pub nothing_asked : (rule : Rule) (n : Name) → get c n ≡ None → Holds rule c n
  unfolding look applying was_decided
  nothing_asked Numbers n e = λ x f. absurd (none_some x (sym e ∙ f))
  nothing_asked Tokens n e = λ x f. absurd (none_some x (sym e ∙ f))
  nothing_asked Nonces n e = λ x f. absurd (none_some x (sym e ∙ f))
  nothing_asked InQueues (name.Record id) e = λ rec nonce key there q m on. absurd (no_record id e rec there)
  nothing_asked InQueues (name.Doc key) e = tt
  nothing_asked InQueues (name.Stash key) e = tt
  nothing_asked InQueues name.Nonce e = tt
  nothing_asked AppliesReady (name.Record id) e = λ h. absurd (not_passing _ id e h)
  nothing_asked AppliesReady (name.Doc key) e = tt
  nothing_asked AppliesReady (name.Stash key) e = tt
  nothing_asked AppliesReady name.Nonce e = tt
  nothing_asked DecidedSealed (name.Record id) e = λ h. absurd (not_passing _ id e h)
  nothing_asked DecidedSealed (name.Doc key) e = tt
  nothing_asked DecidedSealed (name.Stash key) e = tt
  nothing_asked DecidedSealed name.Nonce e = tt
  nothing_asked Marks (name.Record id) e = tt
  nothing_asked Marks (name.Doc key) e = λ doc mark there m o. absurd (none_some doc (sym (doc_there c key None e) ∙ there))
  nothing_asked Marks (name.Stash key) e = λ stash mark there m o. absurd (none_some stash (sym (stash_there c key None e) ∙ there))
  nothing_asked Marks name.Nonce e = tt
  nothing_asked Entries (name.Record id) e = tt
  nothing_asked Entries (name.Doc key) e = tt
  nothing_asked Entries (name.Stash key) e = λ stash there. absurd (none_some stash (sym (stash_there c key None e) ∙ there))
  nothing_asked Entries name.Nonce e = tt
  nothing_asked OnChain (name.Record id) e = λ rec there. absurd (no_record id e rec there)
  nothing_asked OnChain (name.Doc key) e = tt
  nothing_asked OnChain (name.Stash key) e = tt
  nothing_asked OnChain name.Nonce e = tt
  nothing_asked Fits (name.Record id) e = λ rec there. absurd (no_record id e rec there)
  nothing_asked Fits (name.Doc key) e = tt
  nothing_asked Fits (name.Stash key) e = tt
  nothing_asked Fits name.Nonce e = tt

-- what stands under a name is listed
Listed : Name → List Named → Type 0
Listed n cells = (k : ℕ) × (k < length cells) × ((d : Named) → (get_or cells k d).name ≡ n)

later : (n : Name) (x : Named) (cells : List Named) → Listed n cells → Listed n (x ∷ cells)
unfolding Listed
later n x cells (k, within, is) = (suc k, omega arith, is)

found_where : (n : Name) (cells : List Named) (y : Cell) → find name_cmp n (entries_of cells) ≡ Some y → Listed n cells
unfolding Listed
found_where n [] y e = absurd (none_some y e)
found_where n (x ∷ cells) y e = by_order _ refl (found_where n cells y)
  where
    by_order : (r : Ordering) → name_cmp n x.name ≡ r → (find name_cmp n (entries_of cells) ≡ Some y → Listed n cells) → Listed n (x ∷ cells)
    by_order Less is rest = later n x cells (rest (sym (ap (λ r. cond (is_eq r) (Some x.cell) (find name_cmp n (entries_of cells))) is) ∙ e))
    by_order Equal is rest = (zero, omega arith, λ d. sym (name_cmp-IsAntisymmetric n x.name is))
    by_order Greater is rest = later n x cells (rest (sym (ap (λ r. cond (is_eq r) (Some x.cell) (find name_cmp n (entries_of cells))) is) ∙ e))

-- rules and their numbers
of_number : (rule : Rule) → rule_of (rule_number rule) ≡ rule
of_number Numbers = refl
of_number Tokens = refl
of_number Nonces = refl
of_number InQueues = refl
of_number AppliesReady = refl
of_number DecidedSealed = refl
of_number Marks = refl
of_number Entries = refl
of_number OnChain = refl
of_number Fits = refl

number_of : (n : ℕ) → 1 ≤ n → n < 10 → rule_number (rule_of n) ≡ n
number_of zero low high = absurd (omega arith)
number_of (suc zero) low high = refl
number_of (suc (suc zero)) low high = refl
number_of (suc (suc (suc zero))) low high = refl
number_of (suc (suc (suc (suc zero)))) low high = refl
number_of (suc (suc (suc (suc (suc zero))))) low high = refl
number_of (suc (suc (suc (suc (suc (suc zero)))))) low high = refl
number_of (suc (suc (suc (suc (suc (suc (suc zero))))))) low high = refl
number_of (suc (suc (suc (suc (suc (suc (suc (suc zero)))))))) low high = refl
number_of (suc (suc (suc (suc (suc (suc (suc (suc (suc zero))))))))) low high = refl
number_of (suc (suc (suc (suc (suc (suc (suc (suc (suc (suc n)))))))))) low high = absurd (omega arith)

get_or_any : (cells : List Named) (k : ℕ) (d e : Named) → k < length cells → get_or cells k d ≡ get_or cells k e
get_or_any [] k d e within = absurd (omega arith)
get_or_any (x ∷ cells) zero d e within = refl
get_or_any (x ∷ cells) (suc k) d e within = get_or_any cells k d e (omega arith)

module _ (cells : List Named) (l : IsListing cells) (rule : Rule) where
  named_there : (n : Name) (x : Option Cell) → get (content_of cells) n ≡ x → ((k : ℕ) → k < length cells → ((d : Named) → (get_or cells k d).name ≡ n) → HoldsAtPlace rule cells k) → Holds rule (content_of cells) n
  unfolding Listed
  named_there n None e all = nothing_asked (content_of cells) rule n e
  named_there n (Some y) e all =
      let w = found_where n cells y (sym (found_by n cells l) ∙ e) in
      subst (Holds rule (content_of cells)) (w.2 (a_cell y)) (all w.0 w.1 w.2 (a_cell y))
    where
      a_cell : Cell → Named
      a_cell z = record { name = n; cell = z }

  -- a rule that holds at each cell holds at every name
  pub holds_everywhere : ((k : ℕ) → k < length cells → HoldsAtPlace rule cells k) → HoldsAtAll (content_of cells) rule
  holds_everywhere all n = named_there n _ refl (λ k within is. all k within)

  -- one that fails first at a place holds at all names before that of the place
  pub holds_before : (p : ℕ) (d : Named) → p < length cells → ((k : ℕ) → k < p → HoldsAtPlace rule cells k) → (n : Name) → name_cmp n (get_or cells p d).name ≡ Less
      → Holds rule (content_of cells) n
  holds_before p d inside all n less = named_there n _ refl (λ k within is. all k (earlier k within (is d)))
    where
      earlier : (k : ℕ) → k < length cells → (get_or cells k d).name ≡ n → k < p
      earlier k within e = elim (cases_lt k p) [
        | inl low ↦ low
        | inr high ↦ absurd (elim (cases_lt p k) [
          | inl above ↦
              let up : name_cmp (get_or cells p d).name n ≡ Less = subst (λ m. name_cmp (get_or cells p d).name m ≡ Less) e (ordered_at cells (held _ l.rises) p k d above within) in
              let back : name_cmp n (get_or cells p d).name ≡ Greater = name_cmp_total.antisymm n _ ∙ ap ordering_reverse up in
              cc
          | inr same ↦
              let at : k ≡ p = omega arith in
              let here : (get_or cells p d).name ≡ n = subst (λ j. (get_or cells j d).name ≡ n) at e in
              let tie = tied_itself name_cmp_total n in
              let self : name_cmp n n ≡ Less = subst (λ m. name_cmp n m ≡ Less) here less in
              cc
        ])
      ]

-- the place where a rule fails first, once those before it hold at all names
pub first_broken : (cells : List Named) → IsListing cells → (number p : ℕ) → 1 ≤ number → number < 10 → HoldBelow (content_of cells) number → FailsFirst (rule_of number) cells p
    → (d : Named) → IsFirstBroken (content_of cells) number (get_or cells p d).name
first_broken cells l number p low high lower f d = record {
  rule = rule_of number;
  numbered = number_of number low high;
  fails = λ h. f.fails (λ e. subst (λ (x : Named). Holds (rule_of number) (content_of cells) x.name) (same_place e) h);
  before = holds_before cells l (rule_of number) p d f.within f.before;
  lower = lower;
}
  where
    same_place : (e : Named) → get_or cells p d ≡ get_or cells p e
    same_place e = get_or_any cells p d e f.within

-- the rules below a number, once it holds too
pub one_more : (c : Content) (number : ℕ) → 1 ≤ number → number < 10 → HoldBelow c number → HoldsAtAll c (rule_of number) → HoldBelow c (number + 1)
one_more c number low high lower here rule below = elim (cases_lt (rule_number rule) number) [
  | inl less ↦ lower rule less
  | inr same ↦
      let e : rule_number rule ≡ number = omega arith in
      subst (HoldsAtAll c) (ap rule_of (sym e) ∙ of_number rule) here
]

positive : (rule : Rule) → 1 ≤ rule_number rule
positive Numbers = omega arith
positive Tokens = omega arith
positive Nonces = omega arith
positive InQueues = omega arith
positive AppliesReady = omega arith
positive DecidedSealed = omega arith
positive Marks = omega arith
positive Entries = omega arith
positive OnChain = omega arith
positive Fits = omega arith

-- no rule has a lesser number than the first
pub none_below : (c : Content) → HoldBelow c 1
none_below c rule below = let p = positive rule in absurd (omega arith)

-- an element of the list is a cell of its content
pub listed_cell : (cells : List Named) → IsListing cells → (k : ℕ) (x : Named) → k < length cells → x ≡ get_or cells k x → IsCellOf (content_of cells) x
listed_cell cells l k x within is = record {
  there = subst (λ (y : Named). get (content_of cells) y.name ≡ Some y.cell) (sym is) (stands_at cells l k x within);
  kind = subst (λ (y : Named). may_stand y.name y.cell ≡ true) (sym is) (l.kinds k x within);
}

-- what was found of it says so of its place
module _ (rule : Rule) (cells : List Named) (k : ℕ) (x : Named) (within : k < length cells) (is : x ≡ get_or cells k x) where
  pub holds_at : Holds rule (content_of cells) x.name → HoldsAtPlace rule cells k
  holds_at h d = subst (λ (y : Named). Holds rule (content_of cells) y.name) (is ∙ get_or_any cells k x d within) h

  pub fails_first : (Holds rule (content_of cells) x.name → ⊥) → ((j : ℕ) → j < k → HoldsAtPlace rule cells j) → FailsFirst rule cells k
  fails_first fails before = record {
    within = within;
    fails = λ h. fails (subst (λ (y : Named). Holds rule (content_of cells) y.name) (sym is) (h x));
    before = before;
  }

-- a rule by its number
pub by_number : (c : Content) (x : Named) (b : Bool) (n m : ℕ) → n ≡ m → (IsTrue b ↔ Holds (rule_of m) c x.name) → IsTrue b ↔ Holds (rule_of n) c x.name
by_number c x b n m e tells = subst (λ k. IsTrue b ↔ Holds (rule_of k) c x.name) (sym e) tells

-- what stands under a name is an element of the list
pub listed_there : (cells : List Named) → IsListing cells → (n : Name) (x : Cell) → get (content_of cells) n ≡ Some x
    → (k : ℕ) × (k < length cells) × ((d : Named) → get_or cells k d ≡ record { name = n; cell = x })
unfolding Listed
listed_there cells l n x there =
    let w = found_where n cells x (sym (found_by n cells l) ∙ there) in
    (w.0, w.1, λ d. whole (get_or cells w.0 d) (w.2 d) (stands_at cells l w.0 d w.1))
  where
    whole : (y : Named) → y.name ≡ n → get (content_of cells) y.name ≡ Some y.cell → y ≡ record { name = n; cell = x }
    whole y e f =
        let same : Some y.cell ≡ Some x = sym f ∙ subst (λ m. get (content_of cells) m ≡ Some x) (sym e) there in
        let cell_is : y.cell ≡ x = cc in
        λ i. record { name = e i; cell = cell_is i }
