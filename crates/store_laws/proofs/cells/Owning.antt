-- A document that owns its key, and goes on owning it at its next number.
use Rattle.std.proofs.Common.{◌≡◌, ℕ, ℤ, pos, negsuc, ◌+ℤ◌, ◌<◌, ◌≤◌, Bool, true, false, cond, not, Option, Some, None, is_some, [], sym, ap, ◌∙◌, refl, unsigned_abs, nat_lt, arith, true≢false}
use Rattle.std.proofs.lemmas.Bool.{and_parts}
use Rattle.std.proofs.lemmas.Bool.Decides.{nat_tests}
use Rattle.txn_key.specs.declared.key.Key.{Key}
use Rattle.txn_record.specs.Revnos.{is_present, is_within}
use Rattle.store_trait.specs.Contents.{Content}
use Rattle.store_trait.specs.Owners.{owner_of, epoch}
use Rattle.store_laws.specs.Entries.{entry_epoch}
use Rattle.store_laws.specs.Soundness.{IsSound}
use Rattle.store_laws.specs.View.{Body, Number, look, doc_at, stash_at, owner_held, owner_queue, by_side, doc_held, doc_queue, stash_held, stash_queue, held_number}
use Rattle.store_trait.specs.declared.cell.Cell.TheVariants as cell
use Rattle.store_trait.specs.declared.cell.DocCell.{DocCell}
use Rattle.store_trait.specs.declared.cell.StashCell.{StashCell}
use Rattle.store_trait.specs.declared.name.Name.TheVariants as name
use Rattle.store_trait.specs.declared.side.Side.{Side}
use Rattle.store_trait.specs.declared.side.Side.TheVariants as side
use Rattle.store_laws.proofs.meanings.Bodies.{body_in}
use Rattle.store_laws.proofs.cells.Parts.{parts}
use Rattle.store_laws.proofs.cells.Under.{doc_under, stash_under}

-- numbers

pub present_number : (n : ℤ) → is_present n ≡ true → (k : ℕ) × (n ≡ pos k)
present_number (pos k) e = (k, refl)
present_number (negsuc k) e = absurd (true≢false (sym e))

pub next_present : (n : ℤ) → is_present n ≡ true → is_present (n +ℤ pos 1) ≡ true
next_present (pos k) e = grind (arith, nat_tests)
next_present (negsuc k) e = absurd (true≢false (sym e))

pub next_above : (n : ℤ) → is_present n ≡ true → unsigned_abs n < unsigned_abs (n +ℤ pos 1)
next_above (pos k) e = omega arith
next_above (negsuc k) e = absurd (true≢false (sym e))

-- the owner

-- an owner at a number of 0 or more is the document, where entries stand below 0
pub owner_present : (doc : DocCell) (stash : Option StashCell) → ((entry : StashCell) → stash ≡ Some entry → is_present entry.revno ≡ false)
    → is_present (held_number (owner_held (Some doc) stash)) ≡ true → owner_of (Some doc) stash ≡ side.Document
owner_present doc None below e = refl
owner_present doc (Some entry) below e = by (nat_lt (epoch doc.revno) (epoch entry.revno)) e
  where
    by : (b : Bool) → is_present (held_number (by_side (cond b side.Stash side.Document) (Number (negsuc 0)) (doc_held (Some doc)) (stash_held (Some entry)))) ≡ true → cond b side.Stash side.Document ≡ side.Document
    by true e = absurd (true≢false (sym e ∙ below entry refl))
    by false e = refl

is_less : (a b : ℕ) → a < b → nat_lt a b ≡ true
is_less a b less = grind (arith, nat_tests)

-- with a greater number it goes on
pub owner_grows : (doc later : DocCell) (stash : Option StashCell) → unsigned_abs doc.revno ≤ unsigned_abs later.revno → owner_of (Some doc) stash ≡ side.Document → owner_of (Some later) stash ≡ side.Document
owner_grows doc later None le e = refl
owner_grows doc later (Some entry) le e = by (nat_lt (unsigned_abs doc.revno) (unsigned_abs entry.revno)) (nat_lt (unsigned_abs later.revno) (unsigned_abs entry.revno)) refl refl e
  where
    by : (a b : Bool) → nat_lt (unsigned_abs doc.revno) (unsigned_abs entry.revno) ≡ a → nat_lt (unsigned_abs later.revno) (unsigned_abs entry.revno) ≡ b → cond a side.Stash side.Document ≡ side.Document → cond b side.Stash side.Document ≡ side.Document
    by true b p q e = absurd (cc e)
    by false false p q e = refl
    by false true p q e = absurd (grind (arith, nat_tests))

-- one of two cells owns the key
pub owned_by_one : (doc : DocCell) (entry : StashCell) → owner_of (Some doc) (Some entry) ≡ side.Neither → ⊥
owned_by_one doc entry e = by (nat_lt (epoch doc.revno) (epoch entry.revno)) e
  where
    by : (b : Bool) → cond b side.Stash side.Document ≡ side.Neither → ⊥
    by true e = cc e
    by false e = cc e

-- an entry beside a document that owns the key is no further
pub entry_behind : (doc : DocCell) (entry : StashCell) → owner_of (Some doc) (Some entry) ≡ side.Document → epoch entry.revno ≤ epoch doc.revno
entry_behind doc entry owns = by (nat_lt (epoch doc.revno) (epoch entry.revno)) refl owns
  where
    by : (b : Bool) → nat_lt (epoch doc.revno) (epoch entry.revno) ≡ b → cond b side.Stash side.Document ≡ side.Document → epoch entry.revno ≤ epoch doc.revno
    by true p q = absurd (cc q)
    by false p q = grind (arith, nat_tests)

-- and a document that is no less than an entry owns the key
pub behind_owns : (doc : DocCell) (stash : Option StashCell) → entry_epoch stash ≤ epoch doc.revno → owner_of (Some doc) stash ≡ side.Document
behind_owns doc None le = refl
behind_owns doc (Some entry) le = by (nat_lt (epoch doc.revno) (epoch entry.revno)) refl
  where
    by : (b : Bool) → nat_lt (epoch doc.revno) (epoch entry.revno) ≡ b → cond b side.Stash side.Document ≡ side.Document
    by true p = absurd (grind (arith, nat_tests))
    by false p = refl

-- one beside a document that doesn't is further on
pub entry_ahead : (doc : DocCell) (entry : StashCell) → owner_of (Some doc) (Some entry) ≡ side.Stash → epoch doc.revno < epoch entry.revno
entry_ahead doc entry owns = by (nat_lt (epoch doc.revno) (epoch entry.revno)) refl owns
  where
    by : (b : Bool) → nat_lt (epoch doc.revno) (epoch entry.revno) ≡ b → cond b side.Stash side.Document ≡ side.Stash → epoch doc.revno < epoch entry.revno
    by true p q = grind (arith, nat_tests)
    by false p q = absurd (cc q)

-- and so it owns the key
pub ahead_owns : (doc : DocCell) (entry : StashCell) → epoch doc.revno < epoch entry.revno → owner_of (Some doc) (Some entry) ≡ side.Stash
ahead_owns doc entry less = ap (λ (b : Bool). cond b side.Stash side.Document) (is_less (epoch doc.revno) (epoch entry.revno) less)

pub owned_held : (doc : DocCell) (stash : Option StashCell) → owner_of (Some doc) stash ≡ side.Document → owner_held (Some doc) stash ≡ Body doc.revno doc.body
owned_held doc stash e = ap (λ (s : Side). by_side s (Number (negsuc 0)) (doc_held (Some doc)) (stash_held stash)) e

pub owned_queue : (doc : DocCell) (stash : Option StashCell) → owner_of (Some doc) stash ≡ side.Document → owner_queue (Some doc) stash ≡ doc.queue
owned_queue doc stash e = ap (λ (s : Side). by_side s [] (doc_queue (Some doc)) (stash_queue stash)) e

-- in a sound content entries stand below 0

not_true : (b : Bool) → not b ≡ true → b ≡ false
not_true true e = absurd (true≢false (sym e))
not_true false e = refl

pub stash_below : (c : Content) → IsSound c → (key : Key) (entry : StashCell) → stash_at c key ≡ Some entry → is_present entry.revno ≡ false
stash_below c s key entry there = not_true _ (and_parts (not (is_present entry.revno)) (is_within entry.revno) ((parts c s).numbers (name.Stash key) (cell.Stash entry) (stash_under c key entry there))).0

-- an owner at a number of 0 or more is a document at that number
pub record OwnsAt (c : Content) (key : Key) (number : ℤ) : Type 0 where
  pub doc : DocCell
  pub there : doc_at c key ≡ Some doc
  pub owns : owner_of (Some doc) (stash_at c key) ≡ side.Document
  pub at : doc.revno ≡ number

pub finds_doc : (c : Content) → IsSound c → (key : Key) → is_present (held_number ((look c).held_at key)) ≡ true → OwnsAt c key (held_number ((look c).held_at key))
unfolding look
finds_doc c s key = by (doc_at c key) refl
  where
    by : (found : Option DocCell) → doc_at c key ≡ found → is_present (held_number (owner_held (doc_at c key) (stash_at c key))) ≡ true → OwnsAt c key (held_number (owner_held (doc_at c key) (stash_at c key)))
    by (Some d) e present =
        let owns = owner_present d (stash_at c key) (stash_below c s key) (ap (λ (o : Option DocCell). is_present (held_number (owner_held o (stash_at c key)))) (sym e) ∙ present) in
        record { doc = d; there = e; owns = owns; at = sym (ap (λ (o : Option DocCell). held_number (owner_held o (stash_at c key))) e ∙ ap held_number (owned_held d (stash_at c key) owns)) }
    by None e present = absurd (true≢false (sym (ap (λ (o : Option DocCell). is_present (held_number (owner_held o (stash_at c key)))) (sym e) ∙ present) ∙ none (stash_at c key) (stash_below c s key)))
      where
        none : (stash : Option StashCell) → ((entry : StashCell) → stash ≡ Some entry → is_present entry.revno ≡ false) → is_present (held_number (owner_held None stash)) ≡ false
        none None below = refl
        none (Some entry) below = below entry refl

-- an owner holds a body just where its number says so
agree_at : (doc : Option DocCell) (stash : Option StashCell) → ((d : DocCell) → doc ≡ Some d → is_present d.revno ≡ true) → ((entry : StashCell) → stash ≡ Some entry → is_present entry.revno ≡ false)
    → is_some (body_in (owner_held doc stash)) ≡ is_present (held_number (owner_held doc stash))
agree_at doc stash above below = by (owner_of doc stash)
  where
    of_doc : (found : Option DocCell) → doc ≡ found → is_some (body_in (doc_held found)) ≡ is_present (held_number (doc_held found))
    of_doc None e = refl
    of_doc (Some d) e = sym (above d e)

    of_stash : (found : Option StashCell) → stash ≡ found → is_some (body_in (stash_held found)) ≡ is_present (held_number (stash_held found))
    of_stash None e = refl
    of_stash (Some entry) e = sym (below entry e)

    by : (side : Side) → is_some (body_in (by_side side (Number (negsuc 0)) (doc_held doc) (stash_held stash))) ≡ is_present (held_number (by_side side (Number (negsuc 0)) (doc_held doc) (stash_held stash)))
    by side.Neither = refl
    by side.Document = of_doc doc refl
    by side.Stash = of_stash stash refl

pub held_agrees : (c : Content) → IsSound c → (key : Key) → is_some (body_in ((look c).held_at key)) ≡ is_present (held_number ((look c).held_at key))
unfolding look
held_agrees c s key =
    agree_at (doc_at c key) (stash_at c key)
    (λ d found. (and_parts (is_present d.revno) (is_within d.revno) ((parts c s).numbers (name.Doc key) (cell.Doc d) (doc_under c key d found))).0)
    (stash_below c s key)
