-- What an audit concludes.
use Rattle.std.proofs.Common.{◌≡◌, ℕ, ◌<◌, ◌≤◌, true, List, [], ◌∷◌, length, map, ap, get_or, Some, inl, inr, refl, sym, ◌∙◌, subst, arith, Result, Ok, Err, IsErrOf, ⊎_elim}
use Rattle.std.proofs.lemmas.Bool.{cases_lt}
use Rattle.std.proofs.lemmas.List.{length-map}
use Rattle.std.specs.FinMap.{get, entries, entries_sorted, entries-from_sorted, from_sorted, same_entries_map}
use Rattle.store_trait.specs.Contents.{Content, named}
use Rattle.store_trait.specs.Names.{name_cmp, may_stand}
use Rattle.store_trait.specs.declared.cell.Cell.{Cell}
use Rattle.store_trait.specs.declared.cell.Named.{Named}
use Rattle.store_trait.specs.declared.name.Name.{Name}
use Rattle.store_laws.specs.Soundness.{Rule, Holds, Numbers, Tokens, Nonces, InQueues, AppliesReady, DecidedSealed, Marks, Entries, OnChain, Fits, rule_number}
use Rattle.txn_key.specs.Documents.{Docs}
use Rattle.store_trait.specs.declared.store.Store.{Ghosts}
use Rattle.txn_audit.specs.Audits.{Means, IsAudited, IsFlawOf, IsShownAs, HasFault}
use Rattle.txn_audit.specs.Errors.{IsOfReading}
use Rattle.txn_audit.specs.Reading.{IsShown, ReadsWhole, WasListed}
use Rattle.txn_audit.specs.Bodies.{IsComplete, IsUnfit}
use Rattle.txn_audit.specs.Checks.{HoldBelow}
use Rattle.txn_audit.specs.Flaws.{IsFirstBroken}
use Rattle.listed_cells.specs.Listing.{IsListing, content_of, entries_of}
use Rattle.txn_audit.specs.declared.error.AuditError.{AuditError}
use Rattle.txn_audit.specs.declared.error.AuditError.TheVariants as error
use Rattle.txn_audit.proofs.CellRules.{holds_before, listed_there}

-- a rule is below the last, or it is the last
last_or_below : (rule : Rule) → 10 ≤ rule_number rule → rule ≡ Fits
last_or_below Numbers h = absurd (omega arith)
last_or_below Tokens h = absurd (omega arith)
last_or_below Nonces h = absurd (omega arith)
last_or_below InQueues h = absurd (omega arith)
last_or_below AppliesReady h = absurd (omega arith)
last_or_below DecidedSealed h = absurd (omega arith)
last_or_below Marks h = absurd (omega arith)
last_or_below Entries h = absurd (omega arith)
last_or_below OnChain h = absurd (omega arith)
last_or_below Fits h = refl

pub means_them : (cells : List Named) (docs : Docs) → IsListing cells → HoldBelow (content_of cells) 10 → IsComplete cells docs → Means (content_of cells) docs
means_them cells docs l lower whole = record { sound = record { kinds = kinds; rules = rules }; docs_are = whole.means }
  where
    kinds : (n : Name) (x : Cell) → get (content_of cells) n ≡ Some x → may_stand n x ≡ true
    kinds n x there =
        let w = listed_there cells l n x there in
        let at : get_or cells w.0 (record { name = n; cell = x }) ≡ record { name = n; cell = x } = w.2 _ in
        subst (λ (y : Named). may_stand y.name y.cell ≡ true) at (l.kinds w.0 _ w.1)

    rules : (rule : Rule) (n : Name) → Holds rule (content_of cells) n
    rules rule n = elim (cases_lt (rule_number rule) 10) [
      | inl below ↦ lower rule below n
      | inr last ↦ subst (λ r. Holds r (content_of cells) n) (sym (last_or_below rule last)) (whole.fits n)
    ]

pub unfit_broken : (cells : List Named) (place : ℕ) → IsListing cells → HoldBelow (content_of cells) 10 → IsUnfit cells place → (d : Named) → IsFirstBroken (content_of cells) 10 (get_or cells place d).name
unfit_broken cells place l lower u d = record {
  rule = Fits;
  numbered = refl;
  fails = u.fails d;
  before = holds_before cells l Fits place d u.within (λ k below e. u.before k e (omega arith) below);
  lower = lower;
}

-- the error that names a place names the flaw there
pub names_flaw : (cells : List Named) (rule place : ℕ) (found : AuditError) → place < length cells → ((d : Named) → found ≡ error.Unsound rule (get_or cells place d).name)
    → ((d : Named) → IsFirstBroken (content_of cells) rule (get_or cells place d).name) → IsFlawOf (content_of cells) found
names_flaw cells rule place found within is broken =
    subst (IsFlawOf (content_of cells)) (sym (is (first_of cells place within))) (broken (first_of cells place within))
  where
    first_of : (xs : List Named) (k : ℕ) → k < length xs → Named
    first_of [] k inside = absurd (omega arith)
    first_of (x ∷ xs) k inside = x

-- what lists a content's cells is that content
same_pairs : (es : List (Name × Cell)) → entries_of (map named es) ≡ es
same_pairs [] = refl
same_pairs (e ∷ es) = ap (λ (rest : List (Name × Cell)). e ∷ rest) (same_pairs es)

pub content_listed : (c : Content) (cells : List Named) → cells ≡ map named (entries c) → content_of cells ≡ c
content_listed c cells is =
    let listed : entries_of cells ≡ entries c = ap entries_of is ∙ same_pairs (entries c) in
    same_entries_map (content_of cells) c (ap (λ es. entries (from_sorted {R = name_cmp} es)) listed ∙ entries-from_sorted name_cmp (entries c) (entries_sorted c))

few_listed : (c : Content) (cells : List Named) → cells ≡ map named (entries c) → length cells ≤ 200000 → length (entries c) ≤ 200000
few_listed c cells is few = omega (arith, few, ap length is, length-map (entries c) named)

pub audited : (c : Content) (cells : List Named) (docs : Docs) → cells ≡ map named (entries c) → length cells ≤ 200000 → Means (content_of cells) docs → IsAudited c (record { cells = cells; docs = docs })
audited c cells docs is few means =
    let here = subst (λ d. Means d docs) (content_listed c cells is) means in
    record { passes = record { sound = here.sound; few = few_listed c cells is few }; cells = is; docs_are = here.docs_are }

-- a flaw of what was listed is the store's
pub fault_found : (c : Content) (cells : List Named) → cells ≡ map named (entries c) → length cells ≤ 200000 → (e : AuditError) → IsFlawOf (content_of cells) e → HasFault c e
fault_found c cells is few (error.Unsound rule at) f = (few_listed c cells is few, subst (λ d. IsFirstBroken d rule at) (content_listed c cells is) f)
fault_found c cells is few error.TooMany f = absurd f
fault_found c cells is few error.StoreFault f = absurd f
fault_found c cells is few error.OutOfMemory f = tt

-- ---- an audit reads as its listing did

module _ {S A B : Type 0} (store : Ghosts S) (old new : S) where
  reads_as : (r : Result A AuditError) (o : Result B AuditError) → ReadsWhole store old new r → (IsErrOf o error.StoreFault → IsErrOf r error.StoreFault)
      → (IsErrOf r error.StoreFault → IsErrOf o error.StoreFault) → ReadsWhole store old new o
  reads_as r o h failed refused = record {
    only = h.only;
    go_on = h.go_on;
    each = h.each;
    most = h.most;
    fault = λ e. h.fault (failed e);
    still = ⊎_elim (λ e. inl (refused e)) inr h.still;
  }

  pub reads_err : (why : AuditError) → ReadsWhole {T = A} store old new (Err why) → ReadsWhole {T = B} store old new (Err why)
  reads_err error.StoreFault h = reads_as (Err error.StoreFault) (Err error.StoreFault) h (λ e. refl) (λ e. refl)
  reads_err error.TooMany h = reads_as (Err error.TooMany) (Err error.TooMany) h (λ e. absurd (cc)) (λ e. absurd (cc))
  reads_err error.OutOfMemory h = reads_as (Err error.OutOfMemory) (Err error.OutOfMemory) h (λ e. absurd (cc)) (λ e. absurd (cc))
  reads_err (error.Unsound rule at) h = reads_as (Err (error.Unsound rule at)) (Err (error.Unsound rule at)) h (λ e. absurd (cc)) (λ e. absurd (cc))

  pub reads_judged : (cells : A) (c : Content) (why : AuditError) → IsFlawOf c why → ReadsWhole {T = A} store old new (Ok cells) → ReadsWhole {T = B} store old new (Err why)
  reads_judged cells c error.StoreFault f h = absurd f
  reads_judged cells c error.TooMany f h = absurd f
  reads_judged cells c error.OutOfMemory f h = reads_as (Ok cells) (Err error.OutOfMemory) h (λ e. absurd (cc)) (λ e. absurd (cc))
  reads_judged cells c (error.Unsound rule at) f h = reads_as (Ok cells) (Err (error.Unsound rule at)) h (λ e. absurd (cc)) (λ e. absurd (cc))

  pub reads_ok : (cells : A) (checked : B) → ReadsWhole {T = A} store old new (Ok cells) → ReadsWhole {T = B} store old new (Ok checked)
  reads_ok cells checked h = reads_as (Ok cells) (Ok checked) h (λ e. absurd (cc)) (λ e. absurd (cc))

-- what it answers is so of the cells that were listed
pub shown_err : {S : Type 0} (store : Ghosts S) (old new : S) (why : AuditError) → IsOfReading why → IsShown store old new (Err why) → IsShownAs store old new (Err why)
shown_err store old new error.StoreFault of h = tt
shown_err store old new error.TooMany of h = h
shown_err store old new error.OutOfMemory of h = tt
shown_err store old new (error.Unsound rule at) of h = absurd of

pub shown_judged : {S : Type 0} (store : Ghosts S) (old new : S) (cells : List Named) (why : AuditError) → IsListing cells → WasListed store old new cells → IsFlawOf (content_of cells) why → IsShownAs store old new (Err why)
shown_judged store old new cells error.StoreFault l h f = tt
shown_judged store old new cells error.TooMany l h f = absurd f
shown_judged store old new cells error.OutOfMemory l h f = tt
shown_judged store old new cells (error.Unsound rule at) l h f = record { cells = cells; listed = h; ordered = l; flaw = f }
