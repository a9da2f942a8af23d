-- Cells that are read one after another: those read so far, and those past the last of them, are all.
use Rattle.std.proofs.Common.{◌≡◌, ◌≤◌, ◌<◌, ◌+◌, ℕ, length, arith, ⊎_elim, Bool, true, false, ◌&&◌, cond, find, T, List, [], ◌∷◌, ◌++◌, map, Option, Some, None, IsTrue, IsErrOf, Result, Ok, Err, inl, inr, refl, sym, ap, ◌∙◌, subst}
use Rattle.std.specs.FinMap.{entries, entries_sorted, is_sorted}
use Rattle.std.specs.FinMap.Entries.{below_all}
use Rattle.std.specs.List.{All, filter, list_all}
use Rattle.std.specs.Option.{option_map}
use Rattle.std.specs.Ordering.{is_lt, ordering_reverse}
use Rattle.std.specs.declared.cmp.Ordering.{Ordering}
use Rattle.std.specs.declared.cmp.Ordering.TheVariants.{Less, Equal, Greater}
use Rattle.std.proofs.lemmas.Cmp.{tied_itself}
use Rattle.std.proofs.lemmas.Bool.{and_from, and_parts}
use Rattle.std.proofs.lemmas.List.{append_assoc, append-nil, length-append, length-map}
use Rattle.std.proofs.lemmas.List.Elements.{All-nil, All-push}
use Rattle.std.proofs.lemmas.List.Folds.{list_all-append}
use Rattle.std.proofs.lemmas.Option.{same_Some}
use Rattle.store_trait.proofs.NameOrder.{name_cmp_total}
use Rattle.store_trait.specs.Contents.{Content, first_past, is_past, named}
use Rattle.store_trait.specs.Names.{name_cmp, may_stand}
use Rattle.store_trait.specs.Calls.{Exchange}
use Rattle.store_trait.specs.Exchanges.{IsExchange}
use Rattle.store_trait.specs.Stores.{CallsGoOn, OneCall}
use Rattle.store_trait.specs.declared.cell.Cell.{Cell}
use Rattle.store_trait.specs.declared.cell.Named.{Named}
use Rattle.store_trait.specs.declared.name.Name.{Name}
use Rattle.store_trait.specs.declared.store.Store.{Ghosts}
use Rattle.store_laws.proofs.trails.CallsMade.{call_after, rose_before}
use Rattle.store_laws.proofs.trails.OnlyReading.{reads_call}
use Rattle.txn_audit.specs.declared.error.AuditError.{AuditError}
use Rattle.txn_audit.specs.declared.error.AuditError.TheVariants as error
use Rattle.store_laws.specs.Reads.{OnlyReads}
use Rattle.listed_cells.specs.Listing.{entries_of, IsListing}
use Rattle.txn_audit.specs.Reading.{Lists, ListsMany, ReadsWhole}

abbrev cells_of : Content → List Named
cells_of c = map named (entries c)

abbrev Entry : Type 0
Entry = Name × Cell

abbrev past : Option Name → List Entry → List Entry
past after es = filter (λ (e : Entry). is_past after e.0) es

abbrev first : Option Name → List Entry → Option Entry
first after es = find (λ (e : Entry). is_past after e.0) es

both : (a b : Bool) → T (a && b) → T a × T b
both true b p = (tt, p)
both false b p = absurd p

true_of : (b : Bool) → T b → b ≡ true
true_of true h = refl
true_of false h = absurd h

less : (r : Ordering) → is_lt r ≡ true → r ≡ Less
less Less h = refl
less Equal h = absurd (cc)
less Greater h = absurd (cc)

-- what stands behind a name that is past another is past that too
past_further : (after : Option Name) (x y : Name) → is_past after x ≡ true → is_past (Some x) y ≡ true → is_past after y ≡ true
past_further None x y p q = refl
past_further (Some after) x y p q = ap is_lt (name_cmp_total.trans after x y (less _ p) (less _ q))

-- all stand past a name that is below them
all_past : (after : Option Name) (x : Name) (es : List Entry) → is_past after x ≡ true → T (below_all name_cmp x es) → past after es ≡ es
all_past after x [] is below = refl
all_past after x (e ∷ es) is below =
    let parts = both _ _ below in
    ap (λ (b : Bool). cond b (e ∷ past after es) (past after es)) (past_further after x e.0 is (true_of _ parts.0)) ∙ ap (λ (rest : List Entry). e ∷ rest) (all_past after x es is parts.1)

below_itself : (x : Name) (es : List Entry) → T (below_all name_cmp x es) → past (Some x) es ≡ es
below_itself x [] below = refl
below_itself x (e ∷ es) below =
    let parts = both _ _ below in
    ap (λ (b : Bool). cond b (e ∷ past (Some x) es) (past (Some x) es)) (true_of _ parts.0) ∙ ap (λ (rest : List Entry). e ∷ rest) (below_itself x es parts.1)

found_above : (after : Option Name) (x : Name) (es : List Entry) (e : Entry) → T (below_all name_cmp x es) → first after es ≡ Some e → name_cmp x e.0 ≡ Less
found_above after x [] e below found = absurd (cc)
found_above after x (y ∷ es) e below found = by (is_past after y.0) found (λ later. found_above after x es e (both _ _ below).1 later)
  where
    by : (b : Bool) → cond b (Some y) (first after es) ≡ Some e → (first after es ≡ Some e → name_cmp x e.0 ≡ Less) → name_cmp x e.0 ≡ Less
    by true found later = subst (λ (it : Entry). name_cmp x it.0 ≡ Less) (same_Some y e found) (less _ (true_of _ (both _ _ below).0))
    by false found later = later found

-- the first cell past a name, and those past it
pub past_found : (after : Option Name) (es : List Entry) (e : Entry) → T (is_sorted name_cmp es) → first after es ≡ Some e → past after es ≡ e ∷ past (Some e.0) es
past_found after [] e rise found = absurd (cc)
past_found after (x ∷ es) e rise found = by (is_past after x.0) refl found (λ later. past_found after es e (both _ _ rise).1 later)
  where
    below : T (below_all name_cmp x.0 es)
    below = (both _ _ rise).0

    not_past_itself : past (Some x.0) (x ∷ es) ≡ past (Some x.0) es
    not_past_itself = ap (λ (r : Ordering). cond (is_lt r) (x ∷ past (Some x.0) es) (past (Some x.0) es)) (tied_itself name_cmp_total x.0)

    here : (b : Bool) → is_past after x.0 ≡ b → past after (x ∷ es) ≡ cond b (x ∷ past after es) (past after es)
    here b is = ap (λ (t : Bool). cond t (x ∷ past after es) (past after es)) is

    by : (b : Bool) → is_past after x.0 ≡ b → cond b (Some x) (first after es) ≡ Some e → (first after es ≡ Some e → past after es ≡ e ∷ past (Some e.0) es)
        → past after (x ∷ es) ≡ e ∷ past (Some e.0) (x ∷ es)
    by true is found later = subst (λ (it : Entry). past after (x ∷ es) ≡ it ∷ past (Some it.0) (x ∷ es)) (same_Some x e found)
        (here true is ∙ ap (λ (rest : List Entry). x ∷ rest) (all_past after x.0 es is below ∙ sym (below_itself x.0 es below) ∙ sym not_past_itself))
    by false is found later =
        let above = found_above after x.0 es e below found in
        let turned : name_cmp e.0 x.0 ≡ Greater = name_cmp_total.antisymm e.0 x.0 ∙ ap ordering_reverse above in
        here false is ∙ later found ∙ ap (λ (rest : List Entry). e ∷ rest)
        (sym (ap (λ (r : Ordering). cond (is_lt r) (x ∷ past (Some e.0) es) (past (Some e.0) es)) turned))

pub past_none : (after : Option Name) (es : List Entry) → first after es ≡ None → past after es ≡ []
past_none after [] none = refl
past_none after (x ∷ es) none = by (is_past after x.0) refl none (λ later. past_none after es later)
  where
    by : (b : Bool) → is_past after x.0 ≡ b → cond b (Some x) (first after es) ≡ None → (first after es ≡ None → past after es ≡ []) → past after (x ∷ es) ≡ []
    by true is none later = absurd (cc)
    by false is none later = ap (λ (t : Bool). cond t (x ∷ past after es) (past after es)) is ∙ later none

past_nothing : (es : List Entry) → past None es ≡ es
past_nothing [] = refl
past_nothing (e ∷ es) = ap (λ (rest : List Entry). e ∷ rest) (past_nothing es)

-- ---- the loop

-- these cells, and those past the last of them, are all of a content's
abbrev pub IsListOf : Content → Option Name → List Named → Type 0
IsListOf c after cells = cells_of c ≡ cells ++ map named (past after (entries c))

pub lists_none : (c : Content) → IsListOf c None []
lists_none c = sym (ap (map named) (past_nothing (entries c)))

opened : (o : Option Entry) (found : Named) → Some found ≡ option_map named o → o ≡ Some (found.name, found.cell)
opened None found e = absurd (cc)
opened (Some entry) found e = ap (λ (it : Named). Some (it.name, it.cell)) (sym (same_Some found (named entry) e))

pub lists_more : (c : Content) (after : Option Name) (cells : List Named) (found : Named) → IsListOf c after cells → Some found ≡ option_map named (first_past after c)
    → IsListOf c (Some found.name) (cells ++ found ∷ [])
lists_more c after cells found so is =
    let more = past_found after (entries c) (found.name, found.cell) (entries_sorted c) (opened (first_past after c) found is) in
    so ∙ ap (λ (es : List Entry). cells ++ map named es) more ∙ sym (append_assoc cells (found ∷ []) (map named (past (Some found.name) (entries c))))

unfound : (o : Option Entry) → None ≡ option_map named o → o ≡ None
unfound None e = refl
unfound (Some entry) e = absurd (cc)

pub lists_all : (c : Content) (after : Option Name) (cells : List Named) → IsListOf c after cells → None ≡ option_map named (first_past after c) → cells ≡ cells_of c
lists_all c after cells so is =
    sym (so ∙ ap (λ (es : List Entry). cells ++ map named es) (past_none after (entries c) (unfound (first_past after c) is)) ∙ append-nil cells)

-- a cell past all that were read is one more than those
pub more_than : (c : Content) (after : Option Name) (cells : List Named) (found : Named) (n : ℕ) → IsListOf c after cells → Some found ≡ option_map named (first_past after c)
    → n ≤ length cells → n < length (entries c)
more_than c after cells found n so is many =
    let all = ap length (lists_more c after cells found so is) in
    let size : length (map named (entries c)) ≡ length (entries c) = length-map (entries c) named in
    omega (arith, all, size, length-append (cells ++ found ∷ []) (map named (past (Some found.name) (entries c))), length-append cells (found ∷ []), many)

-- no more cells were read than the content has
pub listed_few : (c : Content) (after : Option Name) (cells : List Named) → IsListOf c after cells → length cells ≤ length (entries c)
listed_few c after cells so =
    let all = ap length so in
    let size : length (map named (entries c)) ≡ length (entries c) = length-map (entries c) named in
    omega (arith, all, size, length-append cells (map named (past after (entries c))))

-- ---- the order of what was read

-- the cells rise, none stands where one past a name would, and each is of its name's kind
pub record Rises (after : Option Name) (cells : List Named) : Type 0 where
  pub sorted : is_sorted name_cmp (entries_of cells) ≡ true
  pub below : (m : Name) → is_past after m ≡ true → list_all (λ (x : Named). is_lt (name_cmp x.name m)) cells ≡ true
  pub kinds : All (λ (x : Named). may_stand x.name x.cell ≡ true) cells

below_push : (n : Name) (cells : List Named) (found : Named) → below_all name_cmp n (entries_of cells) ≡ true → is_lt (name_cmp n found.name) ≡ true
    → below_all name_cmp n (entries_of (cells ++ found ∷ [])) ≡ true
below_push n [] found below here = and_from (is_lt (name_cmp n found.name)) true here refl
below_push n (x ∷ cells) found below here =
    let parts = and_parts (is_lt (name_cmp n x.name)) (below_all name_cmp n (entries_of cells)) below in
    and_from (is_lt (name_cmp n x.name)) (below_all name_cmp n (entries_of (cells ++ found ∷ []))) parts.0 (below_push n cells found parts.1 here)

sorted_push : (cells : List Named) (found : Named) → is_sorted name_cmp (entries_of cells) ≡ true → list_all (λ (x : Named). is_lt (name_cmp x.name found.name)) cells ≡ true
    → is_sorted name_cmp (entries_of (cells ++ found ∷ [])) ≡ true
sorted_push [] found sorted below = refl
sorted_push (x ∷ cells) found sorted below =
    let parts = and_parts (below_all name_cmp x.name (entries_of cells)) (is_sorted name_cmp (entries_of cells)) sorted in
    let under = and_parts (is_lt (name_cmp x.name found.name)) (list_all (λ (y : Named). is_lt (name_cmp y.name found.name)) cells) below in
    and_from (below_all name_cmp x.name (entries_of (cells ++ found ∷ []))) (is_sorted name_cmp (entries_of (cells ++ found ∷ [])))
    (below_push x.name cells found parts.0 under.0) (sorted_push cells found parts.1 under.1)

all_push : (p : Named → Bool) (cells : List Named) (found : Named) → list_all p cells ≡ true → p found ≡ true → list_all p (cells ++ found ∷ []) ≡ true
all_push p cells found all here = list_all-append p cells (found ∷ []) ∙ and_from (list_all p cells) (p found && true) all (and_from (p found) true here refl)

all_below : (cells : List Named) (x m : Name) → name_cmp x m ≡ Less → list_all (λ (y : Named). is_lt (name_cmp y.name x)) cells ≡ true
    → list_all (λ (y : Named). is_lt (name_cmp y.name m)) cells ≡ true
all_below [] x m is all = refl
all_below (y ∷ cells) x m is all =
    let parts = and_parts (is_lt (name_cmp y.name x)) (list_all (λ (z : Named). is_lt (name_cmp z.name x)) cells) all in
    and_from (is_lt (name_cmp y.name m)) (list_all (λ (z : Named). is_lt (name_cmp z.name m)) cells)
    (ap is_lt (name_cmp_total.trans y.name x m (less _ parts.0) is)) (all_below cells x m is parts.1)

pub rises_none : Rises None []
rises_none = record { sorted = refl; below = λ m past. refl; kinds = All-nil (λ (x : Named). may_stand x.name x.cell ≡ true) }

pub rises_more : (after : Option Name) (cells : List Named) (found : Named) → Rises after cells → is_past after found.name ≡ true → may_stand found.name found.cell ≡ true
    → Rises (Some found.name) (cells ++ found ∷ [])
rises_more after cells found rise past kind = record {
  sorted = sorted_push cells found rise.sorted (rise.below found.name past);
  below = λ m is. all_push (λ (x : Named). is_lt (name_cmp x.name m)) cells found (all_below cells found.name m (less _ is) (rise.below found.name past)) is;
  kinds = All-push (λ (x : Named). may_stand x.name x.cell ≡ true) cells found rise.kinds kind;
}

pub rises_all : (after : Option Name) (cells : List Named) → Rises after cells → IsListing cells
rises_all after cells rise = record { rises = rise.sorted; kinds = rise.kinds }

-- ---- what the loop keeps

-- the cells up to a name were read, by calls that left a store's content as it was
pub record HasRead {S : Type 0} (store : Ghosts S) (old now : S) (after : Option Name) (cells : List Named) : Type 0 where
  pub listed : IsTrue store.tells → IsListOf (store.content old) after cells
  pub lists : Lists store old now after cells
  pub reads : IsTrue store.tells → OnlyReads store old now
  pub go_on : CallsGoOn store old now
  pub made : store.calls now ≡ store.calls old + length cells
  pub still : store.faults now ≡ store.faults old
  pub rises : Rises after cells
  pub few : length cells ≤ 200000

pub few_more : (cells : List Named) (found : Named) → length cells < 200000 → length (cells ++ found ∷ []) ≤ 200000
few_more cells found less = omega (arith, length-append cells (found ∷ []), less)

abbrev NextCall : {S : Type 0} → Ghosts S → S → S → Result (Option Named) AuditError → Type 0
NextCall store now new result = OneCall store now new result error.StoreFault

module _ {S : Type 0} (store : Ghosts S) (old now new : S) (after : Option Name) (cells : List Named) (read : HasRead store old now after cells)
    (present : IsTrue store.tells → store.trail now (store.calls now) ≡ store.content now)
    (result : Result (Option Named) AuditError) (one : NextCall store now new result) (same : IsTrue store.tells → store.content new ≡ store.content now) where
  only : IsTrue store.tells → OnlyReads store old new
  only told = reads_call store old now new result error.StoreFault told (present told) (read.reads told) one (same told)

  -- one call adds one at most
  one_at_most : (r : Result (Option Named) AuditError) → NextCall store now new r → store.calls new ≤ store.calls now + 1
  one_at_most (Ok x) it = omega (arith, it.counted)
  one_at_most (Err e) it = ⊎_elim (λ more. omega (arith, more)) (λ none. omega (arith, none)) it.counted_err

  -- one more was called, and the reading ended so
  pub reads_whole : {T : Type 0} (outcome : Result T AuditError) → (IsErrOf outcome error.StoreFault → IsErrOf result error.StoreFault)
      → (IsErrOf result error.StoreFault → IsErrOf outcome error.StoreFault) → ReadsWhole store old new outcome
  reads_whole outcome failed refused =
      let last = one_at_most result one in
      record {
        only = only;
        go_on = call_after store old now new result error.StoreFault read.go_on one;
        each = λ told. omega (arith, read.made, last, listed_few (store.content old) after cells (read.listed told));
        most = omega (arith, read.made, read.few, last);
        fault = λ e. rose_before read.go_on.later (one.fault (failed e));
        still = ⊎_elim (λ e. inl (refused e)) (λ e. inr (e ∙ read.still)) one.still;
      }

  -- it was refused
  pub reads_refused : {T : Type 0} (why : AuditError) → result ≡ Err why → ReadsWhole {T = T} store old new (Err why)
  reads_refused error.StoreFault is = reads_whole (Err error.StoreFault) (λ e. is) (λ e. refl)
  reads_refused error.TooMany is = reads_whole (Err error.TooMany) (λ e. absurd (cc)) (λ e. absurd (cc))
  reads_refused error.OutOfMemory is = reads_whole (Err error.OutOfMemory) (λ e. absurd (cc)) (λ e. absurd (cc))
  reads_refused (error.Unsound rule at) is = reads_whole (Err (error.Unsound rule at)) (λ e. absurd (cc)) (λ e. absurd (cc))

  -- it came through
  pub reads_answered : {T : Type 0} (found : Option Named) (outcome : Result T AuditError) → result ≡ Ok found → (IsErrOf outcome error.StoreFault → ⊥) → ReadsWhole store old new outcome
  reads_answered found outcome is unfailed = reads_whole outcome (λ e. absurd (unfailed e)) (λ e. absurd (cc))

  module _ (found : Named) (is : result ≡ Ok (Some found)) where
    ok : NextCall store now new (Ok (Some found))
    ok = subst (NextCall store now new) is one

    -- one cell more was read
    pub reads_more : is_past after found.name ≡ true → may_stand found.name found.cell ≡ true
        → (IsTrue store.tells → Some found ≡ option_map named (first_past after (store.content now)))
        → IsExchange store now (Exchange.Lists after (Ok (Some found))) new → length cells < 200000 → HasRead store old new (Some found.name) (cells ++ found ∷ [])
    reads_more past kind next asked less = record {
      listed = λ told. lists_more (store.content old) after cells found (read.listed told)
          (subst (λ (held : Content). Some found ≡ option_map named (first_past after held)) ((read.reads told).same) (next told));
      lists = Lists.Then now new after cells found read.lists asked;
      reads = only;
      go_on = call_after store old now new result error.StoreFault read.go_on one;
      made = omega (arith, read.made, ok.counted, length-append cells (found ∷ []));
      still = ⊎_elim (λ e. absurd (cc)) (λ e. e ∙ read.still) ok.still;
      rises = rises_more after cells found read.rises past kind;
      few = few_more cells found less;
    }

    -- one too many
    pub reads_many : IsExchange store now (Exchange.Lists after (Ok (Some found))) new → 200000 ≤ length cells → ListsMany store old new
    reads_many asked many = record {
      after = Some found.name;
      cells = cells ++ found ∷ [];
      lists = Lists.Then now new after cells found read.lists asked;
      many = omega (arith, read.few, many, length-append cells (found ∷ []));
    }
