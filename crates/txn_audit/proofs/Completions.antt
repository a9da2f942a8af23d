-- What comes of running all that is pending on the bodies as they lie.
use Rattle.std.proofs.Common.{◌≡◌, ◌<◌, ◌||◌, ◌++◌, ℕ, zero, suc, Bool, true, false, true≢false, T, Option, Some, None, List, [], ◌∷◌, map, length, get_or, cond, if◌then◌else◌, sym, ap, ◌∙◌, refl, subst, arith}
use Rattle.std.proofs.lemmas.Option.{same_Some}
use Rattle.std.specs.Prelude.{option_and_then, unwrap_or}
use Rattle.std.specs.FinMap.{get, empty, get-empty, get-entries, entries, find}
use Rattle.std.specs.List.{All, AllByRecursion, cons_option, filter_map, flat_map, list_any}
use Rattle.std.specs.Ordering.{is_eq}
use Rattle.std.specs.Cmp.{Equal-is}
use Rattle.doc_value.specs.declared.value.Value.{Value}
use Rattle.txn_key.proofs.DocumentLaws.{get-with_body_here}
use Rattle.txn_key.proofs.KeySets.{among_distinct}
use Rattle.txn_key.proofs.SortedEntries.{entries_of_sorted}
use Rattle.txn_key.specs.Documents.{Docs}
use Rattle.txn_key.specs.KeySets.{distinct}
use Rattle.txn_key.specs.Keys.{key_cmp, same_key}
use Rattle.txn_key.specs.declared.key.Key.{Key}
use Rattle.txn_record.specs.Effects.{effect, changes_fit}
use Rattle.txn_record.specs.declared.op.Op.{Op}
use Rattle.txn_record.specs.declared.record.Record.{Record}
use Rattle.txn_record.specs.declared.state.State.TheVariants as state
use Rattle.store_trait.proofs.NameOrder.{name_cmp_total, name_cmp-IsAntisymmetric}
use Rattle.store_trait.specs.Cells.{as_record, as_doc}
use Rattle.store_trait.specs.Contents.{Content}
use Rattle.store_trait.specs.Names.{name_cmp, may_stand, same_state}
use Rattle.store_trait.specs.declared.cell.Cell.{Cell}
use Rattle.store_trait.specs.declared.cell.Cell.TheVariants as cell
use Rattle.store_trait.specs.declared.cell.StashCell.{StashCell}
use Rattle.store_trait.specs.declared.cell.Named.{Named}
use Rattle.store_trait.specs.declared.name.Name.{Name}
use Rattle.store_trait.specs.declared.name.Name.TheVariants as name
use Rattle.store_laws.specs.Held.{body_in}
use Rattle.store_laws.specs.Meaning.{bodies, pending, pending_of, not_done}
use Rattle.store_laws.specs.Soundness.{Rule, Holds}
use Rattle.store_laws.specs.View.{View, look, record_at, doc_at, stash_at, owner_held}
use Rattle.store_laws.proofs.cells.Under.{record_under}
use Rattle.store_laws.proofs.meanings.Bodies.{get-bodies}
use Rattle.store_laws.proofs.meanings.Runs.{same_docs, same_key-equal, same_key-other, same_key-itself}
use Rattle.store_laws.proofs.meanings.Splits.{all_there}
use Rattle.store_laws.proofs.views.Orderly.{IsOrderly}
use Rattle.txn_audit.specs.Bodies.{added, with_bodies, kept, held_body, applying_ops, pending_in, to_do, first_unfit, op_keys, keys_under, keys_in, IsComplete, IsUnfit}
use Rattle.listed_cells.specs.Listing.{IsListing, content_of, entries_of}
use Rattle.txn_audit.proofs.KeptBodies.{added_here, added_other}
use Rattle.txn_audit.proofs.PendingFits.{AllBut, Stands, FirstUnfit, Agrees, FitsAt, orderly_but, all_fit, one_fails}

-- ---- keys among those of the cells

either_right : (a b : Bool) → b ≡ true → (a || b) ≡ true
either_right true b p = refl
either_right false b p = p

any_left : (q : Key) (xs ys : List Key) → list_any (same_key q) xs ≡ true → list_any (same_key q) (xs ++ ys) ≡ true
any_left q [] ys h = cc
any_left q (x ∷ xs) ys h = by (same_key q x) h (any_left q xs ys)
  where
    by : (b : Bool) → (b || list_any (same_key q) xs) ≡ true → (list_any (same_key q) xs ≡ true → list_any (same_key q) (xs ++ ys) ≡ true) → (b || list_any (same_key q) (xs ++ ys)) ≡ true
    by true h rest = refl
    by false h rest = rest h

any_right : (q : Key) (xs ys : List Key) → list_any (same_key q) ys ≡ true → list_any (same_key q) (xs ++ ys) ≡ true
any_right q [] ys h = h
any_right q (x ∷ xs) ys h = either_right (same_key q x) _ (any_right q xs ys h)

own_key : (ops : List Op) (j : ℕ) (e : Op) → j < length ops → list_any (same_key (get_or ops j e).key) (op_keys ops) ≡ true
own_key [] j e within = absurd (omega arith)
own_key (op ∷ ops) zero e within = ap (λ (b : Bool). b || list_any (same_key op.key) (op_keys ops)) (same_key-itself op.key)
own_key (op ∷ ops) (suc j) e within = either_right (same_key (get_or ops j e).key op.key) _ (own_key ops j e (omega arith))

under_own : (n : Name) (x : Cell) → may_stand n x ≡ true → (j : ℕ) (e : Op) → j < length (applying_ops x) → list_any (same_key (get_or (applying_ops x) j e).key) (keys_under n x) ≡ true
under_own (name.Record id) x kind j e within = own_key (applying_ops x) j e within
under_own (name.Doc key) (cell.Record rec) kind j e within = cc
under_own (name.Doc key) (cell.Doc doc) kind j e within = absurd (omega arith)
under_own (name.Doc key) (cell.Stash stash) kind j e within = cc
under_own (name.Doc key) (cell.Nonce nonce) kind j e within = cc
under_own (name.Stash key) x kind j e within = own_key (applying_ops x) j e within
under_own name.Nonce x kind j e within = own_key (applying_ops x) j e within

among_cells : (cells : List Named) → All (λ (x : Named). may_stand x.name x.cell ≡ true) cells → (i : ℕ) (d : Named) → i < length cells → (j : ℕ) (e : Op) → j < length (applying_ops (get_or cells i d).cell)
    → list_any (same_key (get_or (applying_ops (get_or cells i d).cell) j e).key) (keys_in cells) ≡ true
among_cells [] kinds i d within j e inside = absurd (omega arith)
among_cells (x ∷ cells) kinds zero d within j e inside = any_left _ (keys_under x.name x.cell) (keys_in cells) (under_own x.name x.cell (kinds 0 x (omega arith)) j e inside)
among_cells (x ∷ cells) kinds (suc i) d within j e inside =
    any_right _ (keys_under x.name x.cell) (keys_in cells) (among_cells cells (λ k f h. kinds (suc k) f (omega arith)) i d (omega arith) j e inside)

pub each_there : (cells : List Named) (keys : List Key) → keys ≡ distinct (keys_in cells) → All (λ (x : Named). may_stand x.name x.cell ≡ true) cells
    → All (λ (x : Named). All (λ (op : Op). list_any (same_key op.key) keys ≡ true) (applying_ops x.cell)) cells
each_there cells keys e kinds i d within j f inside =
    let op = get_or (applying_ops (get_or cells i d).cell) j f in
    ap (list_any (same_key op.key)) e ∙ among_distinct op.key (keys_in cells) ∙ among_cells cells kinds i d within j f inside

-- ---- the bodies as they lie

module _ (body : Key → Option Value) (q : Key) where
  still : (ks : List Key) (m : Docs) → get m q ≡ body q → get (with_bodies m ks (map body ks)) q ≡ body q
  still [] m e = e
  still (k ∷ ks) m e = still ks (added k (body k) m) (by (same_key q k) refl)
    where
      here : (k : Key) (b : Option Value) → body k ≡ b → get m k ≡ b → get (added k b m) k ≡ b
      here k None is e = e
      here k (Some v) is e = get-with_body_here k (Some v) m

      by : (t : Bool) → same_key q k ≡ t → get (added k (body k) m) q ≡ body q
      by true s =
          let same = same_key-equal q k s in
          subst (λ (z : Key). get (added z (body z) m) q ≡ body q) same (here q (body q) refl e)
      by false s = added_other k (body k) m q (same_key-other q k s) ∙ e

  there : (ks : List Key) (m : Docs) → get m q ≡ None → list_any (same_key q) ks ≡ true → get (with_bodies m ks (map body ks)) q ≡ body q
  there [] m none h = cc
  there (k ∷ ks) m none h = by (same_key q k) refl h (there ks (added k (body k) m))
    where
      by : (t : Bool) → same_key q k ≡ t → (t || list_any (same_key q) ks) ≡ true
          → (get (added k (body k) m) q ≡ None → list_any (same_key q) ks ≡ true → get (with_bodies (added k (body k) m) ks (map body ks)) q ≡ body q)
          → get (with_bodies (added k (body k) m) ks (map body ks)) q ≡ body q
      by true s h rest =
          let same = same_key-equal q k s in
          still ks (added k (body k) m) (subst (λ (z : Key). get (added z (body z) m) q ≡ body q) same (added_here q (body q) m none))
      by false s h rest = rest (added_other k (body k) m q (same_key-other q k s) ∙ none) h

equal_name : (m n : Name) → is_eq (name_cmp m n) ≡ true → m ≡ n
equal_name m n e = name_cmp-IsAntisymmetric m n ((Equal-is (name_cmp m n)).0 e)

doc_among : (q : Key) (cells : List Named) (found : Option Cell) → find name_cmp (name.Doc q) (entries_of cells) ≡ found → list_any (same_key q) (keys_in cells) ≡ false → found ≡ None
doc_among q [] found e off = sym e
doc_among q (x ∷ cells) found e off = by (is_eq (name_cmp (name.Doc q) x.name)) refl e (doc_among q cells found)
  where
    by : (t : Bool) → is_eq (name_cmp (name.Doc q) x.name) ≡ t → cond t (Some x.cell) (find name_cmp (name.Doc q) (entries_of cells)) ≡ found
        → (find name_cmp (name.Doc q) (entries_of cells) ≡ found → list_any (same_key q) (keys_in cells) ≡ false → found ≡ None) → found ≡ None
    by true s e rest =
        let own : list_any (same_key q) (keys_under (name.Doc q) x.cell) ≡ true = ap (λ (b : Bool). b || false) (same_key-itself q) in
        let here : list_any (same_key q) (keys_under x.name x.cell) ≡ true = subst (λ (n : Name). list_any (same_key q) (keys_under n x.cell) ≡ true) (equal_name (name.Doc q) x.name s) own in
        absurd (true≢false (sym (any_left q (keys_under x.name x.cell) (keys_in cells) here) ∙ off))
    by false s e rest = rest e (tail (list_any (same_key q) (keys_in cells)) refl)
      where
        tail : (b : Bool) → list_any (same_key q) (keys_in cells) ≡ b → list_any (same_key q) (keys_in cells) ≡ false
        tail true h = absurd (true≢false (sym (any_right q (keys_under x.name x.cell) (keys_in cells) h) ∙ off))
        tail false h = h

module _ (cells : List Named) (listed : IsListing cells) where
  abbrev c : Content
  c = content_of cells

  listed_entries : entries c ≡ entries_of cells
  listed_entries = entries_of_sorted name_cmp (entries_of cells) listed.rises

  found_in : (n : Name) → get c n ≡ find name_cmp n (entries_of cells)
  found_in n = get-entries c n ∙ ap (find name_cmp n) listed_entries

  no_body : (stash : Option StashCell) → body_in (owner_held None stash) ≡ None
  no_body None = refl
  no_body (Some stash) = refl

  nowhere : (q : Key) → list_any (same_key q) (keys_in cells) ≡ false → held_body c q ≡ None
  unfolding look doc_at
  nowhere q off =
      let gone : get c (name.Doc q) ≡ None = found_in (name.Doc q) ∙ doc_among q cells (find name_cmp (name.Doc q) (entries_of cells)) refl off in
      ap (λ (found : Option Cell). body_in (owner_held (option_and_then as_doc found) (stash_at c q))) gone ∙ no_body (stash_at c q)

  pub lying : (keys : List Key) → keys ≡ distinct (keys_in cells) → kept keys (map (held_body c) keys) ≡ bodies c
  lying keys e = same_docs _ _ (λ q. by q (list_any (same_key q) keys) refl ∙ sym (get-bodies c q))
    where
      by : (q : Key) (t : Bool) → list_any (same_key q) keys ≡ t → get (kept keys (map (held_body c) keys)) q ≡ held_body c q
      by q true h = there (held_body c) q keys empty (get-empty key_cmp q) h
      by q false h =
          let off : list_any (same_key q) (keys_in cells) ≡ false = sym (among_distinct q (keys_in cells)) ∙ sym (ap (list_any (same_key q)) e) ∙ h in
          still (held_body c) q keys empty (get-empty key_cmp q ∙ sym (nowhere q off))

  -- ---- what is pending

  all_pending : (view : View) (xs : List Named) → to_do view xs ≡ flat_map (pending_of view) (filter_map (λ (e : Name × Cell). as_record e.1) (entries_of xs))
  all_pending view [] = refl
  all_pending view (x ∷ xs) = by x.cell (all_pending view xs)
    where
      rest : List Record
      rest = filter_map (λ (e : Name × Cell). as_record e.1) (entries_of xs)

      by : (y : Cell) → to_do view xs ≡ flat_map (pending_of view) (filter_map (λ (e : Name × Cell). as_record e.1) (entries_of xs))
          → pending_in view y ++ to_do view xs ≡ flat_map (pending_of view) (cons_option (as_record y) (filter_map (λ (e : Name × Cell). as_record e.1) (entries_of xs)))
      by (cell.Record rec) e = ap (λ (l : List Op). pending_of view rec ++ l) e
      by (cell.Doc doc) e = e
      by (cell.Stash stash) e = e
      by (cell.Nonce nonce) e = e

  to_do_pending : to_do (look c) cells ≡ pending c
  to_do_pending = all_pending (look c) cells ∙ ap (λ (es : List (Name × Cell)). flat_map (pending_of (look c)) (filter_map (λ (e : Name × Cell). as_record e.1) es)) (sym listed_entries)

  -- ---- the cells stand

  stand_all : (xs : List Named) → AllByRecursion (λ (e : Name × Cell). get c e.0 ≡ Some e.1) (entries_of xs) → All (λ (x : Named). may_stand x.name x.cell ≡ true) xs → AllByRecursion (Stands c) xs
  stand_all [] found kinds = tt
  stand_all (x ∷ xs) found kinds = (record { found = found.0; kind = kinds 0 x (omega arith) }, stand_all xs found.1 (λ k f h. kinds (suc k) f (omega arith)))

  stand : AllByRecursion (Stands c) cells
  stand = stand_all cells (subst (λ (es : List (Name × Cell)). AllByRecursion (λ (e : Name × Cell). get c e.0 ≡ Some e.1) es) listed_entries (all_there name_cmp_total name_cmp-IsAntisymmetric c)) listed.kinds

  at : (P : Named → Type 0) (xs : List Named) → AllByRecursion P xs → (i : ℕ) (d : Named) → i < length xs → P (get_or xs i d)
  at P [] all i d within = absurd (omega arith)
  at P (x ∷ xs) all zero d within = all.0
  at P (x ∷ xs) all (suc i) d within = at P xs all.1 i d (omega arith)

  agree_all : (xs : List Named) (docs : Docs) → docs ≡ bodies c → (o : IsOrderly (look c)) → Agrees c o docs xs
  agree_all [] docs e o = tt
  agree_all (x ∷ xs) docs e o = ((λ key on. ap (λ (d : Docs). get d key) e), agree_all xs docs e o)

  -- ---- the rule at names

  holds_at : (n : Name) (y : Cell) → get c n ≡ Some y → changes_fit (pending_in (look c) y) (bodies c) ≡ true → Holds Rule.Fits c n
  holds_at (name.Record id) y found fit = λ rec there applies.
      subst (λ (z : Cell). changes_fit (pending_in (look c) z) (bodies c) ≡ true) (same_Some y (cell.Record rec) (sym found ∙ record_under c id rec there)) fit
  holds_at (name.Doc key) y found fit = tt
  holds_at (name.Stash key) y found fit = tt
  holds_at name.Nonce y found fit = tt

  fails_at : (n : Name) (y : Cell) → get c n ≡ Some y → may_stand n y ≡ true → changes_fit (pending_in (look c) y) (bodies c) ≡ false → Holds Rule.Fits c n → ⊥
  unfolding record_at
  fails_at (name.Record id) (cell.Record rec) found kind unfit holds = by (same_state state.Applying rec.state) refl
    where
      by : (b : Bool) → same_state state.Applying rec.state ≡ b → ⊥
      by true e = true≢false (sym (holds rec (ap (option_and_then as_record) found) e) ∙ unfit)
      by false e = true≢false (sym (ap (λ (b : Bool). changes_fit (if b then not_done (look c) rec.ops (unwrap_or rec.revnos []) else []) (bodies c)) e) ∙ unfit)
  fails_at (name.Doc key) (cell.Record rec) found kind unfit holds = cc
  fails_at (name.Stash key) (cell.Record rec) found kind unfit holds = cc
  fails_at name.Nonce (cell.Record rec) found kind unfit holds = cc
  fails_at n (cell.Doc doc) found kind unfit holds = cc
  fails_at n (cell.Stash stash) found kind unfit holds = cc
  fails_at n (cell.Nonce nonce) found kind unfit holds = cc

  found_fits : (o : IsOrderly (look c)) (n : Name) (y : Cell) (xs : List Named) → find name_cmp n (entries_of xs) ≡ Some y → AllByRecursion (λ (x : Named). FitsAt c o x true) xs → changes_fit (pending_in (look c) y) (bodies c) ≡ true
  found_fits o n y [] e all = cc
  found_fits o n y (x ∷ xs) e all = by (is_eq (name_cmp n x.name)) e (found_fits o n y xs)
    where
      by : (t : Bool) → cond t (Some x.cell) (find name_cmp n (entries_of xs)) ≡ Some y
          → (find name_cmp n (entries_of xs) ≡ Some y → AllByRecursion (λ (x : Named). FitsAt c o x true) xs → changes_fit (pending_in (look c) y) (bodies c) ≡ true)
          → changes_fit (pending_in (look c) y) (bodies c) ≡ true
      by true e rest = subst (λ (z : Cell). changes_fit (pending_in (look c) z) (bodies c) ≡ true) (same_Some x.cell y e) all.0
      by false e rest = rest e all.1

  all_hold : (o : IsOrderly (look c)) → AllByRecursion (λ (x : Named). FitsAt c o x true) cells → (n : Name) → Holds Rule.Fits c n
  all_hold o all (name.Record id) = λ rec there applies. found_fits o (name.Record id) (cell.Record rec) cells (sym (found_in (name.Record id)) ∙ record_under c id rec there) all
  all_hold o all (name.Doc key) = tt
  all_hold o all (name.Stash key) = tt
  all_hold o all name.Nonce = tt

  from_true : (b : Bool) → b ≡ true → T b
  from_true b e = subst T (sym e) tt

  -- ---- the outcome

  module _ (sound : AllBut c) (keys : List Key) (all : keys ≡ distinct (keys_in cells)) (before : List (Option Value)) (lie : before ≡ map (held_body c) keys) where
    begins : kept keys before ≡ bodies c
    begins = ap (kept keys) lie ∙ lying keys all

    pub completed : (docs : Docs) (after : List (Option Value)) → first_unfit (look c) cells (kept keys before) ≡ None → kept keys after ≡ effect (to_do (look c) cells) (kept keys before) → docs ≡ kept keys after → IsComplete cells docs
    completed docs after none ran is = record {
      means = is ∙ ran ∙ (λ i. effect (to_do_pending i) (begins i));
      fits = all_hold o (all_fit c o cells (kept keys before) (from_true _ listed.rises) stand (agree_all cells (kept keys before) begins o) none);
    }
      where
        o : IsOrderly (look c)
        o = orderly_but c sound

    pub unfit : (place : ℕ) → first_unfit (look c) cells (kept keys before) ≡ Some place → IsUnfit cells place
    unfit place one = record {
      within = f.within;
      fails = λ d. let s = at (Stands c) cells stand place d f.within in fails_at (get_or cells place d).name (get_or cells place d).cell s.found s.kind (f.fails d);
      before = λ k d low high. let s = at (Stands c) cells stand k d (omega (arith, f.within)) in holds_at (get_or cells k d).name (get_or cells k d).cell s.found (f.before k d low high);
    }
      where
        f : FirstUnfit c (orderly_but c sound) cells place
        f = one_fails c (orderly_but c sound) cells (kept keys before) place (from_true _ listed.rises) stand (agree_all cells (kept keys before) begins (orderly_but c sound)) one
