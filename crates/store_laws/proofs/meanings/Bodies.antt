-- The bodies of a content, key by key.
use Rattle.std.proofs.Common.{◌≡◌, Bool, true, false, cond, T, Option, Some, None, List, [], ◌∷◌, sym, ap, ◌∙◌, refl, subst, negsuc}
use Rattle.std.specs.Prelude.{option_and_then, option_map}
use Rattle.std.specs.FinMap.{get, get-entries, entries, entries_sorted, get-from_entries, find, is_sorted}
use Rattle.std.specs.FinMap.Entries.{below_all}
use Rattle.std.specs.List.{filter_map, cons_option}
use Rattle.doc_value.specs.declared.value.Value.{Value}
use Rattle.txn_key.proofs.KeyOrder.{key_cmp_total}
use Rattle.txn_key.specs.Keys.{key_cmp, same_key}
use Rattle.txn_key.specs.declared.key.Key.{Key}
use Rattle.store_trait.proofs.NameOrder.{name_cmp_total, name_cmp-IsAntisymmetric}
use Rattle.store_trait.specs.Cells.{as_doc}
use Rattle.store_trait.specs.Contents.{Content}
use Rattle.store_laws.specs.Meaning.{bodies, owned_body}
use Rattle.store_trait.specs.Names.{name_cmp}
use Rattle.store_trait.specs.Owners.{owner_of}
use Rattle.store_laws.specs.View.{Number, look, doc_at, stash_at, owner_held, doc_held, stash_held, by_side}
use Rattle.store_trait.specs.declared.cell.Cell.{Cell}
use Rattle.store_trait.specs.declared.cell.Cell.TheVariants as cell
use Rattle.store_trait.specs.declared.cell.DocCell.{DocCell}
use Rattle.store_trait.specs.declared.cell.StashCell.{StashCell}
use Rattle.store_trait.specs.declared.name.Name.{Name}
use Rattle.store_trait.specs.declared.name.Name.TheVariants as name
use Rattle.store_trait.specs.declared.side.Side.{Side}
use Rattle.store_trait.specs.declared.side.Side.TheVariants as side
pub use Rattle.store_laws.specs.Held.{body_in}
use Rattle.store_laws.proofs.meanings.Runs.{same_key-equal}
use Rattle.store_laws.proofs.meanings.Splits.{find_below, both}

-- what a cell gives to the bodies where it stands as a document under a key
abbrev pub given_by : Content → Key → Cell → Option Value
given_by c key x = option_map (λ (p : Key × Value). p.1) (owned_body c (name.Doc key, x))

own_key : (c : Content) (key : Key) (x : Cell) → owned_body c (name.Doc key, x) ≡ option_map (λ (v : Value). (key, v)) (given_by c key x)
own_key c key (cell.Doc doc) = by (owner_of (Some doc) (stash_at c key))
  where
    by : (s : Side) → by_side {A = Option (Key × Value)} s None (Some (key, doc.body)) None ≡ option_map (λ (v : Value). (key, v)) (option_map (λ (p : Key × Value). p.1) (by_side {A = Option (Key × Value)} s None (Some (key, doc.body)) None))
    by side.Neither = refl
    by side.Document = refl
    by side.Stash = refl
own_key c key _ = refl

or_else : Option Value → Option Value → Option Value
or_else None rest = rest
or_else (Some v) rest = Some v

find_cons : (key k : Key) (w : Option Value) (rest : List (Key × Value))
    → find key_cmp key (cons_option (option_map (λ (v : Value). (k, v)) w) rest) ≡ cond (same_key key k) (or_else w (find key_cmp key rest)) (find key_cmp key rest)
unfolding or_else
find_cons key k None rest = by (same_key key k)
  where
    by : (b : Bool) → find key_cmp key rest ≡ cond b (find key_cmp key rest) (find key_cmp key rest)
    by true = refl
    by false = refl
find_cons key k (Some v) rest = refl

or_else-none : (w : Option Value) → or_else w None ≡ w
unfolding or_else
or_else-none None = refl
or_else-none (Some v) = refl

find_owned : (c : Content) (key : Key) (es : List (Name × Cell)) → T (is_sorted name_cmp es)
    → find key_cmp key (filter_map (owned_body c) es) ≡ option_and_then (given_by c key) (find name_cmp (name.Doc key) es)
find_owned c key [] h = refl
find_owned c key ((name.Record i, x) ∷ es) h = find_owned c key es (both _ _ h).1
find_owned c key ((name.Stash k, x) ∷ es) h = find_owned c key es (both _ _ h).1
find_owned c key ((name.Nonce, x) ∷ es) h = find_owned c key es (both _ _ h).1
find_owned c key ((name.Doc k, x) ∷ es) h = at (same_key key k) refl (find_owned c key es (both _ _ h).1)
  where
    tail : List (Key × Value)
    tail = filter_map (owned_body c) es

    cut : find key_cmp key (cons_option (owned_body c (name.Doc k, x)) tail) ≡ cond (same_key key k) (or_else (given_by c k x) (find key_cmp key tail)) (find key_cmp key tail)
    cut = ap (λ (o : Option (Key × Value)). find key_cmp key (cons_option o tail)) (own_key c k x) ∙ find_cons key k (given_by c k x) tail

    none : key ≡ k → find name_cmp (name.Doc key) es ≡ None
    none p = find_below name_cmp_total name_cmp-IsAntisymmetric (name.Doc key) es (subst (λ (j : Key). T (below_all name_cmp (name.Doc j) es)) (sym p) (both _ _ h).0)

    at : (b : Bool) → same_key key k ≡ b → find key_cmp key tail ≡ option_and_then (given_by c key) (find name_cmp (name.Doc key) es)
        → find key_cmp key (cons_option (owned_body c (name.Doc k, x)) tail) ≡ option_and_then (given_by c key) (cond (same_key key k) (Some x) (find name_cmp (name.Doc key) es))
    at true e rest =
        let same = same_key-equal key k e in
        let gone : find key_cmp key tail ≡ None = rest ∙ ap (option_and_then (given_by c key)) (none same) in
        cut ∙ rw (e, gone) (or_else-none (given_by c k x) ∙ ap (λ (j : Key). given_by c j x) (sym same))
    at false e rest = cut ∙ rw e rest

no_body : (stash : Option StashCell) → None ≡ body_in (owner_held None stash)
no_body None = refl
no_body (Some stash) = refl

by_owner : (key : Key) (doc : DocCell) (stash : Option StashCell) (s : Side)
    → option_map (λ (p : Key × Value). p.1) (by_side {A = Option (Key × Value)} s None (Some (key, doc.body)) None) ≡ body_in (by_side s (Number (negsuc 0)) (doc_held (Some doc)) (stash_held stash))
by_owner key doc stash side.Neither = refl
by_owner key doc stash side.Document = refl
by_owner key doc None side.Stash = refl
by_owner key doc (Some stash) side.Stash = refl

held_body : (c : Content) (key : Key) (x : Option Cell) (stash : Option StashCell) → stash_at c key ≡ stash
    → option_and_then (given_by c key) x ≡ body_in (owner_held (option_and_then as_doc x) stash)
held_body c key None stash e = no_body stash
held_body c key (Some (cell.Doc doc)) stash e = rw e (by_owner key doc stash (owner_of (Some doc) stash))
held_body c key (Some _) stash e = no_body stash

-- the body under a key is what its owner holds
pub get-bodies : (c : Content) (key : Key) → get (bodies c) key ≡ body_in ((look c).held_at key)
unfolding look doc_at
get-bodies c key =
    get-from_entries key_cmp_total (filter_map (owned_body c) (entries c)) key
    ∙ find_owned c key (entries c) (entries_sorted c)
    ∙ ap (option_and_then (given_by c key)) (sym (get-entries c (name.Doc key)))
    ∙ held_body c key (get c (name.Doc key)) (stash_at c key) refl
