-- A store with no first cell is empty.
use Rattle.std.proofs.Common.{◌≡◌, find, List, [], ◌∷◌, length, Option, Some, None, Bool, is_none, is_some, not, true, false, refl, sym, ap, ◌∙◌, arith}
use Rattle.std.specs.FinMap.{empty, entries, len-entries, len-empty, same_entries_map}
use Rattle.std.specs.Option.{option_map}
use Rattle.store_trait.specs.Names.{name_cmp}
use Rattle.store_trait.specs.Contents.{Content, is_past, first_past, named}
use Rattle.store_trait.specs.declared.cell.Cell.{Cell}
use Rattle.store_trait.specs.declared.name.Name.{Name}
use Rattle.store_trait.specs.declared.cell.Named.{Named}
use Rattle.txn_play.specs.Progress.{has_no_cell}

none_long : {A : Type 0} (xs : List A) → length xs ≡ 0 → xs ≡ []
none_long [] e = refl
none_long (x ∷ xs) e = absurd (omega arith)

no_entries : entries (empty {X = Cell} {R = name_cmp}) ≡ []
no_entries = none_long _ (sym (len-entries (empty {X = Cell} {R = name_cmp})) ∙ len-empty name_cmp Cell)

-- whether there is a first cell
pub none_first : (o : Option (Name × Cell)) → None ≡ option_map named o → true ≡ is_none o
none_first None e = refl
none_first (Some entry) e = absurd (cc)

pub some_first : (o : Option (Name × Cell)) (first : Named) → Some first ≡ option_map named o → false ≡ is_none o
some_first None first e = absurd (cc)
some_first (Some entry) first e = refl

-- whether a listing found a first cell
pub none_found : (none : Bool) (found : Option Named) (first : Option (Name × Cell)) → is_some found ≡ not none → found ≡ option_map named first → none ≡ is_none first
none_found true found None said e = refl
none_found false found None said e = absurd (cc)
none_found true found (Some entry) said e = absurd (cc)
none_found false found (Some entry) said e = refl

-- a store with no first cell is empty
no_cells : (es : List (Name × Cell)) → option_map named (find (λ entry. is_past None entry.0) es) ≡ None → es ≡ []
no_cells [] e = refl
no_cells (entry ∷ es) e = absurd (cc)

pub none_is_empty : (c : Content) → has_no_cell c ≡ true → c ≡ empty
none_is_empty c e = same_entries_map c empty (no_cells (entries c) (by (first_past None c) e) ∙ sym no_entries)
  where
    by : (o : Option (Name × Cell)) → is_none o ≡ true → option_map named o ≡ None
    by None e = refl
    by (Some entry) e = absurd (cc)
