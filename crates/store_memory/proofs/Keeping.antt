use Rattle.std.proofs.Common.{◌≡◌, ℕ, ◌+◌, ◌≤◌, Bool, true, false, T, cond, not, ◌&&◌, List, [], ◌∷◌, ◌++◌, length, Option, Some, None, Result, Ok, Err, option_map, find, IfSome, IfOk, IsTrue, refl, sym, ap, ◌∙◌, subst, arith}
use Rattle.std.specs.List.{list_all}
use Rattle.std.specs.Ordering.{eq_by_cmp, is_eq}
use Rattle.std.specs.declared.cmp.Ordering.TheVariants.{Less, Equal, Greater}
use Rattle.std.specs.FinMap.{empty, entries, get, remove, len-entries, len-empty, entries_sorted, get-entries, entries-insert, get-remove}
use Rattle.std.specs.FinMap.Entries.{put, is_sorted, where_key, by_order, is_sorted-where_key, find-where_key, find-put, same_entries}
use Rattle.std.specs.FinMap.Entries.{find as value_of}
use Rattle.std.specs.Cmp.{alike_right, tied_itself, eq_by_cmp_equiv}
use Rattle.store_trait.specs.Names.{name_cmp, may_stand, may_hold}
use Rattle.store_trait.specs.Contents.{Content, named, is_past}
use Rattle.store_trait.specs.Edits.{Hit, may_leave, hit as hit_of}
use Rattle.store_trait.specs.declared.edit.Edit.{Edit}
use Rattle.store_trait.specs.declared.name.Name.{Name}
use Rattle.store_trait.specs.declared.cell.Cell.{Cell}
use Rattle.store_trait.specs.declared.cell.Named.{Named}
use Rattle.store_trait.specs.declared.changes.Changed.{Changed}
use Rattle.store_trait.specs.Changes.{as_hit}
use Rattle.store_trait.proofs.NameOrder.{name_cmp_total, name_cmp-IsAntisymmetric}
use Rattle.store_memory.specs.declared.log.Logged.{Logged}
use Rattle.store_memory.specs.Told.{Told, IsWithinCounts, content_of, fault_limit, noted}
use Rattle.store_memory.specs.CallsMade.{IsKept}
use Rattle.store_memory.proofs.Trail.{content_stays, later_made, noted_content, noted_made}

abbrev pub Entry : Type 0
Entry = Name × Cell

abbrev pub told_of : List Logged → List ℕ → ℕ → ℕ → Told
told_of log fails calls faults = record { log = log; fails = fails; calls = calls; faults = faults }

truth : (b : Bool) → T b → b ≡ true
truth true h = refl
truth false h = absurd h

-- the cells are in the order of names
pub in_order : (cells : List Entry) (told : Told) → IsKept cells told → is_sorted name_cmp cells ≡ true
in_order cells told kept = ap (is_sorted name_cmp) (sym kept.present) ∙ truth _ (entries_sorted (content_of told))

-- a cell among the cells is that of the content
pub found_there : (cells : List Entry) (told : Told) (name : Name) → IsKept cells told → value_of name_cmp name cells ≡ get (content_of told) name
found_there cells told name kept = ap (value_of name_cmp name) (sym kept.present) ∙ sym (get-entries (content_of told) name)

no_entries : {A : Type 0} (es : List A) → length es ≡ 0 → es ≡ []
no_entries [] e = refl
no_entries (x ∷ es) e = absurd (omega arith)

-- a new store has no cells
pub kept_new : (cells : List Entry) (log : List Logged) (fails : List ℕ) → cells ≡ [] → log ≡ [] → IsKept cells (told_of log fails 0 0)
kept_new cells log fails none unlogged =
    let new : IsKept [] (told_of [] fails 0 0) = record {
      present = no_entries (entries (empty {X = Cell} {R = name_cmp})) (sym (len-entries (empty {X = Cell} {R = name_cmp})) ∙ len-empty name_cmp Cell);
      kinds = refl;
      counted = record { made = tt; faults = omega arith };
    } in
    subst (λ (l : List Logged). IsKept cells (told_of l fails 0 0)) (sym unlogged) (subst (λ (l : List Entry). IsKept l (told_of [] fails 0 0)) (sym none) new)

-- later calls without changes keep the cells
pub kept_later : (cells : List Entry) (log : List Logged) (fails : List ℕ) (calls faults later failures : ℕ) → IsKept cells (told_of log fails calls faults) → calls ≤ later → failures ≤ fault_limit → IsKept cells (told_of log fails later failures)
kept_later cells log fails calls faults later failures kept le few = record {
  present = ap entries (content_stays (told_of log fails calls faults) later kept.counted.made le) ∙ kept.present;
  kinds = kept.kinds;
  counted = record { made = later_made (told_of log fails calls faults) later kept.counted.made le; faults = few };
}

-- a call that is counted leaves the content
pub counted_content : (log : List Logged) (fails : List ℕ) (calls faults : ℕ) (old : Told) → told_of log fails calls faults ≡ old → IsWithinCounts (told_of log fails calls faults) → content_of (told_of log fails (calls + 1) faults) ≡ content_of old
counted_content log fails calls faults old is counted = content_stays (told_of log fails calls faults) (calls + 1) counted.made (omega arith) ∙ ap content_of is

named_passes : (test : Entry → Bool) (cells : List Entry) (o : Option Named) → o ≡ option_map named (find test cells) → IfSome o (λ it. test (it.name, it.cell) ≡ true)
named_passes test [] o e = subst (λ (o : Option Named). IfSome o (λ it. test (it.name, it.cell) ≡ true)) (sym e) tt
named_passes test (x ∷ cells) o e =
    elim (test x) as (λ b. test x ≡ b → o ≡ option_map named (cond b (Some x) (find test cells)) → IfSome o (λ it. test (it.name, it.cell) ≡ true)) [
      | true ↦ λ t e. subst (λ (o : Option Named). IfSome o (λ it. test (it.name, it.cell) ≡ true)) (sym e) t
      | false ↦ λ t e. named_passes test cells o e
    ] refl e

pub past_there : (after : Option Name) (cells : List Entry) (o : Option Named) → o ≡ option_map named (find (λ entry. is_past after entry.0) cells) → IfSome o (λ it. IsTrue (is_past after it.name))
past_there after cells o e = named_passes (λ entry. is_past after entry.0) cells o e

first_holds : (a b : Bool) → a && b ≡ true → a ≡ true
first_holds true b h = refl
first_holds false b h = h

rest_holds : (a b : Bool) → a && b ≡ true → b ≡ true
rest_holds true b h = h
rest_holds false b h = cc

both_hold : (a b : Bool) → a ≡ true → b ≡ true → a && b ≡ true
both_hold true b p q = q
both_hold false b p q = p

module _ (good : Entry → Bool) where
  named_good : (test : Entry → Bool) (cells : List Entry) (o : Option Named) → list_all good cells ≡ true → o ≡ option_map named (find test cells) → IfSome o (λ it. good (it.name, it.cell) ≡ true)
  named_good test [] o all e = subst (λ (o : Option Named). IfSome o (λ it. good (it.name, it.cell) ≡ true)) (sym e) tt
  named_good test (x ∷ cells) o all e =
      elim (test x) as (λ b. o ≡ option_map named (cond b (Some x) (find test cells)) → IfSome o (λ it. good (it.name, it.cell) ≡ true)) [
        | true ↦ λ e. subst (λ (o : Option Named). IfSome o (λ it. good (it.name, it.cell) ≡ true)) (sym e) (first_holds _ _ all)
        | false ↦ λ e. named_good test cells o (rest_holds _ _ all) e
      ] e

  value_good : (name : Name) (cells : List Entry) (o : Option Cell) → list_all good cells ≡ true → o ≡ value_of name_cmp name cells → IfSome o (λ cell. good (name, cell) ≡ true)
  value_good name [] o all e = subst (λ (o : Option Cell). IfSome o (λ cell. good (name, cell) ≡ true)) (sym e) tt
  value_good name (x ∷ cells) o all e =
      elim (name_cmp name x.0) as (λ r. name_cmp name x.0 ≡ r → o ≡ cond (is_eq r) (Some x.1) (value_of name_cmp name cells) → IfSome o (λ cell. good (name, cell) ≡ true)) [
        | Less ↦ λ t e. value_good name cells o (rest_holds _ _ all) e
        | Equal ↦ λ t e. subst (λ (o : Option Cell). IfSome o (λ cell. good (name, cell) ≡ true)) (sym e) (ap (λ n. good (n, x.1)) (name_cmp-IsAntisymmetric name x.0 t) ∙ first_holds _ _ all)
        | Greater ↦ λ t e. value_good name cells o (rest_holds _ _ all) e
      ] refl e

  put_good : (name : Name) (cell : Cell) (cells : List Entry) → list_all good cells ≡ true → good (name, cell) ≡ true → list_all good (put name_cmp name cell cells) ≡ true
  put_good name cell [] all here = both_hold _ _ here refl
  put_good name cell (x ∷ cells) all here =
      elim (name_cmp name x.0) as (λ r. name_cmp name x.0 ≡ r → list_all good (by_order r ((name, cell) ∷ x ∷ cells) ((x.0, cell) ∷ cells) (x ∷ put name_cmp name cell cells)) ≡ true) [
        | Less ↦ λ t. both_hold _ _ here all
        | Equal ↦ λ t. both_hold _ _ (ap (λ n. good (n, cell)) (sym (name_cmp-IsAntisymmetric name x.0 t)) ∙ here) (rest_holds _ _ all)
        | Greater ↦ λ t. both_hold _ _ (first_holds _ _ all) (put_good name cell cells (rest_holds _ _ all) here)
      ] refl

  where_good : (test : Name → Bool) (cells : List Entry) → list_all good cells ≡ true → list_all good (where_key name_cmp test cells) ≡ true
  where_good test [] all = refl
  where_good test (x ∷ cells) all =
      elim (test x.0) as (λ b. list_all good (cond b (x ∷ where_key name_cmp test cells) (where_key name_cmp test cells)) ≡ true) [
        | true ↦ both_hold _ _ (first_holds _ _ all) (where_good test cells (rest_holds _ _ all))
        | false ↦ where_good test cells (rest_holds _ _ all)
      ]

-- a cell that is read or listed is of its name's kind
pub kind_there : (cells : List Entry) (told : Told) (name : Name) (o : Option Cell) → IsKept cells told → o ≡ value_of name_cmp name cells → IfSome o (λ cell. IsTrue (may_stand name cell))
kind_there cells told name o kept e = value_good (λ entry. may_stand entry.0 entry.1) name cells o kept.kinds e

pub kind_listed : (cells : List Entry) (told : Told) (after : Option Name) (o : Option Named) → IsKept cells told → o ≡ option_map named (find (λ entry. is_past after entry.0) cells) → IfSome o (λ it. IsTrue (may_stand it.name it.cell))
kind_listed cells told after o kept e = named_good (λ entry. may_stand entry.0 entry.1) (λ entry. is_past after entry.0) cells o kept.kinds e

hit_or_not : {A : Type 0} (b : Bool) (x y : A) → cond (not b) x y ≡ cond b y x
hit_or_not true x y = refl
hit_or_not false x y = refl

abbrev pub others : Name → List Entry → List Entry
others name cells = where_key name_cmp (λ other. not (eq_by_cmp name_cmp name other)) cells

entries-remove : (c : Content) (name : Name) → entries (remove c name) ≡ others name (entries c)
entries-remove c name =
    let order = name_cmp_total in
    let alike : (q x : Name) → name_cmp q x ≡ Equal → not (eq_by_cmp name_cmp name x) ≡ not (eq_by_cmp name_cmp name q) = λ q x t. ap (λ r. not (is_eq r)) (sym (alike_right order q x name t)) in
    same_entries name_cmp order name_cmp-IsAntisymmetric _ _ (entries_sorted (remove c name)) (is_sorted-where_key name_cmp _ (entries c) (entries_sorted c)) (λ q.
    sym (get-entries (remove c name) q) ∙ get-remove order c name q
    ∙ ap (λ b. cond b None (get c q)) ((eq_by_cmp_equiv order).symm q name)
    ∙ sym (hit_or_not (eq_by_cmp name_cmp name q) (get c q) None)
    ∙ ap (λ o. cond (not (eq_by_cmp name_cmp name q)) o None) (get-entries c q)
    ∙ sym (find-where_key name_cmp (λ other. not (eq_by_cmp name_cmp name other)) q (alike q) (entries c)))

-- an edit puts a cell under its name
pub kept_put : (cells now : List Entry) (log longer : List Logged) (fails : List ℕ) (calls faults : ℕ) (name : Name) (edit : Edit) (after : Cell) → IsKept cells (told_of log fails calls faults) → may_stand name after ≡ true → hit_of edit name (get (content_of (told_of log fails calls faults)) name) ≡ Some (Some after) → now ≡ put name_cmp name after cells → longer ≡ log ++ record { at = calls; name = name; edit = edit } ∷ [] → IsKept now (told_of longer fails calls faults)
kept_put cells now log longer fails calls faults name edit after kept kind hits is logs =
    let told = told_of log fails calls faults in
    let change : Logged = record { at = calls; name = name; edit = edit } in
    let new : Told = noted told (change ∷ []) in
    let put_there : IsKept now new = record {
      present = ap entries (noted_content told name edit (Some (Some after)) hits) ∙ entries-insert name_cmp_total (content_of told) name after ∙ ap (put name_cmp name after) kept.present ∙ sym is;
      kinds = ap (list_all (λ entry. may_stand entry.0 entry.1)) is ∙ put_good (λ entry. may_stand entry.0 entry.1) name after cells kept.kinds kind;
      counted = record { made = noted_made told (change ∷ []) (refl, tt) kept.counted.made; faults = kept.counted.faults };
    } in
    subst (λ (l : List Logged). IsKept now (told_of l fails calls faults)) (sym logs) put_there

-- an edit takes a cell out
pub kept_out : (cells now : List Entry) (log longer : List Logged) (fails : List ℕ) (calls faults : ℕ) (name : Name) (edit : Edit) → IsKept cells (told_of log fails calls faults) → hit_of edit name (get (content_of (told_of log fails calls faults)) name) ≡ Some None → now ≡ others name cells → longer ≡ log ++ record { at = calls; name = name; edit = edit } ∷ [] → IsKept now (told_of longer fails calls faults)
kept_out cells now log longer fails calls faults name edit kept hits is logs =
    let told = told_of log fails calls faults in
    let change : Logged = record { at = calls; name = name; edit = edit } in
    let new : Told = noted told (change ∷ []) in
    let out : IsKept now new = record {
      present = ap entries (noted_content told name edit (Some None) hits) ∙ entries-remove (content_of told) name ∙ ap (others name) kept.present ∙ sym is;
      kinds = ap (list_all (λ entry. may_stand entry.0 entry.1)) is ∙ where_good (λ entry. may_stand entry.0 entry.1) _ cells kept.kinds;
      counted = record { made = noted_made told (change ∷ []) (refl, tt) kept.counted.made; faults = kept.counted.faults };
    } in
    subst (λ (l : List Logged). IsKept now (told_of l fails calls faults)) (sym logs) out

-- a cell that was put is found
pub put_found : (cells now : List Entry) (told : Told) (name : Name) (after : Cell) → IsKept now told → now ≡ put name_cmp name after cells → get (content_of told) name ≡ Some after
put_found cells now told name after kept is =
    sym (found_there now told name kept) ∙ ap (value_of name_cmp name) is ∙ find-put name_cmp name_cmp_total name name after cells
    ∙ ap (λ r. cond (is_eq r) (Some after) (value_of name_cmp name cells)) (tied_itself name_cmp_total name)

-- and one that was taken out isn't
pub out_found : (cells now : List Entry) (told : Told) (name : Name) → IsKept now told → now ≡ others name cells → get (content_of told) name ≡ None
out_found cells now told name kept is =
    let alike : (x : Name) → name_cmp name x ≡ Equal → not (eq_by_cmp name_cmp name x) ≡ not (eq_by_cmp name_cmp name name) = λ x t. ap (λ r. not (is_eq r)) (sym (alike_right name_cmp_total name x name t)) in
    sym (found_there now told name kept) ∙ ap (value_of name_cmp name) is ∙ find-where_key name_cmp (λ other. not (eq_by_cmp name_cmp name other)) name alike cells
    ∙ ap (λ r. cond (not (is_eq r)) (value_of name_cmp name cells) None) (tied_itself name_cmp_total name)

pub held_kind : (name : Name) (o : Option Cell) → IfSome o (λ cell. IsTrue (may_stand name cell)) → may_hold name o ≡ true
held_kind name None h = refl
held_kind name (Some cell) h = h

pub left_kind : {E : Type 0} (name : Name) (r : Result Changed E) (hit : Hit) → IfOk r (λ changed. as_hit changed ≡ hit) → may_leave name hit ≡ true → IfOk r (λ changed. IsTrue (may_leave name (as_hit changed)))
left_kind name (Ok changed) hit e h = ap (may_leave name) e ∙ h
left_kind name (Err error) hit e h = tt
