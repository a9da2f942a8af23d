-- The records of a content in order, and how a put of one cell changes them.
use Rattle.std.proofs.Common.{◌≡◌, ◌≢◌, true, Option, Some, None, List, [], ◌∷◌, ◌++◌, sym, ap, ◌∙◌, refl, subst}
use Rattle.std.specs.Prelude.{option_and_then, option_to_list}
use Rattle.std.specs.FinMap.{get, insert, entries}
use Rattle.std.specs.List.{AllByRecursion, filter_map}
use Rattle.std.proofs.lemmas.List.Elements.{filter_map-append}
use Rattle.std.proofs.lemmas.Slice.Eq.{bytes_eq-Decides}
use Rattle.txn_key.specs.declared.id.TxnId.{TxnId}
use Rattle.txn_record.specs.declared.record.Record.{Record}
use Rattle.store_trait.proofs.NameOrder.{name_cmp_total, name_cmp-IsAntisymmetric}
use Rattle.store_trait.specs.Cells.{as_record}
use Rattle.store_trait.specs.Contents.{Content}
use Rattle.store_laws.specs.Meaning.{records}
use Rattle.store_trait.specs.Names.{may_stand, same_id}
use Rattle.store_laws.specs.View.{record_at}
use Rattle.store_trait.specs.declared.cell.Cell.{Cell}
use Rattle.store_trait.specs.declared.cell.Cell.TheVariants as cell
use Rattle.store_trait.specs.declared.name.Name.{Name}
use Rattle.store_trait.specs.declared.name.Name.TheVariants as name
use Rattle.store_laws.proofs.meanings.Splits.{entry_of, insert_split, all_there}

-- each cell is of its name's kind, and a record stands under its own id
abbrev pub HasKinds : Content → Type 0
HasKinds c = (n : Name) (x : Cell) → get c n ≡ Some x → may_stand n x ≡ true

abbrev pub records_in : List (Name × Cell) → List Record
records_in es = filter_map (λ (entry : Name × Cell). as_record entry.1) es

-- a record that stands under its own id, of whose name more is known
pub record IsStanding (c : Content) (Known : Name → Type 0) (rec : Record) : Type 0 where
  pub there : record_at c rec.id ≡ Some rec
  pub known : Known (name.Record rec.id)

pub record IsRecordSplit (c : Content) (id : TxnId) (old : Option Record) (new : Record) (was is : List Record) : Type 0 where
  pub pre : List Record
  pub post : List Record
  pub before : was ≡ pre ++ (option_to_list old ++ post)
  pub after : is ≡ pre ++ new ∷ post
  pub others_before : AllByRecursion (IsStanding c (λ n. n ≢ name.Record id)) pre
  pub others_after : AllByRecursion (IsStanding c (λ n. n ≢ name.Record id)) post

pub same_id-equal : (a b : TxnId) → same_id a b ≡ true → a ≡ b
same_id-equal a b e = let p = (bytes_eq-Decides a.0 b.0).0 e in λ i. record { 0 = p i }

own_name : (n : Name) (rec : Record) → may_stand n (cell.Record rec) ≡ true → n ≡ name.Record rec.id
own_name (name.Record id) rec e = ap name.Record (same_id-equal id rec.id e)
own_name _ rec e = cc

pub all_parts : {X : Type 0} (P : X → Type 0) (xs ys : List X) → AllByRecursion P (xs ++ ys) → AllByRecursion P xs × AllByRecursion P ys
all_parts P [] ys all = (tt, all)
all_parts P (x ∷ xs) ys all = let parts = all_parts P xs ys all.1 in ((all.0, parts.0), parts.1)

standing : (c : Content) (Known : Name → Type 0) → HasKinds c → (es : List (Name × Cell)) → AllByRecursion (λ (e : Name × Cell). get c e.0 ≡ Some e.1) es
    → AllByRecursion (λ (e : Name × Cell). Known e.0) es → AllByRecursion (IsStanding c Known) (records_in es)
unfolding record_at
standing c Known kinds [] there known = tt
standing c Known kinds ((n, cell.Record rec) ∷ es) there known =
    let own = own_name n rec (kinds n (cell.Record rec) there.0) in
    let at : get c (name.Record rec.id) ≡ Some (cell.Record rec) = subst (λ (m : Name). get c m ≡ Some (cell.Record rec)) own there.0 in
    (record { there = ap (option_and_then as_record) at; known = subst Known own known.0 }, standing c Known kinds es there.1 known.1)
standing c Known kinds ((n, _) ∷ es) there known = standing c Known kinds es there.1 known.1

trivially : (es : List (Name × Cell)) → AllByRecursion (λ (e : Name × Cell). Unit {0}) es
trivially [] = tt
trivially (e ∷ es) = (tt, trivially es)

pub all_standing : (c : Content) → HasKinds c → AllByRecursion (IsStanding c (λ n. Unit {0})) (records c)
all_standing c kinds = standing c (λ n. Unit {0}) kinds (entries c) (all_there name_cmp_total name_cmp-IsAntisymmetric c) (trivially (entries c))

one_record : (n : Name) (old : Option Cell) → records_in (entry_of n old) ≡ option_to_list (option_and_then as_record old)
one_record n None = refl
one_record n (Some (cell.Record rec)) = refl
one_record n (Some _) = refl

three : (n : Name) (old : Option Cell) (pre post : List (Name × Cell)) → records_in (pre ++ (entry_of n old ++ post)) ≡ records_in pre ++ (option_to_list (option_and_then as_record old) ++ records_in post)
three n old pre post =
    filter_map-append _ pre (entry_of n old ++ post) ∙ ap (λ (l : List Record). records_in pre ++ l) (filter_map-append _ (entry_of n old) post ∙ ap (λ (l : List Record). l ++ records_in post) (one_record n old))

pub record_split : (c : Content) → HasKinds c → (id : TxnId) (rec : Record) → IsRecordSplit c id (record_at c id) rec (records c) (records (insert c (name.Record id) (cell.Record rec)))
unfolding record_at
record_split c kinds id rec =
    let n = name.Record id in
    let s = insert_split name_cmp_total name_cmp-IsAntisymmetric c n (cell.Record rec) in
    let there = subst (λ (es : List (Name × Cell)). AllByRecursion (λ (e : Name × Cell). get c e.0 ≡ Some e.1) es) s.before (all_there name_cmp_total name_cmp-IsAntisymmetric c) in
    let first = all_parts (λ (e : Name × Cell). get c e.0 ≡ Some e.1) s.pre (entry_of n (get c n) ++ s.post) there in
    let second = all_parts (λ (e : Name × Cell). get c e.0 ≡ Some e.1) (entry_of n (get c n)) s.post first.1 in
    record {
      pre = records_in s.pre;
      post = records_in s.post;
      before = ap records_in s.before ∙ three n (get c n) s.pre s.post;
      after = ap records_in s.after ∙ filter_map-append _ s.pre ((n, cell.Record rec) ∷ s.post);
      others_before = standing c (λ m. m ≢ n) kinds s.pre first.0 s.apart_before;
      others_after = standing c (λ m. m ≢ n) kinds s.post second.1 s.apart_after;
    }

-- a cell that is no record and takes the place of none
pub records-put_other : (c : Content) (n : Name) (x : Cell) → as_record x ≡ None → option_and_then as_record (get c n) ≡ None → records (insert c n x) ≡ records c
records-put_other c n x none was =
    let s = insert_split name_cmp_total name_cmp-IsAntisymmetric c n x in
    ap records_in s.after ∙ three n (Some x) s.pre s.post ∙ ap (λ (o : Option Record). records_in s.pre ++ (option_to_list o ++ records_in s.post)) (none ∙ sym was)
    ∙ sym (ap records_in s.before ∙ three n (get c n) s.pre s.post)
