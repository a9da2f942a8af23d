-- Tests of marks.
use Rattle.std.proofs.Common.{◌≡◌, ◌↔◌, ℤ, Bool, true, false, ◌&&◌, ◌||◌, IsTrue, List, [], ◌∷◌, Option, Some, None, ⊎_elim, inl, inr, refl, sym, ap, ◌∙◌, subst}
use Rattle.std.specs.Ordering.{int_eq}
use Rattle.std.proofs.lemmas.Bool.{and_from, and_parts}
use Rattle.std.proofs.lemmas.Bool.Decides.{Decides-int_eq}
use Rattle.txn_key.specs.Keys.{same_key}
use Rattle.txn_key.specs.declared.id.Token.{Token}
use Rattle.txn_key.specs.declared.key.Key.{Key}
use Rattle.txn_record.specs.declared.op.Op.{Op}
use Rattle.txn_record.specs.declared.op.Change.{Change}
use Rattle.txn_record.specs.declared.record.Record.{Record}
use Rattle.store_laws.proofs.meanings.Runs.{same_key-equal, same_key-itself}
use Rattle.store_laws.specs.Chains.{IsAt}
use Rattle.store_laws.specs.Soundness.{IsMarkOf, IsMarkedSoundly}
use Rattle.store_laws.specs.View.{View, doc_at, stash_at, held_number}
use Rattle.store_trait.specs.Contents.{Content}
use Rattle.store_trait.specs.declared.cell.DocCell.{DocCell}
use Rattle.store_trait.specs.declared.cell.StashCell.{StashCell}
use Rattle.store_trait.specs.declared.name.Name.{Name}
use Rattle.store_trait.specs.declared.name.Name.TheVariants as name
use Rattle.store_trait.specs.declared.side.Side.{Side}
use Rattle.store_trait.specs.declared.side.Side.TheVariants as side
use Rattle.txn_audit.specs.Marks.{doc_mark, stash_mark, IsMarkIfOwner, is_marking, is_marked_by, some_mark, HasMarking, MarksIn}

module _ (key : Key) (number : ℤ) (side : Side) where
  abbrev Marking : List Op → List ℤ → Type 0
  Marking ops numbers = HasMarking ops numbers key number (is_marking side)

  here : (op : Op) (found : ℤ) (ops : List Op) (numbers : List ℤ) → is_marked_by op found key number side ≡ true → Marking (op ∷ ops) (found ∷ numbers)
  here op found ops numbers h =
      let last = and_parts (int_eq found number && same_key op.key key) (is_marking side op.change) h in
      let first = and_parts (int_eq found number) (same_key op.key key) last.0 in
      record {
        op = op;
        stands = inl (refl, (Decides-int_eq found number).0 first.0);
        on = same_key-equal op.key key first.1;
        kind = last.1;
      }

  later : (op : Op) (found : ℤ) (ops : List Op) (numbers : List ℤ) → Marking ops numbers → Marking (op ∷ ops) (found ∷ numbers)
  later op found ops numbers m = record { op = m.op; stands = inr m.stands; on = m.on; kind = m.kind }

  finds : (ops : List Op) (numbers : List ℤ) → some_mark ops numbers key number side ≡ true → Marking ops numbers
  finds [] numbers h = absurd (cc)
  finds (op ∷ ops) [] h = absurd (cc)
  finds (op ∷ ops) (found ∷ numbers) h = by (is_marked_by op found key number side) refl h (λ e. finds ops numbers e)
    where
      by : (b : Bool) → is_marked_by op found key number side ≡ b → (b || some_mark ops numbers key number side) ≡ true
          → (some_mark ops numbers key number side ≡ true → Marking ops numbers) → Marking (op ∷ ops) (found ∷ numbers)
      by true is e rest = here op found ops numbers is
      by false is e rest = later op found ops numbers (rest e)

  or_left : (a b : Bool) → a ≡ true → (a || b) ≡ true
  or_left true b h = refl
  or_left false b h = absurd (cc)

  or_right : (a b : Bool) → b ≡ true → (a || b) ≡ true
  or_right true b h = refl
  or_right false b h = h

  marked : (op o : Op) (found : ℤ) → o ≡ op → found ≡ number → op.key ≡ key → is_marking side op.change ≡ true → is_marked_by o found key number side ≡ true
  marked op o found same at on kind =
      and_from (int_eq found number && same_key o.key key) (is_marking side o.change)
      (and_from (int_eq found number) (same_key o.key key) ((Decides-int_eq found number).1 at)
      (subst (λ (k : Key). same_key k key ≡ true) (sym (ap (λ (x : Op). x.key) same ∙ on)) (same_key-itself key)))
      (subst (λ (x : Op). is_marking side x.change ≡ true) (sym same) kind)

  found_there : (op : Op) (ops : List Op) (numbers : List ℤ) → IsAt op number ops numbers → op.key ≡ key → is_marking side op.change ≡ true → some_mark ops numbers key number side ≡ true
  found_there op [] numbers at on kind = absurd at
  found_there op (o ∷ ops) [] at on kind = absurd at
  found_there op (o ∷ ops) (found ∷ numbers) at on kind =
      ⊎_elim
      (λ both. or_left (is_marked_by o found key number side) (some_mark ops numbers key number side) (marked op o found both.0 both.1 on kind))
      (λ more. or_right (is_marked_by o found key number side) (some_mark ops numbers key number side) (found_there op ops numbers more on kind))
      at

  pub marking_tested : (ops : List Op) (numbers : List ℤ) (b : Bool) → b ≡ some_mark ops numbers key number side → IsTrue b ↔ Marking ops numbers
  marking_tested ops numbers b is = (
    λ h. finds ops numbers (sym is ∙ h),
    λ m. is ∙ found_there m.op ops numbers m.stands m.on m.kind,
  )

parts : (view : View) (key : Key) (mark : Token) (is_kind : Change → Bool) (b : Bool)
    → IsTrue b ↔ MarksIn (view.record_at mark.id) mark.nonce key (held_number (view.held_at key)) is_kind → IsTrue b ↔ IsMarkOf view key mark is_kind
parts view key mark is_kind b tested = (
  λ h. let it = tested.0 h in record {
    rec = it.rec;
    there = it.there;
    applies = it.at.applied.applies;
    nonce = it.at.applied.drawn;
    numbers = it.at.numbers;
    numbered = it.at.numbered;
    op = it.at.marking.op;
    stands = it.at.marking.stands;
    on = it.at.marking.on;
    kind = it.at.marking.kind;
  },
  λ m. tested.1 (record {
    rec = m.rec;
    there = m.there;
    at = record {
      applied = record { applies = m.applies; drawn = m.nonce };
      numbers = m.numbers;
      numbered = m.numbered;
      marking = record { op = m.op; stands = m.stands; on = m.on; kind = m.kind };
    };
  }),
)

-- the parts of a mark of a record are those of the mark
pub mark_parts : (view : View) (key : Key) (mark : Token) (is_kind : Change → Bool) (found : Option Record) (number : ℤ) (b : Bool)
    → found ≡ view.record_at mark.id → number ≡ held_number (view.held_at key) → IsTrue b ↔ MarksIn found mark.nonce key number is_kind → IsTrue b ↔ IsMarkOf view key mark is_kind
mark_parts view key mark is_kind found number b is stands tested =
    parts view key mark is_kind b
    (subst (λ (n : ℤ). IsTrue b ↔ MarksIn (view.record_at mark.id) mark.nonce key n is_kind) stands
    (subst (λ (o : Option Record). IsTrue b ↔ MarksIn o mark.nonce key number is_kind) is tested))

-- ---- what may be the mark of a cell

marked_doc : (o : Option DocCell) (mark : Token) → doc_mark o ≡ Some mark → (doc : DocCell) × (o ≡ Some doc) × (doc.remove ≡ Some mark)
marked_doc None mark h = absurd (cc)
marked_doc (Some doc) mark h = (doc, refl, h)

marked_stash : (o : Option StashCell) (mark : Token) → stash_mark o ≡ Some mark → (stash : StashCell) × (o ≡ Some stash) × (stash.insert ≡ Some mark)
marked_stash None mark h = absurd (cc)
marked_stash (Some stash) mark h = (stash, refl, h)

module _ (c : Content) (key : Key) (b : Bool) where
  doc_marks : IsTrue b ↔ IsMarkIfOwner c key side.Document (doc_mark (doc_at c key)) → IsTrue b ↔ IsMarkedSoundly c (name.Doc key)
  doc_marks tested = (
    λ h doc mark there marked owns. tested.0 h mark (ap doc_mark there ∙ marked) owns,
    λ s. tested.1 (λ mark found owns. let it = marked_doc (doc_at c key) mark found in s it.0 mark it.1 it.2 owns),
  )

  stash_marks : IsTrue b ↔ IsMarkIfOwner c key side.Stash (stash_mark (stash_at c key)) → IsTrue b ↔ IsMarkedSoundly c (name.Stash key)
  stash_marks tested = (
    λ h stash mark there marked owns. tested.0 h mark (ap stash_mark there ∙ marked) owns,
    λ s. tested.1 (λ mark found owns. let it = marked_stash (stash_at c key) mark found in s it.0 mark it.1 it.2 owns),
  )

  pub doc_mark_tested : (under : Name) (o : Option DocCell) (found : Option Token) → under ≡ name.Doc key → o ≡ doc_at c key → found ≡ doc_mark o
      → IsTrue b ↔ IsMarkIfOwner c key side.Document found → IsTrue b ↔ IsMarkedSoundly c under
  doc_mark_tested under o found named there is tested =
      subst (λ (n : Name). IsTrue b ↔ IsMarkedSoundly c n) (sym named)
      (doc_marks (subst (λ (m : Option Token). IsTrue b ↔ IsMarkIfOwner c key side.Document m) (is ∙ ap doc_mark there) tested))

  pub stash_mark_tested : (under : Name) (o : Option StashCell) (found : Option Token) → under ≡ name.Stash key → o ≡ stash_at c key → found ≡ stash_mark o
      → IsTrue b ↔ IsMarkIfOwner c key side.Stash found → IsTrue b ↔ IsMarkedSoundly c under
  stash_mark_tested under o found named there is tested =
      subst (λ (n : Name). IsTrue b ↔ IsMarkedSoundly c n) (sym named)
      (stash_marks (subst (λ (m : Option Token). IsTrue b ↔ IsMarkIfOwner c key side.Stash m) (is ∙ ap stash_mark there) tested))
