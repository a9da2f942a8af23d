-- A body is an object that has none of the names that a document has beside it.
use Rattle.std.proofs.Common.{◌≡◌, ◌||◌, ◌&&◌, ℕ, pos, Bool, true, false, not, codes, filter, List, [], ◌∷◌, Option, Some, None, Result, Ok, Err, refl, sym, ap, ◌∙◌, if◌then◌else◌, true≢false, nat_lt}
use Rattle.std.specs.Option.{option_or}
use Rattle.std.specs.Str.{bytes_eq}
use Rattle.std.proofs.lemmas.Slice.Eq.{bytes_eq-Decides}
use Rattle.doc_value.specs.Bodies.{body_from, first_refused, refused_at_top, refused_inside, unless_refused, without_id}
use Rattle.doc_value.specs.Depth.{nesting}
use Rattle.doc_value.specs.Ids.{is_value_of_id}
use Rattle.doc_value.specs.Names.{is_id_name, is_refused_name, is_transaction_name}
use Rattle.doc_value.specs.declared.doc_id.DocId.{DocId}
use Rattle.doc_value.specs.declared.doc_id.DocId.TheVariants as doc_id
use Rattle.doc_value.specs.declared.fault.BodyFault.{BodyFault}
use Rattle.doc_value.specs.declared.fault.BodyFault.TheVariants.{TooDeep}
use Rattle.doc_value.specs.declared.value.Named.{Named as Field}
use Rattle.doc_value.specs.declared.value.Value.{Value, Object, out-Value}
use Rattle.doc_value.specs.declared.value.Value.TheOpen.{Value-F}
use Rattle.txn_record.specs.Transactions.{IsBody}
use Rattle.cell_text.specs.Fields.{fields_in}
use Rattle.cell_text.specs.Syntax.{is_own_name}
use Rattle.cell_text.proofs.FieldsAgain.{Fields, have_no_own, is_other}
use Rattle.cell_text.proofs.PartsAgain.{object_layer}

both_none : (a b : Option (List ℕ)) → option_or a b ≡ None → (a ≡ None) × (b ≡ None)
both_none (Some name) b h = cc h
both_none None b h = (refl, h)

differs : (name word : List ℕ) → is_transaction_name word ≡ true → is_transaction_name name ≡ false → bytes_eq name word ≡ false
differs name word of_transactions other = by (bytes_eq name word) refl
  where
    by : (b : Bool) → bytes_eq name word ≡ b → bytes_eq name word ≡ false
    by true is = absurd (true≢false (sym of_transactions ∙ sym (ap is_transaction_name ((bytes_eq-Decides name word).0 is)) ∙ other))
    by false is = is

neither : (p q : Bool) → (p || q) ≡ false → q ≡ false
neither true q h = cc h
neither false q h = h

not_own : (name : List ℕ) → is_id_name name ≡ false → (is_refused_name name || is_transaction_name name) ≡ false → is_own_name name ≡ false
not_own name not_id not_refused =
    let other = neither (is_refused_name name) (is_transaction_name name) not_refused in
    λ j. not_id j || differs name (codes "txn-queue") refl other j || differs name (codes "txn-remove") refl other j || differs name (codes "txn-revno") refl other j

clean_field : (id : DocId) (f : Field Value) → is_id_name f.name ≡ false → refused_at_top id f ≡ None → is_own_name f.name ≡ false
clean_field id f not_id h = by (is_refused_name f.name || is_transaction_name f.name) refl
  where
    by : (b : Bool) → (is_refused_name f.name || is_transaction_name f.name) ≡ b → is_own_name f.name ≡ false
    by true is = cc (not_id, is, h)
    by false is = not_own f.name not_id is

clean : (id : DocId) (fs : Fields) → first_refused id fs ≡ None → have_no_own (without_id fs) ≡ true
clean id [] h = refl
clean id (f ∷ fs) h =
    let parts = both_none (refused_at_top id f) (first_refused id fs) h in
    by (is_id_name f.name) refl parts.0 (clean id fs parts.1)
  where
    by : (b : Bool) → is_id_name f.name ≡ b → refused_at_top id f ≡ None → have_no_own (without_id fs) ≡ true → have_no_own (if not b then f ∷ without_id fs else without_id fs) ≡ true
    by true is fine rest = rest
    by false is fine rest = ap (λ (own : Bool). not own && have_no_own (without_id fs)) (clean_field id f is fine) ∙ rest

-- the fields of a body
pub record Bodied (body : Value) : Type 0 where
  pub object : Object (fields_in (out-Value body)) ≡ body
  pub others : have_no_own (fields_in (out-Value body)) ≡ true

pub bodied : (body : Value) → IsBody body → Bodied body
bodied body h = by (out-Value body) refl (h zero_id)
  where
    zero_id : DocId
    zero_id = doc_id.Int (pos 0)

    whole : (fs : Fields) → first_refused zero_id fs ≡ None → Object (without_id fs) ≡ body → Bodied body
    whole fs none is =
        let fields : fields_in (out-Value body) ≡ without_id fs = ap (λ (v : Value). fields_in (out-Value v)) (sym is) ∙ ap fields_in (object_layer (without_id fs)) in
        record {
          object = ap Object fields ∙ is;
          others = ap have_no_own fields ∙ clean zero_id fs none;
        }

    read : (fs : Fields) (found : Option (List ℕ)) → first_refused zero_id fs ≡ found → unless_refused found fs ≡ Ok body → Bodied body
    read fs (Some name) is e = cc e
    read fs None is e = whole fs is (unwrapped e)
      where
        unwrapped : ◌≡◌ {A = Result Value BodyFault} (Ok (Object (without_id fs))) (Ok body) → Object (without_id fs) ≡ body
        unwrapped e = cc e

    by : (layer : Value-F Value) → out-Value body ≡ layer → body_from zero_id body layer ≡ Ok body → Bodied body
    by (Value-F.Object fs) e is = deep (nat_lt 90 (nesting body)) is
      where
        deep : (b : Bool) → (if b then Err TooDeep else unless_refused (first_refused zero_id fs) fs) ≡ Ok body → Bodied body
        deep true is = cc is
        deep false is = read fs (first_refused zero_id fs) refl is
    by _ e is = cc is
