-- JSON whose numbers are whole and whose texts are UTF-8: what it is as a value and as a text.
use Rattle.std.proofs.Common.{◌≡◌, ℕ, suc, ◌^◌, ℤ, pos, negsuc, List, ◌∷◌, ◌++◌, Bool, true, false, cond, is_some, Some, None, unwrap_or, IsUtf8, map, refl, sym, ap, ap₂, ◌∙◌, subst, inl, inr, arith, rules, ltb-true}
use Rattle.std.specs.Prelude.{⊤}
use Rattle.std.specs.Fmt.{digits, signed_decimal}
use Rattle.std.proofs.lemmas.Bool.{and_from, cases_lt}
use Rattle.json.specs.Print.{quoted, IsNumber}
use Rattle.json.specs.Tree as tree
use Rattle.json.specs.Word.{after_number}
use Rattle.json.proofs.Printed.Decimals.{IsNumber-decimal, IsNumber-signed_decimal}
use Rattle.serde_json.specs.Data.{Num, Data, null, boolean, number, string, array, object, Items, no_items, item, Members, no_members, member, depth, items_depth, members_depth}
use Rattle.serde_json.specs.Find.{as_i64, of_integer}
use Rattle.serde_json.specs.Written.{number_text, outline, items_outline, members_outline, comma_if, compact_text, items_text as json_items_text, members_text as json_members_text}
use Rattle.doc_value.specs.declared.value.Named.{Named}
use Rattle.doc_value.specs.declared.value.Value.{Value, Bool as Truth, Int, List as Items_of, Object, the_lemmas}
use Rattle.doc_value.specs.Fields.{judged}
use Rattle.doc_value.specs.JsonFaults.{is_whole, items_are_whole, members_are_whole}
use Rattle.doc_value.specs.JsonValue.{value_of, values_of, fields_of}
use Rattle.doc_value.specs.Texts.{compact, items_text, fields_text}
use Rattle.doc_value.specs.Sound.{fits_64_bits}

-- a whole number of 64 bits, as serde_json keeps it
pub record IsPlainNumber (n : Num) : Type 0 where
  pub whole : ℤ
  pub is : n ≡ of_integer whole
  pub fits : fits_64_bits whole ≡ true

abbrev mutual
  pub IsPlain : Data → Type 0
  IsPlain null = ⊤
  IsPlain (boolean b) = ⊤
  IsPlain (number n) = IsPlainNumber n
  IsPlain (string s) = IsUtf8 s
  IsPlain (array ds) = ItemsArePlain ds
  IsPlain (object ms) = MembersArePlain ms

  pub ItemsArePlain : Items → Type 0
  ItemsArePlain no_items = ⊤
  ItemsArePlain (item d ds) = IsPlain d × ItemsArePlain ds

  pub MembersArePlain : Members → Type 0
  MembersArePlain no_members = ⊤
  MembersArePlain (member k d ms) = IsUtf8 k × IsPlain d × MembersArePlain ms

-- ---- numbers

as_i64-of_integer : (z : ℤ) → fits_64_bits z ≡ true → as_i64 (of_integer z) ≡ Some z
as_i64-of_integer (pos n) h = ap (λ b. cond b (Some (pos n)) None) h
as_i64-of_integer (negsuc n) h = refl

pub plain_number : (n : Num) (h : IsPlainNumber n) → as_i64 n ≡ Some h.whole
plain_number n h = ap as_i64 h.is ∙ as_i64-of_integer h.whole h.fits

text_of_integer : (z : ℤ) → number_text (of_integer z) ≡ signed_decimal z
text_of_integer (pos n) = refl
text_of_integer (negsuc n) = refl

pub plain_number_text : (n : Num) (h : IsPlainNumber n) → number_text n ≡ signed_decimal h.whole
plain_number_text n h = ap number_text h.is ∙ text_of_integer h.whole

least : IsNumber (signed_decimal (negsuc 9223372036854775807))
unfolding after_number digits
least = refl

IsNumber-whole : (z : ℤ) → fits_64_bits z ≡ true → IsNumber (signed_decimal z)
IsNumber-whole (pos n) h = IsNumber-decimal n (omega (arith, ltb-true n (2 ^ 63) h))
IsNumber-whole (negsuc n) h =
    let small = ltb-true n (2 ^ 63) h in
    elim (cases_lt n 9223372036854775807) [
      | inl less ↦ IsNumber-signed_decimal (negsuc n) (omega arith)
      | inr more ↦ let e : n ≡ 9223372036854775807 = omega arith in rw e least
    ]

-- ---- whole numbers alone

mutual
  pub whole-plain : (d : Data) → IsPlain d → is_whole d ≡ true
  whole-plain null h = refl
  whole-plain (boolean b) h = refl
  whole-plain (number n) h = ap is_some (plain_number n h)
  whole-plain (string s) h = refl
  whole-plain (array ds) h = whole-items ds h
  whole-plain (object ms) h = whole-members ms h

  whole-items : (ds : Items) → ItemsArePlain ds → items_are_whole ds ≡ true
  whole-items no_items h = refl
  whole-items (item d ds) h = and_from _ _ (whole-plain d h.0) (whole-items ds h.1)

  whole-members : (ms : Members) → MembersArePlain ms → members_are_whole ms ≡ true
  whole-members no_members h = refl
  whole-members (member k d ms) h = and_from _ _ (whole-plain d h.1) (whole-members ms h.2)

-- ---- the numbers of the outline are numbers, and it nests as deep

mutual
  pub numbers-outline : (d : Data) → IsPlain d → tree.HasNumbers (outline d)
  numbers-outline null h = tt
  numbers-outline (boolean b) h = tt
  numbers-outline (number n) h = subst IsNumber (sym (plain_number_text n h)) (IsNumber-whole h.whole h.fits)
  numbers-outline (string s) h = tt
  numbers-outline (array ds) h = numbers-items ds h
  numbers-outline (object ms) h = numbers-members ms h

  numbers-items : (ds : Items) → ItemsArePlain ds → tree.ItemsHaveNumbers (items_outline ds)
  numbers-items no_items h = tt
  numbers-items (item d ds) h = (numbers-outline d h.0, numbers-items ds h.1)

  numbers-members : (ms : Members) → MembersArePlain ms → tree.MembersHaveNumbers (members_outline ms)
  numbers-members no_members h = tt
  numbers-members (member k d ms) h = (numbers-outline d h.1, numbers-members ms h.2)

mutual
  pub depth-outline : (d : Data) → tree.depth (outline d) ≡ depth d
  depth-outline null = refl
  depth-outline (boolean b) = refl
  depth-outline (number n) = refl
  depth-outline (string s) = refl
  depth-outline (array ds) = ap suc (depth-items ds)
  depth-outline (object ms) = ap suc (depth-members ms)

  depth-items : (ds : Items) → tree.items_depth (items_outline ds) ≡ items_depth ds
  depth-items no_items = refl
  depth-items (item d ds) = rw (depth-outline d, depth-items ds)

  depth-members : (ms : Members) → tree.members_depth (members_outline ms) ≡ members_depth ms
  depth-members no_members = refl
  depth-members (member k d ms) = rw (depth-outline d, depth-members ms)

-- ---- the compact text

compact-List : (vs : List Value) → compact (Items_of vs) ≡ 91 ∷ items_text false (map compact vs)
compact-List vs = search (rules, the_lemmas)

compact-Object : (fs : List (Named Value)) → compact (Object fs) ≡ 123 ∷ fields_text false (map (judged compact) fs)
compact-Object fs = search (rules, the_lemmas)

compact-Int : (z : ℤ) → compact (Int z) ≡ signed_decimal z
compact-Int z = search (rules, the_lemmas)

compact-Bool : (b : Bool) → compact (Truth b) ≡ compact_text (boolean b)
compact-Bool true = search (rules, the_lemmas)
compact-Bool false = search (rules, the_lemmas)

mutual
  pub compact-value_of : (d : Data) → IsPlain d → compact (value_of d) ≡ compact_text d
  compact-value_of null h = search (rules, the_lemmas)
  compact-value_of (boolean b) h = compact-Bool b
  compact-value_of (number n) h = ap (λ o. compact (Int (unwrap_or o (pos 0)))) (plain_number n h) ∙ compact-Int h.whole ∙ sym (plain_number_text n h)
  compact-value_of (string s) h = search (rules, the_lemmas)
  compact-value_of (array ds) h = compact-List (values_of ds) ∙ ap (λ s. 91 ∷ s) (compact-values_of false ds h)
  compact-value_of (object ms) h = compact-Object (fields_of ms) ∙ ap (λ s. 123 ∷ s) (compact-fields_of false ms h)

  compact-values_of : (later : Bool) (ds : Items) → ItemsArePlain ds → items_text later (map compact (values_of ds)) ≡ json_items_text later ds
  compact-values_of later no_items h = refl
  compact-values_of later (item d ds) h = ap₂ (λ (a b : List ℕ). comma_if later ++ (a ++ b)) (compact-value_of d h.0) (compact-values_of true ds h.1)

  compact-fields_of : (later : Bool) (ms : Members) → MembersArePlain ms → fields_text later (map (judged compact) (fields_of ms)) ≡ json_members_text later ms
  compact-fields_of later no_members h = refl
  compact-fields_of later (member k d ms) h = ap₂ (λ (a b : List ℕ). comma_if later ++ (quoted k ++ 58 ∷ (a ++ b))) (compact-value_of d h.1) (compact-fields_of true ms h.2)
