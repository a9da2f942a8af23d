-- The compact text of plain JSON is UTF-8.
use Rattle.std.proofs.Common.{◌≡◌, ℕ, suc, ◌^◌, ℤ, pos, negsuc, List, [], ◌∷◌, Bool, true, false, IsUtf8, sym, subst, refl, arith, ltb-true}
use Rattle.std.specs.Fmt.{signed_decimal}
use Rattle.std.proofs.lemmas.Fmt.{IsAscii-decimal}
use Rattle.std.proofs.lemmas.Str.{IsUtf8-append, IsUtf8-from_ascii}
use Rattle.json.proofs.Printed.Utf8.{IsUtf8-quoted, IsUtf8-are_ascii, IsUtf8-boolean}
use Rattle.serde_json.specs.Data.{Data, null, boolean, number, string, array, object, Items, no_items, item, Members, no_members, member}
use Rattle.serde_json.specs.Written.{comma_if, compact_text, items_text, members_text}
use Rattle.doc_value.specs.Sound.{fits_64_bits}
use Rattle.doc_value.proofs.PlainJson.{plain_number_text, IsPlain, ItemsArePlain, MembersArePlain}

IsUtf8-byte : (byte : ℕ) (rest : List ℕ) → IsUtf8 (byte ∷ []) → IsUtf8 rest → IsUtf8 (byte ∷ rest)
IsUtf8-byte byte rest h more = IsUtf8-append (byte ∷ []) rest h more

IsUtf8-whole : (z : ℤ) → fits_64_bits z ≡ true → IsUtf8 (signed_decimal z)
IsUtf8-whole (pos n) h = IsUtf8-from_ascii _ (IsAscii-decimal n (omega (arith, ltb-true n (2 ^ 63) h)))
IsUtf8-whole (negsuc n) h =
    IsUtf8-byte 45 _ (IsUtf8-are_ascii _ refl) (IsUtf8-from_ascii _ (IsAscii-decimal (suc n) (omega (arith, ltb-true n (2 ^ 63) h))))

IsUtf8-comma_if : (later : Bool) → IsUtf8 (comma_if later)
IsUtf8-comma_if true = IsUtf8-are_ascii _ refl
IsUtf8-comma_if false = IsUtf8-are_ascii _ refl

mutual
  pub utf8-compact_text : (d : Data) → IsPlain d → IsUtf8 (compact_text d)
  utf8-compact_text null h = IsUtf8-are_ascii _ refl
  utf8-compact_text (boolean b) h = IsUtf8-boolean b
  utf8-compact_text (number n) h = subst IsUtf8 (sym (plain_number_text n h)) (IsUtf8-whole h.whole h.fits)
  utf8-compact_text (string s) h = IsUtf8-quoted s h
  utf8-compact_text (array ds) h = IsUtf8-byte 91 _ (IsUtf8-are_ascii _ refl) (utf8-items_text false ds h)
  utf8-compact_text (object ms) h = IsUtf8-byte 123 _ (IsUtf8-are_ascii _ refl) (utf8-members_text false ms h)

  utf8-items_text : (later : Bool) (ds : Items) → ItemsArePlain ds → IsUtf8 (items_text later ds)
  utf8-items_text later no_items h = IsUtf8-are_ascii _ refl
  utf8-items_text later (item d ds) h = IsUtf8-append _ _ (IsUtf8-comma_if later) (IsUtf8-append _ _ (utf8-compact_text d h.0) (utf8-items_text true ds h.1))

  utf8-members_text : (later : Bool) (ms : Members) → MembersArePlain ms → IsUtf8 (members_text later ms)
  utf8-members_text later no_members h = IsUtf8-are_ascii _ refl
  utf8-members_text later (member k d ms) h =
      IsUtf8-append _ _ (IsUtf8-comma_if later)
      (IsUtf8-append _ _ (IsUtf8-quoted k h.0) (IsUtf8-byte 58 _ (IsUtf8-are_ascii _ refl) (IsUtf8-append _ _ (utf8-compact_text d h.1) (utf8-members_text true ms h.2))))
