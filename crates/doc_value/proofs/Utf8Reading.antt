-- Bytes are read as JSON or as a path where they are UTF-8, and only there.
use Rattle.std.proofs.Common.{◌≡◌, ℕ, List, Bool, true, false, cond, length, None, Err, IsUtf8, refl}
use Rattle.std.specs.Str.{is_utf8}
use Rattle.std.proofs.lemmas.Str.{IsUtf8-from_is_utf8, is_utf8-from_IsUtf8}
use Rattle.serde_json.specs.Read.{read}
use Rattle.doc_value.specs.declared.fault.PathFault.TheVariants.{BadPart}
use Rattle.doc_value.specs.Syntax.{json_in}
use Rattle.doc_value.specs.Paths.{path_in, path_of, parts_of}

pub json_in-text : (bytes : List ℕ) → IsUtf8 bytes → json_in bytes ≡ read bytes
unfolding json_in
json_in-text bytes text = rw (is_utf8-from_IsUtf8 bytes text)

by_test : {A : Type 0} (test : Bool) (found refused : A) → (test ≡ true → ⊥) → cond test found refused ≡ refused
by_test true found refused h = absurd (h refl)
by_test false found refused h = refl

pub json_in-other : (bytes : List ℕ) → (IsUtf8 bytes → ⊥) → json_in bytes ≡ None
unfolding json_in
json_in-other bytes other = by_test (is_utf8 bytes) (read bytes) None (λ e. other (IsUtf8-from_is_utf8 bytes e))

pub path_in-text : (bytes : List ℕ) → IsUtf8 bytes → path_in bytes ≡ path_of (length bytes) (parts_of bytes)
unfolding path_in
path_in-text bytes text = rw (is_utf8-from_IsUtf8 bytes text)

pub path_in-other : (bytes : List ℕ) → (IsUtf8 bytes → ⊥) → path_in bytes ≡ Err BadPart
unfolding path_in
path_in-other bytes other = by_test (is_utf8 bytes) _ _ (λ e. other (IsUtf8-from_is_utf8 bytes e))
