-- The printed text of a value that reading can give is read as that value.
use Rattle.std.proofs.Common.{◌≡◌, ◌≤◌, true, false, nat_lt, Ok, Some, IsUtf8, sym, ap, ◌∙◌, subst, arith}
use Rattle.std.proofs.lemmas.Bool.Decides.{nat_tests}
use Rattle.serde_json.specs.Data.{Data, depth}
use Rattle.serde_json.specs.Written.{compact_text}
use Rattle.doc_value.specs.declared.value.Value.{Value}
use Rattle.doc_value.specs.JsonFaults.{has_bad_name, is_whole}
use Rattle.doc_value.specs.JsonValue.{value_of}
use Rattle.doc_value.specs.Depth.{nesting}
use Rattle.doc_value.specs.Order.{is_ordered}
use Rattle.doc_value.specs.Texts.{compact}
use Rattle.doc_value.specs.Readable.{IsReadable, holds_bad_name}
use Rattle.doc_value.specs.Syntax.{value_from, value_in, json_in}
use Rattle.doc_value.specs.Sound.{is_sound}
use Rattle.doc_value.proofs.JsonLevels.{nesting-value_of, bad-value_of, InOrder-is_ordered}
use Rattle.doc_value.proofs.PlainJson.{IsPlain, whole-plain, compact-value_of}
use Rattle.doc_value.proofs.PlainUtf8.{utf8-compact_text}
use Rattle.doc_value.proofs.JsonAgain.{json_in-compact_text}
use Rattle.doc_value.proofs.DataOfValues.{data_of, rebuilt}

compact-plain : (v : Value) (d : Data) → value_of d ≡ v → IsPlain d → compact v ≡ compact_text d
compact-plain v d is h = ap compact (sym is) ∙ compact-value_of d h

pub utf8-compact : (v : Value) → is_sound v ≡ true → IsUtf8 (compact v)
utf8-compact v sound =
    let told = rebuilt v sound in
    subst IsUtf8 (sym (compact-plain v (data_of v) told.0 told.1)) (utf8-compact_text (data_of v) told.1)

no_fault : (d : Data) → nat_lt 100 (depth d) ≡ false → has_bad_name d ≡ false → is_whole d ≡ true → value_from (Some d) ≡ Ok (value_of d)
no_fault d shallow names whole = rw (shallow, names, whole)

read_again : (v : Value) (d : Data) → value_of d ≡ v → IsPlain d → IsReadable v → value_in (compact v) ≡ Ok v
read_again v d is h readable =
    let level : depth d ≡ nesting v = sym (nesting-value_of d) ∙ ap nesting is in
    let deep : depth d ≤ 100 = subst (λ n. n ≤ 100) (sym level) readable.nests in
    let order = InOrder-is_ordered d (ap is_ordered is ∙ readable.ordered) in
    let names : has_bad_name d ≡ false = sym (bad-value_of d) ∙ ap holds_bad_name is ∙ readable.names in
    let shallow : nat_lt 100 (depth d) ≡ false = grind (arith, nat_tests) in
    ap value_from (ap json_in (compact-plain v d is h) ∙ json_in-compact_text d h order (omega arith))
    ∙ no_fault d shallow names (whole-plain d h) ∙ ap Ok is

pub reads_back : (v : Value) → IsReadable v → value_in (compact v) ≡ Ok v
reads_back v readable = let told = rebuilt v readable.sound in read_again v (data_of v) told.0 told.1 readable
