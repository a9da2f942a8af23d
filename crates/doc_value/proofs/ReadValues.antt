-- What is read has the names of each object in order, is no deeper than allowed and holds no refused name.
use Rattle.std.proofs.Common.{◌≡◌, ℕ, List, Bool, true, false, cond, nat_lt, Option, Some, None, ◌∙◌, arith}
use Rattle.std.proofs.lemmas.Bool.Decides.{nat_tests}
use Rattle.std.specs.Str.{is_utf8}
use Rattle.serde_json.specs.Data.{Data, depth}
use Rattle.serde_json.specs.Read.{read}
use Rattle.doc_value.specs.JsonFaults.{has_bad_name}
use Rattle.doc_value.specs.JsonValue.{value_of}
use Rattle.doc_value.specs.Readable.{IsReadable}
use Rattle.doc_value.specs.Syntax.{json_in}
use Rattle.doc_value.specs.Sound.{is_sound}
use Rattle.doc_value.proofs.JsonOrder.{InOrder, InOrder-read}
use Rattle.doc_value.proofs.JsonLevels.{nesting-value_of, bad-value_of, ordered-value_of}

read_where_some : (test : Bool) (found : Option Data) (d : Data) → cond test found None ≡ Some d → found ≡ Some d
read_where_some true found d e = e
read_where_some false found d e = absurd (cc)

InOrder-json_in : (bytes : List ℕ) (d : Data) → json_in bytes ≡ Some d → InOrder d
unfolding json_in
InOrder-json_in bytes d e = InOrder-read bytes d (read_where_some (is_utf8 bytes) (read bytes) d e)

pub IsReadable-value_of : (bytes : List ℕ) (d : Data) → json_in bytes ≡ Some d → nat_lt 100 (depth d) ≡ false → has_bad_name d ≡ false → is_sound (value_of d) ≡ true → IsReadable (value_of d)
IsReadable-value_of bytes d read shallow names sound =
    let level = nesting-value_of d in
    record {
      nests = grind (arith, nat_tests);
      names = bad-value_of d ∙ names;
      ordered = ordered-value_of d (InOrder-json_in bytes d read);
      sound = sound;
    }
