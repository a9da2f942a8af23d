-- A body is a body again, under each id, and readable where the value was that it was read from.
use Rattle.std.proofs.Common.{◌≡◌, ◌≤◌, List, false, nat_lt, None, Ok, sym, ap, ◌∙◌, arith, rules}
use Rattle.std.proofs.lemmas.Bool.Decides.{nat_tests}
use Rattle.doc_value.specs.declared.doc_id.DocId.{DocId}
use Rattle.doc_value.specs.declared.value.Named.{Named}
use Rattle.doc_value.specs.declared.value.Value.{Value, Object, the_lemmas}
use Rattle.doc_value.specs.declared.value.Value.TheOpen.{Value-F}
use Rattle.doc_value.specs.Bodies.{first_refused, without_id, body_from, body_in, unless_refused}
use Rattle.doc_value.specs.Depth.{nesting}
use Rattle.doc_value.specs.Readable.{IsReadable}
use Rattle.doc_value.proofs.Levels.{nesting-Object, names-Object, ordered-Object, sound-Object}
use Rattle.doc_value.proofs.BodyFields.{without_id-again, first_refused-without_id, nesting-without_id, names-without_id, sound-without_id, order-without_id}

body_in-Object : (id : DocId) (fs : List (Named Value)) → body_in id (Object fs) ≡ body_from id (Object fs) (Value-F.Object fs)
body_in-Object id fs = search (rules, the_lemmas)

nests_less : (fs : List (Named Value)) → nesting (Object (without_id fs)) ≤ nesting (Object fs)
nests_less fs = omega (arith, nesting-Object fs, nesting-Object (without_id fs), nesting-without_id fs)

fine_body : (id : DocId) (fs : List (Named Value)) → nat_lt 90 (nesting (Object fs)) ≡ false → first_refused id fs ≡ None → body_from id (Object fs) (Value-F.Object fs) ≡ Ok (Object (without_id fs))
fine_body id fs shallow fine = rw shallow (ap (λ refused. unless_refused refused fs) fine)

pub body_again : (other id : DocId) (fs : List (Named Value)) → nat_lt 90 (nesting (Object fs)) ≡ false → first_refused id fs ≡ None → body_in other (Object (without_id fs)) ≡ Ok (Object (without_id fs))
body_again other id fs shallow fine =
    let less = nests_less fs in
    let still : nat_lt 90 (nesting (Object (without_id fs))) ≡ false = grind (arith, nat_tests) in
    body_in-Object other (without_id fs) ∙ fine_body other (without_id fs) still (first_refused-without_id other id fs fine) ∙ ap (λ kept. Ok (Object kept)) (without_id-again fs)

pub body_readable : (fs : List (Named Value)) → IsReadable (Object fs) → IsReadable (Object (without_id fs))
body_readable fs whole = record {
  nests = omega (arith, nests_less fs, whole.nests);
  names = names-Object (without_id fs) ∙ names-without_id fs (sym (names-Object fs) ∙ whole.names);
  ordered = ordered-Object (without_id fs) ∙ order-without_id fs (sym (ordered-Object fs) ∙ whole.ordered);
  sound = sound-Object (without_id fs) ∙ sound-without_id fs (sym (sound-Object fs) ∙ whole.sound);
}
