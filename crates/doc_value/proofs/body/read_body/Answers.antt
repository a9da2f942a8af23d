use Rattle.std.proofs.Common.{◌≡◌, ◌∙◌, Ok, false, nat_lt, sym, ap, subst}
use Rattle.std.specs.Option.{option_copied}
use Rattle.doc_value.specs.declared.value.Value.{Object}
use Rattle.doc_value.specs.Bodies.{body_in, first_refused, without_id}
use Rattle.doc_value.specs.Depth.{nesting}
use Rattle.doc_value.specs.Readable.{IsReadable}
use Rattle.doc_value.proofs.BodyAgain.{body_again, body_readable}
use Rattle.doc_value.proofs.body.read_body.Goals as goal

pub returns-clause-again : goal.returns-clause-again
returns-clause-again c = λ other.
    let kept = c.in_ok-copy_without_id.ensures ∙ ap without_id c.as_slice-2.ensures in
    let shallow = sym c.is_deeper_than.ensures ∙ c.if-is_deeper_than.false in
    let fine = sym (ap (first_refused c.args.id.now) c.as_slice.ensures) ∙ sym c.first_refused_field.ensures ∙ ap option_copied c.in_default-first_refused_field.is in
    subst (λ fields. body_in other (Object fields) ≡ Ok (Object fields)) (sym kept)
    (body_again other c.args.id.now c.in-Object.fields (subst (λ value. nat_lt 90 (nesting value) ≡ false) c.in-Object.is shallow) fine)

pub returns-clause-readable : goal.returns-clause-readable
returns-clause-readable c = λ readable.
    let kept = c.in_ok-copy_without_id.ensures ∙ ap without_id c.as_slice-2.ensures in
    subst (λ fields. IsReadable (Object fields)) (sym kept) (body_readable c.in-Object.fields (subst IsReadable c.in-Object.is readable))
