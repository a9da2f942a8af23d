use Rattle.std.proofs.Common.{◌≡◌, Bool, true, false, List, Some, None, if◌then◌else◌, sym, ap, ◌∙◌}
use Rattle.doc_value.specs.declared.value.Named.{Named}
use Rattle.doc_value.specs.declared.value.Value.{Value, Object}
use Rattle.doc_update.specs.Changes.{fields_of}
use Rattle.doc_apply.specs.Puts.{placed_all, with_fields, nothing_put}
use Rattle.doc_update.proofs.PlacedLaws.{object-is}
use Rattle.doc_apply.proofs.Placing.{all-Object, all-closed}
use Rattle.doc_apply.proofs.put.place_in.Goals as goal

pub returns-then-is_object : goal.returns-then-is_object
returns-then-is_object c =
    let whole = object-is c.args.value.now (sym c.is_object.ensures ∙ c.if-is_object.true) in
    ap (λ (fields : List (Named Value)). Some (Some (Object fields))) (c.in_ok-fields.ensures ∙ ap (with_fields c.args.puts.items) c.fields_of.ensures)
    ∙ sym (ap (λ (v : Value). placed_all c.args.puts.items (Some v)) whole ∙ all-Object c.args.puts.items (fields_of c.args.value.now))

pub returns-then-nothing_put : goal.returns-then-nothing_put
returns-then-nothing_put c =
    let nothing : nothing_put c.args.puts.items ≡ true = ap nothing_put (sym c.as_slice.ensures.value) ∙ sym c.nothing_put.ensures ∙ c.if-nothing_put.true in
    ap (λ (v : Value). Some (Some v)) c.in_ok-copy.ensures
    ∙ sym (all-closed c.args.puts.items c.args.value.now (sym c.is_object.ensures ∙ c.if-is_object.false) ∙ ap (λ (b : Bool). if b then Some (Some c.args.value.now) else None) nothing)

pub returns : goal.returns
returns c =
    let some : nothing_put c.args.puts.items ≡ false = ap nothing_put (sym c.as_slice.ensures.value) ∙ sym c.nothing_put.ensures ∙ c.if-nothing_put.false in
    sym (all-closed c.args.puts.items c.args.value.now (sym c.is_object.ensures ∙ c.if-is_object.false) ∙ ap (λ (b : Bool). if b then Some (Some c.args.value.now) else None) some)
