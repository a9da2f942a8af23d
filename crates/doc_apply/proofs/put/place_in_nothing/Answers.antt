use Rattle.std.proofs.Common.{◌≡◌, true, false, List, Some, sym, ap, ◌∙◌}
use Rattle.doc_value.specs.declared.value.Named.{Named}
use Rattle.doc_value.specs.declared.value.Value.{Value, Object}
use Rattle.doc_apply.specs.Puts.{nothing_put}
use Rattle.doc_apply.proofs.Placing.{all-none, all-some}
use Rattle.doc_apply.proofs.put.place_in_nothing.Goals as goal

pub returns-then-nothing_put : goal.returns-then-nothing_put
returns-then-nothing_put c =
    let nothing : nothing_put c.args.puts.items ≡ true = ap nothing_put (sym c.as_slice.ensures.value) ∙ sym c.nothing_put.ensures ∙ c.if-nothing_put.true in
    sym (all-none c.args.puts.items nothing)

pub returns : goal.returns
returns c =
    let some : nothing_put c.args.puts.items ≡ false = ap nothing_put (sym c.as_slice.ensures.value) ∙ sym c.nothing_put.ensures ∙ c.if-nothing_put.false in
    ap (λ (fields : List (Named Value)). Some (Some (Object fields))) c.in_ok-fields.ensures ∙ sym (all-some c.args.puts.items some)
