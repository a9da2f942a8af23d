use Rattle.std.proofs.Common.{◌≡◌, ◌+◌, ◌-◌, ◌/◌, true, get_or, take, drop, sym, ap, ◌∙◌, arith, add-one}
use Rattle.std.specs.Ordering.{is_lt, is_gt}
use Rattle.std.proofs.lemmas.List.{get_or_default}
use Rattle.doc_value.specs.declared.value.Named.{Named}
use Rattle.doc_value.specs.declared.value.Value.{Value}
use Rattle.doc_value.proofs.OrderedNames.{names_pass}
use Rattle.doc_value.proofs.NameOrder.{before, past, compared, equal-order}
use Rattle.doc_value.proofs.OrderedNames.{all_below, all_above, not_found, found_at}
use Rattle.doc_value.proofs.lookup.find.Goals as goal

pub loop-low-preserved-in-Less : goal.loop-low-preserved-in-Less
loop-low-preserved-in-Less c =
    let fields = c.args.fields.now in
    let name = c.args.name.now in
    let middle = c.loop-low.low + (c.loop-low.high - c.loop-low.low) / 2 in
    let own = c.index-fields-middle.result in
    let less : before (get_or fields middle own).name name ≡ true = ap is_lt (ap (λ n. compared n name) (sym c.as_bytes.ensures.value) ∙ sym c.cmp.ensures ∙ c.in-Less.is) in
    record {
      low = ap (λ n. names_pass (λ m. before m name) (take n fields)) (add-one middle) ∙ all_below name fields middle own c.requires (omega arith) less;
      high = c.loop-low.invariant.high;
      order = omega arith;
      within = omega arith;
    }

pub returns-in-Equal : goal.returns-in-Equal
returns-in-Equal c =
    let fields = c.args.fields.now in
    let name = c.args.name.now in
    let middle = c.loop-low.low + (c.loop-low.high - c.loop-low.low) / 2 in
    let own = c.index-fields-middle.result in
    let own2 = c.index-fields-middle-in-Equal.result in
    let is : (get_or fields middle own).name ≡ name = equal-order (get_or fields middle own).name name (ap (λ n. compared n name) (sym c.as_bytes.ensures.value) ∙ sym c.cmp.ensures ∙ c.in-Equal.is) in
    let swapped = get_or_default fields middle own2 own (omega arith) in
    sym (found_at name fields middle own2 c.requires (omega arith) (ap (λ (f : Named Value). f.name) swapped ∙ is))

pub loop-low-preserved : goal.loop-low-preserved
loop-low-preserved c =
    let fields = c.args.fields.now in
    let name = c.args.name.now in
    let middle = c.loop-low.low + (c.loop-low.high - c.loop-low.low) / 2 in
    let own = c.index-fields-middle.result in
    let more : past (get_or fields middle own).name name ≡ true = ap is_gt (ap (λ n. compared n name) (sym c.as_bytes.ensures.value) ∙ sym c.cmp.ensures ∙ c.in-Greater.is) in
    record {
      low = c.loop-low.invariant.low;
      high = all_above name fields middle own c.requires (omega arith) more;
      order = omega arith;
      within = omega arith;
    }

pub returns : goal.returns
returns c =
    let same : c.loop-low.high ≡ c.loop-low.low = omega arith in
    sym (not_found c.args.name.now c.args.fields.now c.loop-low.low c.loop-low.invariant.low (ap (λ n. names_pass (λ m. past m c.args.name.now) (drop n c.args.fields.now)) (sym same) ∙ c.loop-low.invariant.high))
