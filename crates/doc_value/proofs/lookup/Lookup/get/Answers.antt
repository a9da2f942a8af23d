use Rattle.std.proofs.Common.{◌≡◌, ℕ, ◌+◌, ◌<◌, List, length, get_or, drop, Option, Some, option_and_then, sym, ap, ◌∙◌, lit<, arith}
use Rattle.std.specs.Option.{option_copied}
use Rattle.std.proofs.lemmas.Iterator.Consumers.{YieldsList-turn, YieldsList-end}
use Rattle.std.proofs.lemmas.Iterator.Splits.{YieldsList-from_str_split}
use Rattle.std.proofs.lemmas.List.{at_drop_more, at_drop_all, length_push}
use Rattle.doc_value.specs.declared.value.Value.{Value, out-Value}
use Rattle.doc_value.specs.Paths.{field_in, get_at, parts_of}
use Rattle.doc_value.proofs.lookup.Lookup.get.Goals as goal

-- one part more
next_part : (parts : List (List ℕ)) (n : ℕ) (part : List ℕ) (found : Value) (at : Option Value) → (n < length parts) × (part ≡ get_or parts n part) → at ≡ field_in part (out-Value found)
    → get_at (drop n parts) found ≡ option_and_then (get_at (drop (n + 1) parts)) at
next_part parts n part found at h is =
    at_drop_more (λ rest. get_at rest found) parts n part h.0 ∙ ap (λ p. option_and_then (get_at (drop (n + 1) parts)) (field_in p (out-Value found))) (sym h.1) ∙ ap (option_and_then (get_at (drop (n + 1) parts))) (sym is)

pub returns-in_err-found : goal.returns-in_err-found
returns-in_err-found c =
    let parts = parts_of c.args.path.now in
    let n = length c.loop-part.yielded in
    let turn = YieldsList-turn (YieldsList-from_str_split 46 c.args.path.now (lit< tt) (cc) (cc) (cc)) c.loop-part.yielded _ c.loop-part.yielded_by _ _ c.in-Some.part c.in-Some.is c.next.ensures.steps in
    let at = c.field.ensures ∙ ap (λ name. field_in name (out-Value c.loop-part.found)) c.as_bytes.ensures.value in
    let here = next_part parts n c.in-Some.part.now c.loop-part.found c.field.result turn at in
    ap option_copied c.from_residual.ensures ∙ sym (here ∙ ap (option_and_then (get_at (drop (n + 1) parts))) c.in_err-found.was) ∙ c.loop-part.invariant ∙ ap (get_at parts) c.copy-found.ensures

pub loop-part-preserved : goal.loop-part-preserved
loop-part-preserved c =
    let parts = parts_of c.args.path.now in
    let n = length c.loop-part.yielded in
    let turn = YieldsList-turn (YieldsList-from_str_split 46 c.args.path.now (lit< tt) (cc) (cc) (cc)) c.loop-part.yielded _ c.loop-part.yielded_by _ _ c.in-Some.part c.in-Some.is c.next.ensures.steps in
    let at = c.field.ensures ∙ ap (λ name. field_in name (out-Value c.loop-part.found)) c.as_bytes.ensures.value in
    let here = next_part parts n c.in-Some.part.now c.loop-part.found c.field.result turn at in
    ap (λ k. get_at (drop k parts) c.in_ok-found.found) (length_push c.loop-part.yielded c.in-Some.part)
    ∙ sym (here ∙ ap (option_and_then (get_at (drop (n + 1) parts))) c.in_ok-found.was) ∙ c.loop-part.invariant

pub returns : goal.returns
returns c =
    let end = YieldsList-end (YieldsList-from_str_split 46 c.args.path.now (lit< tt) (cc) (cc) (cc)) c.loop-part.yielded _ c.loop-part.yielded_by _ _ c.in-None.is c.next.ensures.steps in
    ap Some c.value.ensures
    ∙ sym (at_drop_all (λ rest. get_at rest c.loop-part.found) (parts_of c.args.path.now) (length c.loop-part.yielded) (omega (arith, end.1))) ∙ c.loop-part.invariant ∙ ap (get_at (parts_of c.args.path.now)) c.copy-found.ensures
