use Rattle.std.proofs.Common.{◌≡◌, ℕ, ◌+◌, ◌<◌, Bool, List, length, get_or, drop, Option, Some, None, if◌then◌else◌, sym, ap, ap₂, ◌∙◌, lit<, arith}
use Rattle.std.proofs.lemmas.Iterator.Consumers.{YieldsList-turn, YieldsList-end}
use Rattle.std.proofs.lemmas.Iterator.Splits.{YieldsList-from_str_split}
use Rattle.std.proofs.lemmas.List.{at_drop_more, at_drop_all, length_push}
use Rattle.doc_value.specs.Paths.{parts_of}
use Rattle.doc_value.specs.declared.value.Value.{Value}
use Rattle.doc_apply.specs.Fit.{located}
use Rattle.doc_update.specs.Places.{is_open, part_of}
use Rattle.doc_apply.proofs.fitting.locate.Goals as goal

-- one part more
next_part : (parts : List (List ℕ)) (n : ℕ) (part : List ℕ) (found : Option Value) → (n < length parts) × (part ≡ get_or parts n part)
    → located (drop n parts) found ≡ if is_open found then located (drop (n + 1) parts) (part_of part found) else None
next_part parts n part found h =
    at_drop_more (λ rest. located rest found) parts n part h.0
    ∙ ap (λ (p : List ℕ). if is_open found then located (drop (n + 1) parts) (part_of p found) else None) (sym (h.1))

pub returns-then-not-is_open : goal.returns-then-not-is_open
returns-then-not-is_open c =
    let parts = parts_of c.args.path.now in
    let n = length c.loop-part.yielded in
    let found = c.loop-part.found in
    let turn = YieldsList-turn (YieldsList-from_str_split 46 c.args.path.now (lit< tt) (cc) (cc) (cc)) c.loop-part.yielded _ c.loop-part.yielded_by _ _ c.in-Some.part c.in-Some.is c.next.ensures.steps in
    let shut = ap is_open (sym c.as_ref.ensures.value) ∙ sym c.is_open.ensures ∙ c.if-not-is_open.true in
    sym (next_part parts n c.in-Some.part.now found turn ∙ ap (λ (b : Bool). if b then located (drop (n + 1) parts) (part_of c.in-Some.part.now found) else None) shut) ∙ c.loop-part.invariant

pub loop-part-preserved : goal.loop-part-preserved
loop-part-preserved c =
    let parts = parts_of c.args.path.now in
    let n = length c.loop-part.yielded in
    let found = c.loop-part.found in
    let turn = YieldsList-turn (YieldsList-from_str_split 46 c.args.path.now (lit< tt) (cc) (cc) (cc)) c.loop-part.yielded _ c.loop-part.yielded_by _ _ c.in-Some.part c.in-Some.is c.next.ensures.steps in
    let opened = ap is_open (sym c.as_ref.ensures.value) ∙ sym c.is_open.ensures ∙ c.if-not-is_open.false in
    ap₂ (λ (k : ℕ) (f : Option Value). located (drop k parts) f) (length_push c.loop-part.yielded c.in-Some.part) (c.part_of-found.ensures ∙ ap₂ part_of c.as_bytes.ensures.value c.as_ref-in-loop-part.ensures.value)
    ∙ sym (next_part parts n c.in-Some.part.now found turn ∙ ap (λ (b : Bool). if b then located (drop (n + 1) parts) (part_of c.in-Some.part.now found) else None) opened) ∙ c.loop-part.invariant

pub returns : goal.returns
returns c =
    let end = YieldsList-end (YieldsList-from_str_split 46 c.args.path.now (lit< tt) (cc) (cc) (cc)) c.loop-part.yielded _ c.loop-part.yielded_by _ _ c.in-None.is c.next.ensures.steps in
    ap Some (c.value_of.ensures ∙ c.as_ref-2.ensures.value)
    ∙ sym (at_drop_all (λ rest. located rest c.loop-part.found) (parts_of c.args.path.now) (length c.loop-part.yielded) (omega (arith, end.1))) ∙ c.loop-part.invariant
