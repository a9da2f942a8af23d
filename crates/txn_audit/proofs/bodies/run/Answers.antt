use Rattle.std.proofs.Common.{◌≡◌, Option, List, get_or, sym, ap, ◌∙◌, subst}
use Rattle.doc_value.specs.declared.value.Value.{Value}
use Rattle.txn_audit.specs.Became.{after}
use Rattle.txn_audit.specs.Bodies.{after_change, kept}
use Rattle.txn_audit.proofs.KeptBodies.{ran_fits, ran}
use Rattle.txn_audit.proofs.bodies.run.Goals as goal

pub returns-clause-fits : goal.returns-clause-fits
returns-clause-fits c =
    let place = c.place_of-place.result in
    let found = c.index-as_slice-place.result in
    let op = c.args.op.now in
    let bs = c.args.bodies.now in
    let at : found ≡ get_or bs place found = c.index-as_slice-place.is ∙ ap (λ (l : List (Option Value)). get_or l place found) c.as_slice.ensures in
    let e = subst (λ (o : Option Value). after c.in_ok-became.became o ≡ after_change op.change o) at c.in_ok-became.ensures in
    c.put.ensures.fits ∙ ran_fits op.key c.args.keys.now bs place c.requires.count c.place_of-place.ensures.stands op.change c.in_ok-became.became found e

pub returns-clause-runs : goal.returns-clause-runs
returns-clause-runs c = λ ok.
    let place = c.place_of-place.result in
    let found = c.index-as_slice-place.result in
    let op = c.args.op.now in
    let bs = c.args.bodies.now in
    let at : found ≡ get_or bs place found = c.index-as_slice-place.is ∙ ap (λ (l : List (Option Value)). get_or l place found) c.as_slice.ensures in
    let e = subst (λ (o : Option Value). after c.in_ok-became.became o ≡ after_change op.change o) at c.in_ok-became.ensures in
    ap (kept c.args.keys.now) c.put.ensures.bodies
    ∙ ran op.key c.args.keys.now bs place c.requires.count c.place_of-place.ensures.stands op.change c.in_ok-became.became found e (sym c.put.ensures.fits ∙ ok)
