use Rattle.std.proofs.Common.{◌<◌, ◌+◌, length, drop, arith, sym, ap, ◌∙◌, subst}
use Rattle.std.specs.List.{AllByRecursion}
use Rattle.txn_key.specs.Documents.{Docs, IsPast}
use Rattle.txn_key.specs.declared.key.Key.{Key}
use Rattle.txn_audit.specs.Bodies.{with_bodies}
use Rattle.txn_audit.proofs.KeptBodies.{next_added, next_past}
use Rattle.txn_audit.proofs.bodies.documents.Goals as goal

pub loop-place-preserved : goal.loop-place-preserved
loop-place-preserved c =
    let loop = c.loop-place in
    let keys = c.args.keys.now in
    let bodies = c.args.bodies.now in
    let i = loop.place in
    let key = c.index-keys-place.result in
    let body = c.index-bodies-place.result in
    let in_keys : i < length keys = omega arith in
    let in_bodies : i < length bodies = omega (arith, c.requires.count) in
    let put = c.in_ok-add_document.ensures in
    let past = next_past loop.docs keys i key body in_keys c.index-keys-place.is loop.invariant.rise loop.invariant.past in
    record {
      adds = ap (λ (docs : Docs). with_bodies docs (drop (i + 1) keys) (drop (i + 1) bodies)) put
          ∙ next_added loop.docs keys bodies i key body in_keys in_bodies c.index-keys-place.is c.index-bodies-place.is ∙ loop.invariant.adds;
      rise = past.0;
      past = subst (λ (docs : Docs). AllByRecursion (λ (q : Key). IsPast q docs) (drop (i + 1) keys)) (sym put) past.1;
    }
