use Rattle.std.proofs.Common.{Option, Some, None, IfSome}
use Rattle.doc_value.specs.declared.value.Value.{Value}
use Rattle.doc_update.specs.Updates.{updated}
use Rattle.doc_update.proofs.KeptObjects.{IsBodyLike, kept_updated}
use Rattle.doc_update.proofs.laws.updates_keep_bodies.Goals as goal

-- a part of what holds of a value, if there is one
part : (P : Value → Type 0) → ((value : Value) → IsBodyLike value → P value) → (made : Option Value) → IfSome made IsBodyLike → IfSome made P
part P of None h = tt
part P of (Some value) h = of value h

pub returns : goal.returns
returns c = record {
  object = λ update body h. part _ (λ value all. all.object) (updated update body) (kept_updated update body h);
  nests = λ update body h. part _ (λ value all. all.nests) (updated update body) (kept_updated update body h);
}
