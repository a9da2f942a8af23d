use Rattle.std.proofs.Common.{◌≡◌, drop}
use Rattle.doc_update.specs.Effects.{is_among}
use Rattle.doc_apply.proofs.effect.is_among.Given as goal

abbrev pub invariant-loop-other : goal.invariant-loop-other
invariant-loop-other l = is_among l.item (drop l.other-index l.items) ≡ is_among l.item l.items
