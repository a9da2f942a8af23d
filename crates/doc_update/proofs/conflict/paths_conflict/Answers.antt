use Rattle.std.proofs.Common.{◌≡◌, true, List, [], ◌∷◌, drop, refl, sym, ◌∙◌, arith}
use Rattle.std.proofs.lemmas.List.{at_drop_all}
use Rattle.doc_update.specs.Conflicts.{paths_conflict}
use Rattle.doc_update.proofs.conflict.paths_conflict.Goals as goal

to_none : (parts : List (List _)) → paths_conflict parts [] ≡ true
to_none [] = refl
to_none (part ∷ parts) = refl

pub returns-then-i-others : goal.returns-then-i-others
returns-then-i-others c =
    let ended = at_drop_all (λ rest. paths_conflict (drop c.loop-i.i c.args.parts.now) rest) c.args.others.now c.loop-i.i (omega arith) in
    sym (to_none (drop c.loop-i.i c.args.parts.now)) ∙ sym ended ∙ c.loop-i.invariant.here
