-- What a body becomes, and where it is put.
use Rattle.std.specs.Prelude.{ℕ, Bool, true, false, Option, Some, None, List, slice_set}
use Rattle.doc_value.specs.declared.value.Value.{Value}
use Rattle.txn_audit.specs.declared.bodies.Became.{Became}
use Rattle.txn_audit.specs.declared.bodies.Became.TheVariants as became

-- the body afterwards, and nothing where the change doesn't fit
abbrev pub after : Became → Option Value → Option (Option Value)
after became.Unfit found = None
after became.Same found = Some found
after (became.Body body) found = Some body

abbrev pub fits : Became → Bool
fits became.Unfit = false
fits _ = true

abbrev pub put_at : List (Option Value) → ℕ → Became → List (Option Value)
put_at bodies place (became.Body body) = slice_set bodies place body
put_at bodies place _ = bodies
