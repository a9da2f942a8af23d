-- Small facts on answers that may be missing.
use Rattle.std.proofs.Common.{◌≡◌, Option, Some, None}
use Rattle.doc_value.specs.declared.value.Value.{Value}

-- two answers of one call are one
pub inner : (o : Option (Option Value)) (g h : Option Value) → o ≡ Some g → o ≡ Some h → h ≡ g
inner o g h e k = cc

-- no call answers both nothing and something
pub no_some : {A G : Type 0} (a : A) (o : Option A) → o ≡ None → o ≡ Some a → G
no_some a o none some = cc
