use Rattle.std.proofs.Common.{Some, None, Option, ◌≡◌, List, ℕ, Bool, false, IsTrue}
use Rattle.store_laws.specs.View.{View, valid_nonce}
use Rattle.txn_key.specs.declared.id.Token.{Token}
use Rattle.txn_key.specs.declared.id.TxnId.{TxnId}
use Rattle.listed_cells.specs.Orders.{IsVertexAt, IsPlace}
use Rattle.std.specs.List.{Contains}
use Rattle.listed_cells.proofs.Lookups.{there_from_valid}
use Rattle.listed_cells.proofs.walks.vertex_of.Goals as goal

by_place : (view : View) (ids : List TxnId) (x : Token) → valid_nonce view x.id ≡ Some x.nonce → Contains ids x.id → (r : Option ℕ) → IsPlace ids x.id r → IsVertexAt view ids x r
by_place view ids x valid there None place = absurd (place there)
by_place view ids x valid there (Some v) place = record { valid = valid; within = place.0; is = place.1 }

pub returns-then-is_valid : goal.returns-then-is_valid
returns-then-is_valid c = let valid = c.is_valid.ensures.0 c.if-is_valid.true in
    by_place _ _ _ valid (there_from_valid _ _ _ _ c.requires.roster valid) _ c.place_of.ensures

pub returns-else-is_valid : goal.returns-else-is_valid
returns-else-is_valid c = λ valid. differ _ c.if-is_valid.false (c.is_valid.ensures.1 valid)
  where
    differ : (b : Bool) → b ≡ false → IsTrue b → ⊥
    differ b e h = cc
