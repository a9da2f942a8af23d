-- Tokens in queues, as sets.
use Rattle.std.specs.Prelude.{◌≡◌, ℕ, ◌↔◌, true, List, [], ◌∷◌}
use Rattle.std.specs.BTreeSet.{BTreeSet, contains}
use Rattle.std.specs.Cmp.Lexicographic.{slice_cmp}
use Rattle.std.specs.Ordering.{nat_cmp, ordering_then}
use Rattle.std.specs.declared.cmp.Ordering.{Ordering}
use Rattle.txn_key.specs.declared.id.Token.{Token}
use Rattle.txn_record.specs.declared.op.Op.{Op}
use Rattle.store_trait.specs.declared.cell.Cell.{Cell}
use Rattle.store_trait.specs.declared.cell.Cell.TheVariants as cell
use Rattle.store_trait.specs.declared.cell.Named.{Named}
use Rattle.store_laws.specs.Readiness.{In}
use Rattle.store_laws.specs.View.{View}

-- a token as the bytes of its id and its nonce
abbrev pub Parts : Type 0
Parts = List ℕ × ℕ

abbrev pub parts_cmp : Parts → Parts → Ordering
parts_cmp a b = ordering_then (slice_cmp nat_cmp a.0 b.0) (nat_cmp a.1 b.1)

-- the set has just the tokens of a queue
abbrev pub IsSetOf : List Token → BTreeSet Parts → Type 0
IsSetOf queue tokens =
    (x : Token) → (contains parts_cmp tokens (x.id.0, x.nonce) ≡ true) ↔ In x queue

-- the queue of a cell
abbrev pub queue_in : Cell → List Token
queue_in (cell.Doc doc) = doc.queue
queue_in (cell.Stash stash) = stash.queue
queue_in _ = []

-- a set for each cell, of the tokens of its queue
abbrev pub AreQueues : List Named → List (BTreeSet Parts) → Type 0
AreQueues [] [] = Unit {0}
AreQueues (x ∷ cells) (tokens ∷ queues) = IsSetOf (queue_in x.cell) tokens × AreQueues cells queues
AreQueues [] (_ ∷ _) = ⊥
AreQueues (_ ∷ _) [] = ⊥

-- a token waits on the key of each operation
abbrev pub AllWait : View → Token → List Op → Type 0
AllWait view x [] = Unit {0}
AllWait view x (op ∷ ops) = In x (view.queue_at op.key) × AllWait view x ops
