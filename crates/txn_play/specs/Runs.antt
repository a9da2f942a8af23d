-- The Runs of a call, one after another.
use Rattle.std.specs.Prelude.{◌≡◌, ◌+◌, true, ℕ, List, [], ◌∷◌}
use Rattle.txn_record.specs.Orders.{after, legal}
use Rattle.store_trait.specs.Contents.{Content}
use Rattle.store_laws.specs.Decisions.{decisions}
use Rattle.store_laws.specs.History.{IsFaithful}
use Rattle.txn_runner.specs.Running.{HasRun}
use Rattle.txn_play.specs.declared.run.Run.{Run}

-- a Run lasts up to the mark of the next one, or up to the last call
abbrev pub end_of : List Run → ℕ → ℕ
end_of [] last = last
end_of (next ∷ runs) last = next.mark

-- the next Run begins with the documents that this one ended with
abbrev pub LeadsOn : Run → List Run → Type 0
LeadsOn run [] = Unit {0}
LeadsOn run (next ∷ runs) = next.base ≡ after run.base run.order

-- each Run has a property up to its end, and the bases chain
abbrev pub EachRun : (Run → ℕ → Type 0) → List Run → ℕ → Type 0
EachRun P [] last = Unit {0}
EachRun P (run ∷ runs) last = P run (end_of runs last) × LeadsOn run runs × EachRun P runs last

-- From its mark to its end the trail is faithful to the Run: every place is sound and means the base
-- after the decisions so far, one whole transaction after another; and the order is legal: each applied
-- transaction's tests held at its place, each aborted one's failed.
pub record IsFaithfulRun (trail : ℕ → Content) (run : Run) (end : ℕ) : Type 0 where
  pub made : ℕ
  pub counted : end ≡ run.mark + made
  pub order_is : run.order ≡ decisions trail run.mark made
  pub faithful : IsFaithful trail run.mark made run.base
  pub legal : legal run.base run.order ≡ true

abbrev pub AreFaithful : (ℕ → Content) → List Run → ℕ → Type 0
AreFaithful trail runs last = EachRun (IsFaithfulRun trail) runs last

-- the same of Runs while calls are made: each has come to its end so far
abbrev pub RunsGoOn : (ℕ → Content) → List Run → ℕ → Type 0
RunsGoOn trail runs last = EachRun (λ run end. HasRun trail run.mark end run.base run.order) runs last
