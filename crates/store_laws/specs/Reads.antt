-- Calls that only read.
use Rattle.std.specs.Prelude.{◌≡◌, ◌≤◌, ℕ}
use Rattle.store_trait.specs.declared.store.Store.{Ghosts}

-- the content is the same after each of them
pub record OnlyReads {S : Type 0} (store : Ghosts S) (old new : S) : Type 0 where
  pub same : store.content new ≡ store.content old
  pub still : (n : ℕ) → store.calls old ≤ n → n ≤ store.calls new
      → store.trail new n ≡ store.content old
