-- The Runs with which calls are made that only read.
use Rattle.std.proofs.Common.{ℕ, Bool, List, IsTrue}
use Rattle.store_trait.specs.Stores.{CallsGoOn}
use Rattle.store_trait.specs.Contents.{Content}
use Rattle.store_laws.specs.Soundness.{IsSound}
use Rattle.store_laws.specs.Reads.{OnlyReads}
use Rattle.txn_play.specs.Runs.{RunsGoOn}
use Rattle.txn_play.specs.declared.run.Run.{Run}
use Rattle.txn_play.proofs.Runs.{runs_same, runs_read}
use Rattle.store_trait.specs.declared.store.Store.{Ghosts}

module _ {S : Type 0} (store : Ghosts S) where
  pub runs_only_read : (old new : S) (runs : List Run) → OnlyReads store old new → CallsGoOn store old new → IsTrue store.tells → IsSound (store.content old)
      → RunsGoOn (store.trail old) runs (store.calls old) → RunsGoOn (store.trail new) runs (store.calls new)
  runs_only_read old new runs reads on told sound h =
      runs_read (store.trail new) runs (store.calls old) (store.calls new) (store.content old) on.counted sound reads.still (runs_same (store.trail old) (store.trail new) runs (store.calls old) (on.trail told).before h)
