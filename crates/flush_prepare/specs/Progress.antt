-- How many steps a preparation makes.
use Rattle.std.specs.Prelude.{◌≡◌, ◌<◌, ◌≤◌, ◌+◌, ◌*◌, ℕ, Bool, true, false, Some, ◌⊎◌, length}
use Rattle.flush_prepare.specs.declared.prepare.Place.{Place}
use Rattle.flush_prepare.specs.declared.prepare.Place.TheVariants.{Draw, Document, Entry, AddToDocument, AddToEntry, EntryAgain, Move}
use Rattle.flush_prepare.specs.declared.prepare.Prepare.{Prepare}
use Rattle.flush_prepare.specs.declared.prepare.PrepareStep.{PrepareStep}
use Rattle.flush_prepare.specs.declared.prepare.PrepareStep.TheVariants.{More, Blocked, Ready}
use Rattle.flush_prepare.specs.Preparations.{begun}
use Rattle.flush_prepare.specs.PrepareFacts.{nonce_of}

-- how many steps are left at most, the last one counted, as long as no key is begun again
abbrev pub due_at : ℕ → Place → ℕ
due_at later Draw = 4 * later + 6
due_at later (Document nonce) = 4 * later + 5
due_at later (Entry nonce doc) = 4 * later + 4
due_at later (AddToDocument nonce) = 4 * later + 3
due_at later (AddToEntry nonce) = 4 * later + 3
due_at later (EntryAgain nonce revno) = 4 * later + 2
due_at later (Move nonce) = 1

abbrev pub due : Prepare → ℕ
due prepare = due_at (length prepare.later) prepare.place

-- after a missed addition, a mark, or the second read of a stash entry
abbrev pub may_begin_again : Place → Bool
may_begin_again (Entry nonce doc) = true
may_begin_again (AddToDocument nonce) = true
may_begin_again (AddToEntry nonce) = true
may_begin_again (EntryAgain nonce revno) = true
may_begin_again _ = false

-- the present key is begun again, with the nonce that was drawn
pub record BeginsAgain (old new : Prepare) : Type 0 where
  pub nonce : ℕ
  pub own : nonce_of old ≡ Some nonce
  pub may : may_begin_again old.place ≡ true
  pub begins : new ≡ begun old nonce
  pub more : due new ≤ due old + 3

abbrev pub ComesNearer : Prepare → PrepareStep → Prepare → Type 0
ComesNearer old More new = (due new < due old) ⊎ BeginsAgain old new
ComesNearer old (Blocked id) new = BeginsAgain old new
ComesNearer old (Ready rec) new = new ≡ old
