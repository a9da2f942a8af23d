use Rattle.std.proofs.Common.{◌≡◌, ◌≤◌, ◌++◌, ◌+◌, ℕ, List, None, length, take, IsTrue}
use Rattle.txn_io.specs.Lines.{line_of, after_line, line_cost, limit_passed}
use Rattle.txn_io.specs.Unread.{Unread}
use Rattle.txn_io.specs.declared.sink.Sink as sink
use Rattle.txn_io.specs.declared.source.Source as source

-- the first bytes of the piece were put
pub record IsPouring {K : Type 0} (out : sink.Ghosts K) (old now : K) (piece : List ℕ) (done : ℕ)
    : Type 0 where
  pub within : done ≤ length piece
  pub put : IsTrue out.tells → out.written now ≡ out.written old ++ take done piece
  pub same : out.faults now ≡ out.faults old

-- the bytes of the line so far and those left are the whole input
pub record IsSoFar (input begun left : List ℕ) : Type 0 where
  pub whole : input ≡ begun ++ left
  pub line : line_of input ≡ begun ++ line_of left
  pub after : after_line input ≡ after_line left
  pub cost : line_cost input ≡ length begun + line_cost left

-- part of a line was gathered
pub record IsGathering {S : Type 0} (from : source.Ghosts S) (old now : S) (script left : Unread) (line : List ℕ)
    : Type 0 where
  pub so_far : IsTrue from.tells → IsSoFar script.left line left.left
  pub taken_is : left.taken ≡ script.taken
  pub within : limit_passed left.taken (length line) (length line) ≡ None
  pub same : from.faults now ≡ from.faults old
