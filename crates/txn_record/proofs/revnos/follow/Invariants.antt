use Rattle.std.proofs.Common.{◌≡◌, ◌≤◌, ◌+◌, ◌++◌, drop, length, unsigned_abs}
use Rattle.std.specs.List.{All}
use Rattle.txn_record.specs.Chain.{numbers_at, found_by, numbers_after}
use Rattle.txn_record.proofs.revnos.follow.Given as goal

abbrev pub invariant-loop-op : goal.invariant-loop-op
invariant-loop-op l = record {
  found : l.found ++ found_by (drop l.op-index l.ops) (numbers_at l.keys l.last) ≡ found_by l.ops (numbers_at l.keys l.first);
  last : numbers_after (drop l.op-index l.ops) (numbers_at l.keys l.last) ≡ numbers_after l.ops (numbers_at l.keys l.first);
  count : length l.last ≡ length l.keys;
  room : All (λ n. unsigned_abs n ≤ 4611686018427386903 + l.op-index) l.last;
}
