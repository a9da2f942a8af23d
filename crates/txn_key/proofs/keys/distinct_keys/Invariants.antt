use Rattle.std.proofs.Common.{◌≡◌, true, drop, map}
use Rattle.std.specs.FinMap.{empty}
use Rattle.txn_key.specs.KeySets.{with_keys, set_of}
use Rattle.txn_key.specs.Places.{keys_rise}
use Rattle.txn_key.proofs.keys.distinct_keys.Given as goal

abbrev pub invariant-loop-key : goal.invariant-loop-key
invariant-loop-key l = record {
  so_far : with_keys (map (λ key. key.now) (drop l.key-index l.key-items)) (set_of l.found.items) ≡ with_keys (map (λ key. key.now) l.key-items) empty;
  rise : keys_rise l.found.items ≡ true;
}
