use Rattle.std.proofs.Common.{◌≡◌, ◌≤◌, ◌-◌, length, drop, map, true, option_and_then}
use Rattle.std.specs.Option.{option_copied}
use Rattle.doc_update.specs.Conflicts.{are_apart}
use Rattle.doc_apply.specs.Groups.{heads_rise, change_below}
use Rattle.doc_apply.specs.Puts.{placed_all}
use Rattle.doc_update.specs.Updates.{after_changes}
use Rattle.doc_apply.proofs.Grouping.{puts_before, longest}
use Rattle.doc_apply.proofs.together.+after_all.Given as goal

abbrev pub decreases-after_all : goal.decreases-after_all
decreases-after_all l = longest l.changes.now - l.depth

abbrev pub invariant-loop-start : goal.invariant-loop-start
invariant-loop-start l = record {
  all : option_and_then (after_changes (map (change_below l.depth) (drop l.start l.changes))) (placed_all l.puts.items (option_copied l.found)) ≡ after_changes (map (change_below l.depth) l.changes) (option_copied l.found);
  apart : are_apart (map (change_below l.depth) (drop l.start l.changes)) ≡ true;
  rise : heads_rise (map (change_below l.depth) (drop l.start l.changes)) ≡ true;
  before : puts_before l.puts.items (map (change_below l.depth) (drop l.start l.changes)) ≡ true;
  within : l.start ≤ length l.changes;
}

abbrev pub decreases-loop-start : goal.decreases-loop-start
decreases-loop-start l = length l.changes - l.start
