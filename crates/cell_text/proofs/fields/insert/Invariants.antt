use Rattle.std.proofs.Common.{◌≡◌, ◌≤◌, ◌-◌, ◌++◌, drop, take, length}
use Rattle.cell_text.specs.Fields.{inserted}
use Rattle.cell_text.proofs.fields.insert.Given as goal

abbrev pub invariant-loop-place : goal.invariant-loop-place
invariant-loop-place l = record {
  within : l.place ≤ length l.fields.items;
  behind : take l.place l.fields.items ++ inserted l.field (drop l.place l.fields.items) ≡ inserted l.field l.fields.items;
}

abbrev pub decreases-loop-place : goal.decreases-loop-place
decreases-loop-place l = length l.fields.items - l.place
