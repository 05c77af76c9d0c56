use Rattle.std.proofs.Common.{◌≡◌, ◌≤◌, ◌+◌, count_by, drop}
use Rattle.reg_pen.specs.Deletes.{is_delete}
use Rattle.reg_pen.proofs.deletes.count_deletes.Given as goal

-- those so far and those that are left are all, and no more are counted than were looked at
abbrev pub invariant-loop-given : goal.invariant-loop-given
invariant-loop-given l = record {
  all : l.count + count_by is_delete (drop l.given-index l.records) ≡ count_by is_delete l.records;
  within : l.count ≤ l.given-index;
}
