use Rattle.std.proofs.Common.{◌≡◌, ◌<◌, ◌≤◌, length, get_or, nat_cmp, Less}
use Rattle.std.specs.Cmp.Lexicographic.{slice_cmp}
use Rattle.json_tree.specs.View.{Entry}
use Rattle.json_tree.proofs.members.place_of.Given as goal

abbrev pub invariant-loop-place : goal.invariant-loop-place
invariant-loop-place l = record {
  within : l.place ≤ length l.members;
  after : (d : Entry) → l.place < length l.members → slice_cmp nat_cmp l.name (get_or l.members l.place d).0.now ≡ Less;
}

abbrev pub decreases-loop-place : goal.decreases-loop-place
decreases-loop-place l = l.place
