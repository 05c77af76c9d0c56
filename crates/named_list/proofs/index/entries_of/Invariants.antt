use Rattle.std.proofs.Common.{◌≡◌, map, take}
use Rattle.std.specs.List.{All}
use Rattle.named_list.specs.Index.{names_of, IsHashed, IsPlaced}
use Rattle.named_list.proofs.index.entries_of.Given as goal

abbrev pub invariant-loop-place : goal.invariant-loop-place
invariant-loop-place g l = record {
  names : names_of l.entries.items ≡ map g.T.Named.name (take l.place l.items);
  placed : All (IsPlaced (map g.T.Named.name l.items)) l.entries.items;
  hashed : All IsHashed l.entries.items;
}
