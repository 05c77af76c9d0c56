use Rattle.std.proofs.Common.{◌≡◌, drop}
use Rattle.avro_resolve.specs.Search.{AgreesWith, expanded}
use Rattle.avro_resolve.proofs.search.Search.reach_all.Given as goal

-- what is left to add to the entries so far gives all
abbrev pub invariant-loop-number : goal.invariant-loop-number
invariant-loop-number l = AgreesWith l.self.seen l.self.entries.items
    × (expanded l.place l.number (drop l.number l.owed) l.self.entries.items ≡ expanded l.place 0 l.owed l.initial.self.entries.items)
