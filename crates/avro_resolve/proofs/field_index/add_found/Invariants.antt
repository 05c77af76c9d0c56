use Rattle.std.proofs.Common.{◌≡◌, ◌++◌, map, take}
use Rattle.avro_resolve.specs.FieldIndex.{at_place}
use Rattle.avro_resolve.proofs.field_index.add_found.Given as goal

-- those so far were added
abbrev pub invariant-loop-holder : goal.invariant-loop-holder
invariant-loop-holder l = l.found.items ≡ l.initial.found.items ++ map (at_place l.place) (take l.holder-index l.holders)
