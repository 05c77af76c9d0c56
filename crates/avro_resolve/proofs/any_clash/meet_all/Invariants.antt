use Rattle.std.proofs.Common.{◌≡◌, ◌*◌, length, true}
use Rattle.std.specs.List.{AllWithin}
use Rattle.avro_resolve.specs.Worklist.{is_met, IsOrderly}
use Rattle.avro_resolve.specs.AnyClash.{HasGrown}
use Rattle.avro_resolve.specs.Numbered.{number_of}
use Rattle.avro_resolve.proofs.any_clash.meet_all.Given as goal

abbrev pub invariant-loop-pair : goal.invariant-loop-pair
invariant-loop-pair l = record {
  grown : HasGrown (length l.r.nodes * length l.w.nodes) l.initial.worklist l.worklist;
  each : AllWithin (λ p. is_met l.worklist (number_of l.w.nodes p) ≡ true) l.owed 0 l.pair-index;
  room : length l.worklist.met.words.items ≡ length l.initial.worklist.met.words.items;
  orderly : IsOrderly l.worklist;
}
