use Rattle.std.proofs.Common.{◌≡◌, ℕ, Bool, length, map, take}
use Rattle.std.specs.List.{list_all}
use Rattle.avro_readings.specs.Readable.{pair_of, lists_pass, type_passes}
use Rattle.avro_readings.proofs.asked.asked_of.Given as goal

-- the types so far have asked for what they read
abbrev pub invariant-loop-reader : goal.invariant-loop-reader
invariant-loop-reader l = record {
  len : length l.asked.items ≡ length l.others;
  asked : (test : ℕ → ℕ → Bool) → lists_pass test 0 (map (λ x. x.items) l.asked.items)
      ≡ list_all (λ i. type_passes l.r.nodes l.w.nodes test l.others (pair_of i l.j)) (take l.reader-index l.readers);
}
