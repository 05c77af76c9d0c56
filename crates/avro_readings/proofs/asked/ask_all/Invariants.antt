use Rattle.std.proofs.Common.{◌≡◌, ℕ, Bool, ◌&&◌, length, map, take}
use Rattle.std.specs.List.{list_all}
use Rattle.avro_readings.specs.Readable.{lists_pass, field_passes}
use Rattle.avro_readings.proofs.asked.ask_all.Given as goal

-- the fields so far are asked for
abbrev pub invariant-loop-field : goal.invariant-loop-field
invariant-loop-field l = record {
  len : length l.asked.items ≡ length l.others;
  asked : (test : ℕ → ℕ → Bool) → lists_pass test 0 (map (λ x. x.items) l.asked.items)
      ≡ (lists_pass test 0 (map (λ x. x.items) l.fn.asked.items) && list_all (field_passes test l.others) (take l.field-index l.fields));
}
