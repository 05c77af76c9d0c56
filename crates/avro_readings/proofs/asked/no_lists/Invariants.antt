use Rattle.std.proofs.Common.{◌≡◌, [], length, map, replicate}
use Rattle.avro_readings.proofs.asked.no_lists.Given as goal

-- so many empty lists were made
abbrev pub invariant-loop-made : goal.invariant-loop-made
invariant-loop-made l = record { lists : map (λ x. x.items) l.lists.items ≡ replicate l._made []; len : length l.lists.items ≡ l._made }
