use Rattle.std.proofs.Common.{◌≡◌, ◌++◌, drop, option_map}
use Rattle.avro_readings.specs.Readable as spec
use Rattle.avro_readings.proofs.readable.inner_types.Given as goal

-- the types so far stand before those that are left
abbrev pub invariant-loop-reader : goal.invariant-loop-reader
invariant-loop-reader l =
    spec.inner_types l.r.nodes l.w.nodes l.j l.readers
    ≡ option_map (λ ts. l.types.items ++ ts) (spec.inner_types l.r.nodes l.w.nodes l.j (drop l.reader-index l.readers))
