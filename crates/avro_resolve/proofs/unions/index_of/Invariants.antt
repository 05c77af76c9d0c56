use Rattle.std.proofs.Common.{take}
use Rattle.avro_resolve.specs.Unions.{IsIndex}
use Rattle.avro_resolve.proofs.unions.index_of.Given as goal

-- the index of the branches so far
abbrev pub invariant-loop-k : goal.invariant-loop-k
invariant-loop-k l = IsIndex l.r.nodes (take l.k l.branches) l.index
