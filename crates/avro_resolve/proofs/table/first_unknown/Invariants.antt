use Rattle.std.proofs.Common.{◌≡◌, drop, find, not}
use Rattle.avro_schema.specs.Names.{has_text}
use Rattle.avro_resolve.proofs.table.first_unknown.Given as goal

-- the symbols so far are known
abbrev pub invariant-loop-s : goal.invariant-loop-s
invariant-loop-s l = find (λ s. not (has_text l.reader s)) l.fn.writer ≡ find (λ s. not (has_text l.reader s)) (drop l.s-index l.writer)
