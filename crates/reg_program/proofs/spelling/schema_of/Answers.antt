use Rattle.std.proofs.Common.{sym, ap, ◌∙◌}
use Rattle.std.proofs.lemmas.Bool.{false≢true}
use Rattle.avro_schema.specs.Schema.{is_memory}
use Rattle.reg_program.proofs.spelling.schema_of.Goals as goal

pub returns-else-is_memory-clause-refused : goal.returns-else-is_memory-clause-refused
returns-else-is_memory-clause-refused c =
    c.in-Err.ensures.err (λ e. false≢true (sym c.if-is_memory.false ∙ c.is_memory.ensures ∙ ap is_memory e))
