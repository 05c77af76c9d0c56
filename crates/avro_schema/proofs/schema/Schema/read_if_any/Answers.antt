use Rattle.std.proofs.Common.{sym, ◌∙◌}
use Rattle.avro_schema.proofs.NoSchema.{schema_of-refused}
use Rattle.avro_schema.proofs.schema.Schema.read_if_any.Goals as goal

pub returns-else-is_memory : goal.returns-else-is_memory
returns-else-is_memory c =
    sym (schema_of-refused c.args.text.now c.in-Err.error c.in-Err.ensures.err (sym c.is_memory.ensures ∙ c.if-is_memory.false))
