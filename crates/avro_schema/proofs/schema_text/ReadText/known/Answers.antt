use Rattle.std.proofs.Common.{◌≡◌, Some, sym, subst, ◌∙◌}
use Rattle.avro_schema.specs.Reading.{normal_of}
use Rattle.avro_schema.proofs.Readings.{normal_reads_back}
use Rattle.avro_schema.proofs.schema_text.ReadText.known.Goals as goal

pub new-requires : goal.new-requires
new-requires c =
    subst (λ n. normal_of n ≡ Some n) (sym c.normal-normal.ensures.text)
    (normal_reads_back c.normal_texts_read_back.ensures c.self.inside.text c.in-Some.found (c.self.invariant ∙ c.in-Some.is))
