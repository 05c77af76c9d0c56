use Rattle.avro_schema.proofs.TextLemmas.{other_text}
use Rattle.avro_schema.proofs.names.primitive_named.Goals as goal

pub returns-in_default : goal.returns-in_default
returns-in_default c =
    let d = c.in_default in
    simp (
      other_text _ _ d.not-null,
      other_text _ _ d.not-boolean,
      other_text _ _ d.not-int,
      other_text _ _ d.not-long,
      other_text _ _ d.not-float,
      other_text _ _ d.not-double,
      other_text _ _ d.not-bytes,
      other_text _ _ d.not-string,
    )
