use Rattle.avro_schema.proofs.TextLemmas.{other_text}
use Rattle.avro_schema.proofs.word.TypeWord.of.Goals as goal

pub returns-in_default : goal.returns-in_default
returns-in_default c =
    let d = c.in_default in
    simp (
      other_text _ _ d.not-record,
      other_text _ _ d.not-enum,
      other_text _ _ d.not-fixed,
      other_text _ _ d.not-array,
      other_text _ _ d.not-map,
      other_text _ _ d.not-error,
    )
