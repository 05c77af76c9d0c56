use Rattle.std.proofs.Common.{◌≡◌, ◌∙◌, List, ℕ, Ok, Some, sym, ap}
use Rattle.std.proofs.lemmas.Option.{IfSome_then}
use Rattle.std.proofs.lemmas.Result.{IfOk-weaker}
use Rattle.avro_schema.specs.Schema.{schema_of}
use Rattle.reg_records.specs.TextLine.{after_front, front_text}
use Rattle.reg_records.specs.Device.{bytes_in}
use Rattle.reg_program.specs.Sketch.{SpellsSchema}
use Rattle.reg_program.proofs.spelling.read_schema.Goals as goal

-- the text of the line is the schema's
pub returns-in-Ok-clause-schema : goal.returns-in-Ok-clause-schema
returns-in-Ok-clause-schema g c =
    let after = bytes_in g.R.Read.remaining c.read_text_line.new.reader in IfOk-weaker c.schema_of.result _ _ (λ schema is.
    IfSome_then _ {P = λ (input : List ℕ). (front_text input ≡ Ok c.in-Ok.text) × (after ≡ Some (after_front input))}
    {Q = λ input. SpellsSchema input schema × (after ≡ Some (after_front input))} c.in-Ok.ensures.text
    (λ input read. ((c.in-Ok.text, read.0, ap schema_of (sym c.as_str.ensures) ∙ is), read.1))) c.schema_of.ensures.schema
