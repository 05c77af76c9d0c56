use Rattle.reg_program.proofs.Sketches.{left, sketched}
use Rattle.reg_program.proofs.sketching.sketch_of.Goals as goal

pub returns-clause-text : goal.returns-clause-text
returns-clause-text g c =
    sketched (g.R.Read.remaining c.args.reader.now.inner) (g.R.Read.remaining c.read_schema.new.reader.inner)
    (g.R.Read.remaining c.read_schema-2.new.reader.inner)
    c.in-Ok.schema c.in-Ok-read_schema.schema c.in_ok-sketch_text.field-0
    c.in-Ok.ensures.schema c.in-Ok-read_schema.ensures.schema c.in_ok-sketch_text.ensures.sketch

pub returns-clause-rest : goal.returns-clause-rest
returns-clause-rest g c =
    left (g.R.Read.remaining c.args.reader.now.inner) (g.R.Read.remaining c.read_schema.new.reader.inner)
    (g.R.Read.remaining c.read_schema-2.new.reader.inner)
    c.in-Ok.schema c.in-Ok-read_schema.schema c.in-Ok.ensures.schema c.in-Ok-read_schema.ensures.schema
