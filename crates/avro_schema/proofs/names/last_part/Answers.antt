use Rattle.std.proofs.Common.{sym}
use Rattle.avro_schema.proofs.TextLemmas.{unsplit, split_last}
use Rattle.avro_schema.proofs.names.last_part.Goals as goal

pub returns-in-Some : goal.returns-in-Some
returns-in-Some c =
    let s = c.in-Some.ensures.cases in
    sym (split_last c.args.text.now _ _ s.0 s.1 s.2 s.3 s.4 s.5 s.6 s.7).0

pub returns-in-None : goal.returns-in-None
returns-in-None c = sym (unsplit c.args.text.now c.in-None.ensures.cases).0
