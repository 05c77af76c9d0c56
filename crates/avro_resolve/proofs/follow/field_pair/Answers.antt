use Rattle.avro_resolve.proofs.Hops.{of_no_field}
use Rattle.avro_resolve.proofs.follow.field_pair.Goals as goal

pub returns-in_default : goal.returns-in_default
returns-in_default c = of_no_field c.args.writer.now c.args.reader.now c.args.hop.now c.in_default.not-Field
