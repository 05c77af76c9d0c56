use Rattle.std.proofs.Common.{map, bytes_eq}
use Rattle.avro_schema.specs.Names.{all_distinct}
use Rattle.avro_schema.proofs.ListedOnce.{listed_once}
use Rattle.avro_schema.proofs.fields.distinct_fields.Goals as goal

pub returns : goal.returns
returns c = listed_once (all_distinct bytes_eq (map (λ f. f.name) c.args.fields.items)) c.args.fields.items c.of.result c.of.ensures
