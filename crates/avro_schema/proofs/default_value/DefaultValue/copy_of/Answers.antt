use Rattle.json_tree.specs.View.{view}
use Rattle.avro_schema.proofs.ReadsBack.{plain_reads_back}
use Rattle.avro_schema.proofs.default_value.DefaultValue.copy_of.Goals as goal

pub to_value-requires : goal.to_value-requires
to_value-requires c = record { whole = c.requires.0; reads_back = plain_reads_back (view c.args.json.now) c.requires }
