use Rattle.std.proofs.Common.{sym, codes}
use Rattle.json_tree.specs.View.{view}
use Rattle.avro_schema.proofs.ObjectForms.{get-plain}
use Rattle.avro_schema.proofs.fields.default_of.Goals as goal

pub copy_of-requires : goal.copy_of-requires
copy_of-requires c = get-plain (codes "default") (view c.args.value.now) (view c.in-Some.member.now) (sym c.in-Some.ensures) c.requires
