use Rattle.avro_resolve.proofs.FieldIndexes.{field_indexes_more}
use Rattle.avro_resolve.proofs.field_index.FieldIndexes.look_at.Goals as goal

pub returns-in_ok-insert-2 : goal.returns-in_ok-insert-2
returns-in_ok-insert-2 c =
    field_indexes_more c.args.«_r».now.nodes c.args.self.now.of c.insert-then-not-contains_key.new.self c.args.id.index c.in_ok-field_index.field_index
    c.args.fields.now c.requires.made c.in_ok-field_index.ensures c.requires.fields c.in_ok-insert-2.ensures.updates.0
