use Rattle.std.proofs.Common.{◌∙◌}
use Rattle.avro_readings.proofs.MemberLaws.{same_place}
use Rattle.avro_readings.proofs.members.place_named.Goals as goal

pub returns-then-are_fields-clause-place : goal.returns-then-are_fields-clause-place
returns-then-are_fields-clause-place c =
    c.place.ensures ∙ same_place c.args.fields.now c.args.members.now c.args.name.now (c.requires c.if-are_fields.true)
