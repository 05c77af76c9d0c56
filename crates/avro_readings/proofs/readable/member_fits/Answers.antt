use Rattle.avro_data.specs.View.{view, members_view}
use Rattle.avro_readings.proofs.ReadableLaws.{fit_place, value_of}
use Rattle.avro_readings.proofs.readable.member_fits.Goals as goal

pub returns : goal.returns
returns c =
    fit_place c.args.w.now.nodes c.args.w.now.nodes c.args.others.now
    (members_view c.args.members.now.items) c.args.k c.args.field.now (view c.args.member.now.1)
    c.requires.fit c.requires.field (value_of c.args.members.now.items c.args.k c.args.member.now c.requires.member)
