use Rattle.std.proofs.Common.{subst}
use Rattle.reg_messages.specs.Fields.{body_length}
use Rattle.reg_messages.specs.BodyReading.{TakesBody}
use Rattle.reg_messages.specs.Messages.{fields_of}
use Rattle.reg_messages.proofs.Gets.{gets-dropped, gets-short, gets-whole}
use Rattle.reg_messages.proofs.reading.got_of.Goals as goal

pub returns-in-Whole : goal.returns-in-Whole
returns-in-Whole c = λ h old new at length wanted took.
    gets-whole h old new c.args.told c.in-Whole.whole c.args.wants c.got_with.result length wanted
    (subst (λ b. TakesBody old new (body_length (fields_of h)) b) c.in-Whole.is took) (c.got_with.ensures h at)

pub returns-in-Short : goal.returns-in-Short
returns-in-Short c = λ h old new at length wanted took.
    gets-short h old new c.args.told c.args.wants c.got_with-in-Short.result length wanted
    (subst (λ b. TakesBody old new (body_length (fields_of h)) b) c.in-Short.is took) (c.got_with-in-Short.ensures h at)

pub returns-in-Dropped : goal.returns-in-Dropped
returns-in-Dropped c = λ h old new at length wanted took.
    gets-dropped h old new c.args.told c.args.wants length wanted (subst (λ b. TakesBody old new (body_length (fields_of h)) b) c.in-Dropped.is took)
