use Rattle.reg_messages.proofs.BodiesTaken.{LosesBody-after, TakesAll-after}
use Rattle.reg_messages.proofs.body_reading.drop_body.Goals as goal

pub returns-in-Ok-clause-taken : goal.returns-in-Ok-clause-taken
returns-in-Ok-clause-taken g c = λ start taken len took sum.
    (c.in-Ok.field-0, TakesAll-after start _ _ taken c.args.left len c.in-Ok.field-0 sum took c.in-Ok.ensures.taken)

pub returns-in-Err-clause-short : goal.returns-in-Err-clause-short
returns-in-Err-clause-short g c =
    λ start taken len took sum. LosesBody-after start _ _ taken c.args.left len sum took c.in-Err.ensures.short
