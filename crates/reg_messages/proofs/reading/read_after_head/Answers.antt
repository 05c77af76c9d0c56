use Rattle.reg_messages.proofs.Gets.{IfOk-map, OnErr-map, gets-after, short-body}
use Rattle.reg_messages.proofs.Places.{has-texts}
use Rattle.reg_messages.proofs.reading.read_after_head.Goals as goal

pub read_body-requires-clause-texts : goal.read_body-requires-clause-texts
read_body-requires-clause-texts g c =
    let (h, is, at) = c.in-Some.ensures.head in has-texts c.args.bytes.now _ c.in-Some.spans h at

pub returns-in-Some-clause-got : goal.returns-in-Some-clause-got
returns-in-Some-clause-got g c = λ start taken took known.
    let (h, is, at) = c.in-Some.ensures.head in
    IfOk-map c.read_body.result
    (λ got gets.
    gets-after start (g.R.Read.remaining c.args.reader.now.inner)
    (g.R.Read.remaining c.read_body.new.reader.inner) taken c.args.bytes.now h got took known is gets)
    (c.read_body.ensures.got h at)

pub returns-in-Some-clause-short : goal.returns-in-Some-clause-short
returns-in-Some-clause-short g c = λ start taken took known.
    let (h, is, at) = c.in-Some.ensures.head in
    OnErr-map c.read_body.result
    (λ lost.
    short-body start (g.R.Read.remaining c.args.reader.now.inner)
    (g.R.Read.remaining c.read_body.new.reader.inner) taken c.args.bytes.now h took known is lost)
    (c.read_body.ensures.short h at)
