use Rattle.std.proofs.Common.{◌≡◌, ap, subst, sym, ◌∙◌}
use Rattle.std.specs.Prelude.{Ok}
use Rattle.reg_messages.specs.Fields.{body_length, told_length}
use Rattle.reg_messages.specs.BodyReading.{LosesBody, TakesBody}
use Rattle.reg_messages.specs.Messages.{fields_of}
use Rattle.reg_messages.proofs.Places.{told-body}
use Rattle.reg_messages.proofs.reading.read_body.Goals as goal

pub returns-in-Ok-take_body-clause-got : goal.returns-in-Ok-take_body-clause-got
returns-in-Ok-take_body-clause-got g c = λ h at.
    let old = g.R.Read.remaining c.args.reader.now.inner in
    let new = g.R.Read.remaining c.take_body.new.reader.inner in
    let fields = c.fields_in.ensures h at in
    let told : told_length (fields_of h) ≡ Ok c.in-Ok.told = ap told_length (sym fields) ∙ sym c.in-Ok.ensures in
    let len : c.unwrap_or.result ≡ body_length (fields_of h) = c.unwrap_or.ensures ∙ told-body (fields_of h) c.in-Ok.told told in
    c.got_of.ensures h old new at told (c.wants_close-wants_close.ensures h at)
    (subst (λ n. TakesBody old new n c.in-Ok-take_body.body) len c.in-Ok-take_body.ensures.taken)

pub returns-in-Err-take_body-clause-short : goal.returns-in-Err-take_body-clause-short
returns-in-Err-take_body-clause-short g c = λ h at.
    let old = g.R.Read.remaining c.args.reader.now.inner in
    let new = g.R.Read.remaining c.take_body.new.reader.inner in
    let fields = c.fields_in.ensures h at in
    let told : told_length (fields_of h) ≡ Ok c.in-Ok.told = ap told_length (sym fields) ∙ sym c.in-Ok.ensures in
    let len : c.unwrap_or.result ≡ body_length (fields_of h) = c.unwrap_or.ensures ∙ told-body (fields_of h) c.in-Ok.told told in
    subst (λ n. LosesBody old new n) len c.in-Err-take_body.ensures.short

pub returns-in-Err-clause-got : goal.returns-in-Err-clause-got
returns-in-Err-clause-got g c = λ h at.
    let fields = c.fields_in.ensures h at in
    ap told_length (sym fields) ∙ sym c.in-Err.ensures
