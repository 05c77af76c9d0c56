use Rattle.std.proofs.Common.{ap, take, ◌∙◌}
use Rattle.reg_messages.specs.Places.{fields_at}
use Rattle.reg_messages.proofs.Places.{fields-at}
use Rattle.reg_messages.proofs.reading.fields_in.Goals as goal

pub returns : goal.returns
returns c = λ h at.
    ap (λ b. fields_at b c.of.result.spans.now) c.of.ensures.bytes ∙ ap (fields_at c.args.bytes.now) c.of.ensures.spans
    ∙ fields-at c.args.bytes.now (take c.args.head.now.spans.headers c.args.head.now.fields.now) h.fields at.fields
