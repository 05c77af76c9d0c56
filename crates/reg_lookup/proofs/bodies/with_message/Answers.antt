use Rattle.std.proofs.Common.{◌++◌, ◌∙◌, ap, string_bytes}
use Rattle.json.specs.Print.{escape}
use Rattle.reg_levels.specs.Message.{text_of}
use Rattle.reg_lookup.proofs.Escaping.{escaped_whole}
use Rattle.reg_lookup.proofs.bodies.with_message.Goals as goal

pub returns-in-Ok : goal.returns-in-Ok
returns-in-Ok c =
    escaped_whole c.of-body.result (text_of c.args.clash) c.write.new.self c.in-Ok.ensures.writes
    ∙ ap (λ s. string_bytes s ++ escape (text_of c.args.clash)) c.of-body.ensures
