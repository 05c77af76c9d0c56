use Rattle.std.proofs.Common.{sym, ap, ◌∙◌}
use Rattle.serde_json.specs.View.{view}
use Rattle.reg_requests.specs.Body.{map_ok, registration_in}
use Rattle.reg_requests.specs.declared.asked.Asked.TheVariants as asked
use Rattle.reg_requests.proofs.action.Given.register.Goals as goal

pub returns-in-Ok : goal.returns-in-Ok
returns-in-Ok c =
    ap (map_ok (λ command. asked.Command command))
    (sym c.in-Ok.is ∙ c.in_ok-command.ensures ∙ ap (λ subject. registration_in subject (view c.args.self.now.object.now)) c.subject.ensures)

pub returns-in-Err : goal.returns-in-Err
returns-in-Err c =
    ap (map_ok (λ command. asked.Command command))
    (sym c.in-Err.is
    ∙ c.in_ok-command.ensures
    ∙ ap (λ subject. registration_in subject (view c.args.self.now.object.now)) c.subject.ensures)
