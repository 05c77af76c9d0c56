use Rattle.std.proofs.Common.{ap, subst, sym, ◌∙◌, ◌≡◌}
use Rattle.std.specs.Prelude.{IfOk, Ok}
use Rattle.reg_messages.specs.Fields.{told_length}
use Rattle.reg_messages.specs.Parts.{Parts}
use Rattle.reg_requests.specs.Asked.{asked_of_target}
use Rattle.reg_requests.specs.declared.asked.Asked.{Asked}
use Rattle.reg_requests.proofs.Endpoints.{asked-told}
use Rattle.reg_requests.proofs.asking.route_request.Goals as goal

pub returns-in-Ok : goal.returns-in-Ok
returns-in-Ok c =
    let r = c.args.request.now in
    let told : told_length r.fields ≡ Ok c.in-Ok.told = ap told_length (sym c.as_slice.ensures) ∙ sym c.in-Ok.ensures in
    subst (λ (wanted : Asked). IfOk c.route_told.result (λ asked. asked ≡ wanted))
    (ap (λ (p : Parts). asked_of_target p c.in-Ok.told) c.parts-parts.ensures ∙ sym (asked-told r c.in-Ok.told told)) c.route_told.ensures
