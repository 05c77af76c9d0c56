use Rattle.std.proofs.Common.{ap, sym, subst, ◌≡◌, ◌∙◌}
use Rattle.std.specs.Prelude.{IfOk}
use Rattle.reg_requests.specs.declared.asked.Asked.{Asked}
use Rattle.reg_routes.specs.declared.endpoint.Endpoint.{Endpoint}
use Rattle.reg_requests.proofs.Endpoints.{asked-at_route}
use Rattle.reg_requests.proofs.asking.route_told.Goals as goal

pub asked_of_route-requires : goal.asked_of_route-requires
asked_of_route-requires c =
    let r = c.args.request.now in
    ap (λ (e : Endpoint). e.action) c.requires
    ∙ (asked-at_route r c.args.told c.in-Some.route (sym (ap (λ (e : Endpoint). e.route) c.requires) ∙ c.in-Some.is)).1

pub returns-in-Some : goal.returns-in-Some
returns-in-Some c =
    let r = c.args.request.now in
    subst (λ (wanted : Asked). IfOk c.asked_of_route.result (λ asked. asked ≡ wanted))
    (sym (asked-at_route r c.args.told c.in-Some.route (sym (ap (λ (e : Endpoint). e.route) c.requires) ∙ c.in-Some.is)).0)
    c.asked_of_route.ensures
