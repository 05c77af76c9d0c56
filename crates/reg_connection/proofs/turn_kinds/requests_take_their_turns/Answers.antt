use Rattle.std.proofs.Common.{sym, subst}
use Rattle.reg_requests.specs.Asked.{asked_of}
use Rattle.reg_http.specs.Requests.{request_of}
use Rattle.reg_connection.specs.TurnKinds.{TakesTurn}
use Rattle.reg_connection.proofs.FirstLines.{kind-in_head}
use Rattle.reg_connection.proofs.Takes.{takes-asked}
use Rattle.reg_connection.proofs.turn_kinds.requests_take_their_turns.Goals as goal

pub returns : goal.returns
returns c text bytes after h front is_head =
    subst (λ kind. TakesTurn (asked_of (request_of h after)) kind) (sym (kind-in_head text bytes after h front is_head))
    (takes-asked (request_of h after))
