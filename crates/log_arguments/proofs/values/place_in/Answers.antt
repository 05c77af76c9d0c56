use Rattle.std.proofs.Common.{◌≡◌, ◌+◌, ◌≤◌, arith, subst, subst₂}
use Rattle.std.proofs.NetLemmas.Theorems.{IsSocketText_unique}
use Rattle.std.specs.Net.Socket.{socket_port}
use Rattle.log_arguments.proofs.Spelling.{number_unique}
use Rattle.log_arguments.proofs.values.place_in.Goals.{then-port-lt1-via-then-port-lt1, then-port-lt1-via-else-port-lt1+then-most-port}
use Rattle.log_arguments.proofs.values.place_in.Goals as goal

pub returns-then-port-lt1 : goal.returns-then-port-lt1
returns-then-port-lt1 c = λ place is.
    let same : place.listen ≡ c.in_ok-listen.listen = IsSocketText_unique _ _ _ is.address c.in_ok-listen.ensures in
    let nodes : place.nodes ≡ c.in_ok-nodes.nodes = number_unique _ _ _ _ _ _ is.nodes_given c.in_ok-nodes.ensures.number in
    let first : 1 ≤ socket_port c.in_ok-listen.listen = subst (λ listen. 1 ≤ socket_port listen) same is.first_port in
    let last : socket_port c.in_ok-listen.listen + c.in_ok-nodes.nodes ≤ 65536 =
    subst₂ (λ listen count. socket_port listen + count ≤ 65536) same nodes is.last_port in
    let port = c.port.ensures in
    let from = c.from-port.ensures in
    elim c.then-port-lt1.branch [
      | then-port-lt1-via-then-port-lt1 w ↦ let low = w.if-port-lt1.true in absurd (omega arith)
      | then-port-lt1-via-else-port-lt1+then-most-port w ↦ let high = w.if-most-port.true in absurd (omega arith)
    ]
