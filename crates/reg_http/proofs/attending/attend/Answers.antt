use Rattle.std.proofs.Common.{refl, subst, sym, true}
use Rattle.reg_messages.specs.Reading.{GetsLent}
use Rattle.reg_requests.specs.reg_routes.declared.endpoint.Endpoint.{Endpoint}
use Rattle.reg_http.specs.ServeSteps.{Attends}
use Rattle.reg_http.specs.declared.attending.Attended.TheVariants as attended
use Rattle.reg_http.specs.declared.doing.Done.TheVariants as dones
use Rattle.reg_http.proofs.Attended.{attends-no_memory, attends-refused, attends-request}
use Rattle.reg_http.proofs.attending.attend.Goals as goal

pub returns-in-Over : goal.returns-in-Over
returns-in-Over g c = λ text left gets. (subst (λ got. GetsLent g.Q.LendsParts.parts text left got) c.in-Over.is gets, refl)

pub returns-in-Refused : goal.returns-in-Refused
returns-in-Refused g c = λ text left gets.
    subst (λ (e : Endpoint). Attends g.D.Desk.asks g.D.Desk.commands c.args.desk.now text left c.args.desk.now
    (attended.Done e (dones.Refused c.in-Refused.refusal true) true)) (sym c.nowhere.ensures)
    (attends-refused g.D.Desk.asks g.D.Desk.commands c.args.desk.now text left c.in-Refused.refusal
    (subst (λ got. GetsLent g.Q.LendsParts.parts text left got) c.in-Refused.is gets))

pub returns-in-Message : goal.returns-in-Message
returns-in-Message g c = λ text left gets.
    let now = c.in-Message in
    attends-request g.D.Desk.asks g.D.Desk.commands g.Q.LendsParts.parts c.args.desk.now c.do_request-done.new.desk text left
    now.request c.parts.result now.told now.wants_close c.do_request-done.result.0 c.do_request-done.result.1 c.parts.ensures
    (subst (λ got. GetsLent g.Q.LendsParts.parts text left got) now.is gets) c.do_request-done.ensures.did c.do_request-done.ensures.goes

pub returns-in-NoMemory : goal.returns-in-NoMemory
returns-in-NoMemory g c = λ text left gets.
    subst (λ (e : Endpoint). Attends g.D.Desk.asks g.D.Desk.commands c.args.desk.now text left c.args.desk.now
    (attended.Done e dones.NoMemory c.in-NoMemory.wants_close)) (sym c.nowhere-in-NoMemory.ensures)
    (attends-no_memory g.D.Desk.asks g.D.Desk.commands g.Q.LendsParts.parts c.args.desk.now text left c.in-NoMemory.wants_close
    (subst (λ got. GetsLent g.Q.LendsParts.parts text left got) c.in-NoMemory.is gets))
