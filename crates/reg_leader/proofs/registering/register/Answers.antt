use Rattle.std.proofs.Common.{◌≡◌, Err, sym, subst, refl, rules}
use Rattle.reg_leader.specs.Step.{register}
use Rattle.reg_leader.specs.Leading.{LeadsTo}
use Rattle.reg_leader.specs.declared.reply.Reply.TheVariants as replies
use Rattle.reg_leader.proofs.Leading.{leads_live, leads_new, leads_refused}
use Rattle.reg_leader.proofs.registering.register.Goals as goal

pub returns-in_err-id : goal.returns-in_err-id
returns-in_err-id c =
    let is : c.from_residual.result ≡ Err c.in_err-id.field-0.0 = search rules in
    subst (LeadsTo (register c.args.registry.now c.args.next c.args.subject.now c.args.text.now)) (sym is)
    (leads_refused c.args.registry.now c.args.next c.args.subject.now c.args.text.now _ c.in_err-id.ensures)

pub returns-in-Live : goal.returns-in-Live
returns-in-Live c =
    leads_live c.args.registry.now c.args.next c.args.subject.now c.args.text.now c.in-Live.id
    (record { reply = replies.Id c.in-Live.id; writings = c.new.result })
    refl
    c.new.ensures.items
    (rw c.in-Live.is at c.in_ok-id.ensures)

pub returns-in-New : goal.returns-in-New
returns-in-New c =
    leads_new c.args.registry.now c.args.next c.args.subject.now c.args.text.now c.in-New.schema.normal
    (rw c.in-New.is at c.in_ok-id.ensures)
    _
    c.register_new.ensures
