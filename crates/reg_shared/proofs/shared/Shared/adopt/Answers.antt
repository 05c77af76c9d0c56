use Rattle.std.proofs.Common.{◌≡◌, ap, subst, ◌∙◌}
use Rattle.std.specs.FinSet.{from_list}
use Rattle.reg_leader.specs.Adoption.{HasPlace, adopting}
use Rattle.reg_set.specs.LastRecords.{last_records}
use Rattle.reg_set.specs.Records.{Records}
use Rattle.reg_shared.proofs.Held.{held_begun}
use Rattle.reg_shared.proofs.shared.Shared.adopt.Goals as goal

pub of_log-requires-clause-log : goal.of_log-requires-clause-log
of_log-requires-clause-log c = c.in_ok-log.ensures ∙ ap from_list c.deref.ensures.value

pub returns-clause-held : goal.returns-clause-held
returns-clause-held c =
    let b = c.args.base.now in
    let log : c.in_ok-log.log ≡ from_list b.records.items = c.in_ok-log.ensures ∙ ap from_list c.deref.ensures.value in
    held_begun b.records.items b.next b.floor c.in_ok-shared.shared c.take_batch.new.self _ c.in_ok-shared.ensures
    (c.deref-2.ensures.value ∙ (c.in_ok-registry.ensures.due ∙ ap (λ (s : Records). adopting (last_records s) b.next) log))
    c.in_ok-take_batch.ensures.taken

pub returns-clause-due : goal.returns-clause-due
returns-clause-due c =
    let b = c.args.base.now in
    let log : c.in_ok-log.log ≡ from_list b.records.items = c.in_ok-log.ensures ∙ ap from_list c.deref.ensures.value in
    c.in_ok-registry.ensures.due ∙ ap (λ (s : Records). adopting (last_records s) b.next) log

pub returns-clause-place : goal.returns-clause-place
returns-clause-place c =
    let b = c.args.base.now in
    let log : c.in_ok-log.log ≡ from_list b.records.items = c.in_ok-log.ensures ∙ ap from_list c.deref.ensures.value in
    subst (λ (s : Records). HasPlace (last_records s) b.next) log c.in_ok-registry.ensures.place
