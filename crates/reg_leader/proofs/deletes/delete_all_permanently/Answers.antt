use Rattle.std.proofs.Common.{◌∙◌, inr, not, ◌∷◌, true, false, map, ap, sym}
use Rattle.std.specs.List.{list_any}
use Rattle.reg_rules.specs.reg_fold.Entries.{entries}
use Rattle.reg_rules.specs.Standing.{standing}
use Rattle.reg_rules.specs.Writings.{removed}
use Rattle.reg_leader.specs.Course.{Does}
use Rattle.reg_leader.specs.Step.{marked}
use Rattle.reg_leader.specs.declared.reply.Reply.TheVariants.{Versions}
use Rattle.reg_leader.proofs.LiveOnes.{has_live-standing, passed_if, refused_if}
use Rattle.reg_leader.proofs.deletes.delete_all_permanently.Goals as goal

pub returns-then-any_live : goal.returns-then-any_live
returns-then-any_live c =
    let told = ap (list_any (λ e. not e.now.soft)) (sym c.deref.ensures.value) ∙ sym c.any_live.ensures ∙ c.if-any_live.true in
    let live = has_live-standing (λ e. e.now) c.in_ok-entries.entries.items (entries c.args.registry.now) c.args.subject.now true
    (c.in_ok-entries.ensures.all ∙ ap (standing c.args.registry.now) c.as_str.ensures) told in
    inr (refused_if _ _ _ live)

pub returns : goal.returns
returns c =
    let told = ap (list_any (λ e. not e.now.soft)) (sym c.deref.ensures.value) ∙ sym c.any_live.ensures ∙ c.if-any_live.false in
    let dead = has_live-standing (λ e. e.now) c.in_ok-entries.entries.items (entries c.args.registry.now) c.args.subject.now false
    (c.in_ok-entries.ensures.all ∙ ap (standing c.args.registry.now) c.as_str.ensures) told in
    let all = c.in_ok-entries.ensures.all ∙ ap (standing c.args.registry.now) c.as_str.ensures in
    let versions = ap (map (λ e. e.version)) (sym all) ∙ ap (λ xs. map (λ e. e.version) (map (λ e. e.now) xs)) (sym c.deref-2.ensures.value)
    ∙ sym c.in_ok-versions_of.ensures ∙ sym c.from.ensures in
    let mark = marked c.args.registry.now in
    let writings =
    ap (λ es. mark ∷ map removed es) (sym all)
    ∙ ap (λ xs. mark ∷ map removed (map (λ e. e.now) xs)) (sym c.deref-3.ensures.value)
    ∙ sym c.in_ok-removed_all.ensures in
    passed_if _ _ _ dead
    ∙ ap (λ v. Does (Versions v) (mark ∷ map removed (standing c.args.registry.now c.args.subject.now))) versions
    ∙ ap (Does (Versions c.from.result)) writings
