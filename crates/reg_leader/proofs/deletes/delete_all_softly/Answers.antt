use Rattle.std.proofs.Common.{◌==◌, ◌∙◌, inr, true, false, [], ◌∷◌, map, ap, sym}
use Rattle.reg_rules.specs.reg_fold.Entries.{entries}
use Rattle.reg_rules.specs.reg_fold.Standing.{live}
use Rattle.reg_rules.specs.Writings.{deleted_up_to}
use Rattle.reg_leader.specs.Course.{Does}
use Rattle.reg_leader.specs.declared.reply.Reply.TheVariants.{Versions}
use Rattle.reg_leader.proofs.LiveOnes.{has_live-live, passed_unless, refused_unless}
use Rattle.reg_leader.proofs.deletes.delete_all_softly.Goals as goal

pub returns-then-is_empty : goal.returns-then-is_empty
returns-then-is_empty c =
    let none = ap (λ n. n == 0) (sym c.in_ok-live.live.ok.0) ∙ sym c.is_empty.ensures ∙ c.if-is_empty.true in
    let dead = has_live-live (λ e. e.now) c.in_ok-live.live.items (entries c.args.registry.now) c.args.subject.now true
    (c.in_ok-live.ensures.all ∙ ap (live c.args.registry.now) c.as_str.ensures) none in
    inr (refused_unless _ _ _ dead)

pub returns : goal.returns
returns c =
    let some = ap (λ n. n == 0) (sym c.in_ok-live.live.ok.0) ∙ sym c.is_empty.ensures ∙ c.if-is_empty.false in
    let stands = has_live-live (λ e. e.now) c.in_ok-live.live.items (entries c.args.registry.now) c.args.subject.now false
    (c.in_ok-live.ensures.all ∙ ap (live c.args.registry.now) c.as_str.ensures) some in
    let all = c.in_ok-live.ensures.all ∙ ap (live c.args.registry.now) c.as_str.ensures in
    let versions = ap (map (λ e. e.version)) (sym all) ∙ ap (λ xs. map (λ e. e.version) (map (λ e. e.now) xs)) (sym c.deref.ensures.value)
    ∙ sym c.in_ok-versions.ensures ∙ sym c.from.ensures in
    let writings = ap (λ w. w ∷ []) (sym c.in_ok-writing.ensures) ∙ sym c.in_ok-vec.ensures.items in
    passed_unless _ _ _ stands
    ∙ ap (λ v. Does (Versions v) (deleted_up_to c.args.subject.now c.args.greatest ∷ [])) versions
    ∙ ap (Does (Versions c.from.result)) writings
