use Rattle.std.proofs.Common.{◌≡◌, Some, None, ap, ◌∙◌, rules}
use Rattle.std.proofs.lemmas.Result.{IfOk-weaker}
use Rattle.std.specs.FinMap as finmap
use Rattle.reg_world.specs.Eager.{put_by}
use Rattle.reg_world.proofs.EagerMaps.{version_gone, version_put}
use Rattle.reg_world.proofs.eager.take_version.Goals as goal

pub returns-in-Some : goal.returns-in-Some
returns-in-Some c =
    let r = c.args.given.now in
    let e = c.in-Some.entry in
    let is : put_by r ≡ Some e = search rules in
    IfOk-weaker c.put.result _ _ (λ _ put p.
    ap (λ m. finmap.get m p) put
    ∙ version_put c.values_are_of_keys.ensures c.args.standing.now r c.args.subject.now c.args.version e c.requires is p)
    c.put.ensures.put

pub returns-in_ok-clone-in-None : goal.returns-in_ok-clone-in-None
returns-in_ok-clone-in-None c =
    let m = c.args.standing.now in
    let r = c.args.given.now in
    let is : put_by r ≡ None = search rules in
    let removed = c.remove.ensures ∙ ap (λ s. finmap.remove m (s, c.args.version)) c.in_ok-clone-in-None.ensures.cases in
    λ p. ap (λ n. finmap.get n p) removed ∙ version_gone m r c.args.subject.now c.args.version is p
