use Rattle.std.proofs.Common.{◌≡◌, List, ◌++◌, refl, sym, subst}
use Rattle.reg_node.specs.Caught.{IsCaught}
use Rattle.reg_node.specs.Takes.{floor_of}
use Rattle.reg_node.specs.declared.take.Draw.{Draw}
use Rattle.reg_node.proofs.Caught.{caught_none}
use Rattle.reg_node.proofs.follower.Follower.new.Goals as goal

pub invariant_of-result : goal.invariant_of-result
invariant_of-result g c =
    let first = g.N.FeedName.first in
    let front = c.args.topic in
    let rest : List Draw = c.new.result.items in
    let none =
    subst (λ (w : List Draw). IsCaught first front w 0 × (0 ≡ floor_of w)) (sym c.new.ensures.items) (caught_none first front, refl) in
    let all = subst (λ (v : List Draw × List Draw). IsCaught first front (v.0 ++ (v.1 ++ rest)) 0 × (0 ≡ floor_of (v.0 ++ (v.1 ++ rest))))
    (sym c.requires.nothing.0) none in
    (c.requires.nothing.1, c.requires.floor, all.0, all.1)
