use Rattle.std.proofs.Common.{◌≡◌, true, List, Option, Some, ap, subst, ◌∙◌}
use mathlib.Core.List.{IsPrefix}
use Rattle.reg_topic.specs.declared.published.Item.{Item}
use Rattle.reg_node.specs.declared.take.Draw.{Draw}
use Rattle.reg_desk.specs.Desk.{IsFresh, Known, front_of}
use Rattle.reg_desk.proofs.Learnt.{nothing_known, stays_learnt, takes_learnt}
use Rattle.reg_desk.proofs.desk.NodeDeskSharedDesk.learn.Goals as goal

pub returns-then-is_news : goal.returns-then-is_news
returns-then-is_news g c =
    let topic : Some c.in-Some.topic.now ≡ c.args.standing.now.topic = c.in-Some.ensures.front in
    let before : front_of c.self.inside.seen ≡ front_of c.args.self.now.seen = ap (λ (k : Known _). front_of k.seen) c.self.view_is in
    let known : IsPrefix (front_of c.self.inside.seen) c.in-Some.topic.now = c.if-is_news.ensures in
    takes_learnt g.N.FeedName.first c.args.self.now _ c.args.standing.now
    (ap Some c.again.ensures ∙ topic)
    c.fresh-self-inside.ensures
    (ap (λ (k : Known _). k.submits) c.self.view_is)
    (ap (λ (k : Known _). k.wake) c.self.view_is)
    (subst (λ (w : Option (List Item)). IsPrefix (front_of c.args.self.now.seen) (front_of w)) topic
    (subst (λ (w : List Item). IsPrefix w c.in-Some.topic.now) before known))
    (subst (λ (w : List Draw). IsPrefix w c.learn.new.self) (ap (λ (k : Known _). k.view) c.self.view_is) c.learn.ensures.this)
    (subst (λ (w : List Draw). IsPrefix w c.learn.new.self) c.node.ensures c.learn.ensures.that)
    c.in-Some.ensures.shown

pub returns-else-is_news : goal.returns-else-is_news
returns-else-is_news g c =
    let topic : Some c.in-Some.topic.now ≡ c.args.standing.now.topic = c.in-Some.ensures.front in
    let before : front_of c.self.inside.seen ≡ front_of c.args.self.now.seen = ap (λ (k : Known _). front_of k.seen) c.self.view_is in
    let known : IsPrefix c.in-Some.topic.now (front_of c.self.inside.seen) = c.if-is_news.ensures in
    stays_learnt g.N.FeedName.first c.args.self.now _ c.args.standing.now
    (ap (λ (k : Known _). k.seen) c.self.view_is)
    (ap (λ (k : Known _). k.fresh) c.self.view_is)
    (ap (λ (k : Known _). k.submits) c.self.view_is)
    (ap (λ (k : Known _). k.wake) c.self.view_is)
    (subst (λ (w : Option (List Item)). IsPrefix (front_of w) (front_of c.args.self.now.seen)) topic
    (subst (λ (w : List Item). IsPrefix c.in-Some.topic.now w) before known))
    (subst (λ (w : List Draw). IsPrefix w c.learn.new.self) (ap (λ (k : Known _). k.view) c.self.view_is) c.learn.ensures.this)
    (subst (λ (w : List Draw). IsPrefix w c.learn.new.self) c.node.ensures c.learn.ensures.that)
    (subst (λ (k : Known _). k.fresh ≡ true → IsFresh g.N.FeedName.first (front_of k.seen) k.view) c.self.view_is c.self.invariant)

pub returns-in_default : goal.returns-in_default
returns-in_default g c =
    stays_learnt g.N.FeedName.first c.args.self.now _ c.args.standing.now
    (ap (λ (k : Known _). k.seen) c.self.view_is)
    (ap (λ (k : Known _). k.fresh) c.self.view_is)
    (ap (λ (k : Known _). k.submits) c.self.view_is)
    (ap (λ (k : Known _). k.wake) c.self.view_is)
    (nothing_known c.args.standing.now.topic (front_of c.args.self.now.seen) c.in_default.ensures.front)
    (subst (λ (w : List Draw). IsPrefix w c.learn.new.self) (ap (λ (k : Known _). k.view) c.self.view_is) c.learn.ensures.this)
    (subst (λ (w : List Draw). IsPrefix w c.learn.new.self) c.node.ensures c.learn.ensures.that)
    (subst (λ (k : Known _). k.fresh ≡ true → IsFresh g.N.FeedName.first (front_of k.seen) k.view) c.self.view_is c.self.invariant)
