use Rattle.std.proofs.Common.{rules, ◌≡◌, ◌++◌, ◌∙◌, [], ap, refl, sym, subst, List}
use Rattle.reg_topic.specs.Topic.{IsAdopted, after_items, topic_from}
use Rattle.reg_topic.specs.declared.published.Item.{Item}
use Rattle.reg_topic.specs.declared.topic.Topic.{Topic}
use Rattle.reg_shared.specs.Held.{Held, base_of, held_of}
use Rattle.reg_pen.specs.Deletes.{deletes_at_first, deletes_of}
use Rattle.reg_pen.specs.Pen.{IsPen, batches}
use Rattle.reg_pen.specs.Pending.{AreOf}
use Rattle.reg_pen.proofs.Begun.{base_whole}
use Rattle.reg_pen.proofs.pen.open_begun.Goals as goal

pub invariant_of-pen : goal.invariant_of-pen
invariant_of-pen g c =
    let b = c.args.kept.log in
    let topic : Topic = topic_from b.records.items b.next b.floor in
    let same : g.N.FeedName.first ≡ held_of topic = c.requires.name.1 in
    let lists : c.in_ok-writer-2.writer.value ≡ ([], []) = search rules in
    let begun : IsAdopted topic =
    c.adopted_logs_begin.ensures b.records.items b.next b.floor b.ahead b.above c.requires.takes_commands in
    let adopted : IsAdopted (base_of g.N.FeedName.first) =
    subst (λ (h : Held). IsAdopted (base_of h)) (sym same) (subst IsAdopted (sym (base_whole topic begun.whole)) begun) in
    let floor : c.floor-floor.result ≡ g.N.FeedName.first.kept.floor = search rules in
    let next : c.next-next.result ≡ g.N.FeedName.first.next = search rules in
    let shown : c.args.begun.shared ≡ g.N.FeedName.first = c.requires.held ∙ sym same in
    let counts = c.in_ok-deletes.ensures ∙ ap (λ (h : Held). deletes_at_first (base_of h)) shown in
    subst
    (λ (l : List Item × List Item). IsPen (base_of g.N.FeedName.first) l.0 (l.1 ++ []) × (l.1 ++ [] ≡ []) × (0 ≡ batches l.0)
    × AreOf (after_items (base_of g.N.FeedName.first) (l.0 ++ (l.1 ++ []))) c.floor-floor.result c.next-next.result
    × (c.in_ok-deletes.deletes ≡ deletes_of (base_of g.N.FeedName.first) (l.0 ++ (l.1 ++ []))))
    (sym lists) (record { adopted = adopted; lawful = tt; pends = tt }, refl, refl, (floor, next), counts)

pub returns-clause-adopted : goal.returns-clause-adopted
returns-clause-adopted g c =
    let b = c.args.kept.log in
    let topic : Topic = topic_from b.records.items b.next b.floor in
    let begun : IsAdopted topic =
    c.adopted_logs_begin.ensures b.records.items b.next b.floor b.ahead b.above c.requires.takes_commands in
    subst (λ (h : Held). IsAdopted (base_of h)) (sym c.requires.name.1) (subst IsAdopted (sym (base_whole topic begun.whole)) begun)
