use Rattle.std.proofs.Common.{rules, ◌≡◌, ◌+◌, List, [], ◌++◌, None, option_to_list, length, sym, ap, subst, ◌∙◌, arith}
use Rattle.reg_topic.specs.declared.published.Item.{Item}
use Rattle.reg_shared.specs.Held.{base_of}
use Rattle.reg_pen.specs.Deletes.{deletes_of}
use Rattle.reg_pen.specs.Pen.{IsPen, batches}
use Rattle.reg_topic.specs.Topic.{IsLawful, after_items}
use Rattle.reg_pen.specs.Pending.{AreOf, batches_in}
use Rattle.reg_pen.proofs.Batches.{batches_length, with_pending}
use Rattle.reg_pen.proofs.Settling.{all_published as all, handed_over, none_pending, settled_pen}
use Rattle.reg_pen.proofs.pen.Pen.settle.Goals as goal

pub publish-requires : goal.publish-requires
publish-requires g c =
    let xs : List Item = c.self.inside.writer.value.0 in
    let ys : List Item = c.self.inside.writer.value.1 ++ option_to_list c.self.inside.held in
    let none : c.hand_over.new.held ≡ None = search rules in
    let pending : c.hand_over.new.writer.1 ++ option_to_list c.hand_over.new.held ≡ ys = search rules in
    let handed = handed_over c.hand_over.new.writer.1 ys c.hand_over.new.held pending none in
    let before : c.deref_mut-2.result.now.0 ≡ xs = search rules in
    let given : c.deref_mut-2.result.now.1 ≡ c.hand_over.new.writer.1 = search rules in
    let whole : c.deref_mut-2.result.now.0 ++ c.deref_mut-2.result.now.1 ≡ xs ++ ys = cc (before, given, handed) in
    let pen = settled_pen c.lawful_items_follow.ensures.go_on (base_of g.N.FeedName.first) xs ys c.self.invariant.0 in
    record { may = subst (λ (w : List Item). IsLawful (base_of g.N.FeedName.first) w) (sym whole) pen.lawful }

pub with_batch-self-inside-requires : goal.with_batch-self-inside-requires
with_batch-self-inside-requires g c =
    let xs : List Item = c.self.inside.writer.value.0 in
    let ys : List Item = c.self.inside.writer.value.1 ++ option_to_list c.self.inside.held in
    let none : c.hand_over.new.held ≡ None = search rules in
    let pending : c.hand_over.new.writer.1 ++ option_to_list c.hand_over.new.held ≡ ys = search rules in
    let handed = handed_over c.hand_over.new.writer.1 ys c.hand_over.new.held pending none in
    let published : c.publish.new.self.0 ≡ xs ++ c.hand_over.new.writer.1 = search rules in
    let told : c.len-2.result ≡ length c.publish.new.self.0 = search rules in
    let long : c.len-2.result ≡ length (xs ++ ys) = told ∙ (ap length published ∙ ap (λ (w : List Item). length (xs ++ w)) handed) in
    omega (arith, with_pending c.self.inside.pending xs ys c.self.invariant.1, batches_length (xs ++ ys), c.self.invariant.2, long)

pub invariant_of-self-2 : goal.invariant_of-self-2
invariant_of-self-2 g c =
    let xs : List Item = c.self.inside.writer.value.0 in
    let ys : List Item = c.self.inside.writer.value.1 ++ option_to_list c.self.inside.held in
    let none : c.hand_over.new.held ≡ None = search rules in
    let pending : c.hand_over.new.writer.1 ++ option_to_list c.hand_over.new.held ≡ ys = search rules in
    let handed = handed_over c.hand_over.new.writer.1 ys c.hand_over.new.held pending none in
    let published : c.publish.new.self.0 ≡ xs ++ c.hand_over.new.writer.1 = search rules in
    let whole : c.publish.new.self.0 ≡ xs ++ ys = published ∙ ap (λ (w : List Item). xs ++ w) handed in
    let rest : c.publish.new.self.1 ≡ [] = search rules in
    let clear = none_pending c.publish.new.self.1 c.hand_over.new.held rest none in
    let count : c.with_batch-self-inside.result ≡ batches (xs ++ ys) =
    c.with_batch-self-inside.ensures
    ∙ (
    ap (λ n. n + batches_in c.self.inside.pending) c.self.invariant.2 ∙ sym (with_pending c.self.inside.pending xs ys c.self.invariant.1))
    in
    let pen = settled_pen c.lawful_items_follow.ensures.go_on (base_of g.N.FeedName.first) xs ys c.self.invariant.0 in (
      subst (λ (w : List Item). IsPen (base_of g.N.FeedName.first) c.publish.new.self.0 w) (sym clear)
          (subst (λ (w : List Item). IsPen (base_of g.N.FeedName.first) w []) (sym whole) pen),
      clear,
      count ∙ ap batches (sym whole),
      subst (λ (w : List Item). AreOf (after_items (base_of g.N.FeedName.first) w) c.self.inside.floor c.self.inside.next) (sym (
          all c.publish.new.self.0 (c.publish.new.self.1 ++ option_to_list c.hand_over.new.held) (xs ++ ys) whole clear))
          c.self.invariant.3,
      c.self.invariant.4 ∙ ap (deletes_of (base_of g.N.FeedName.first)) (sym (
          all c.publish.new.self.0 (c.publish.new.self.1 ++ option_to_list c.hand_over.new.held) (xs ++ ys) whole clear)),
    )
