use Rattle.std.proofs.Common.{rules, ◌≡◌, ◌∙◌, ℕ, List, [], ◌∷◌, ◌++◌, option_to_list, ap, sym, subst}
use Rattle.std.proofs.lemmas.List.{append-nil}
use Rattle.std.proofs.lemmas.List.Sums.{fold-append}
use Rattle.reg_topic.specs.declared.published.Item.{Item}
use Rattle.reg_topic.specs.Topic.{MayFollow, after_items}
use Rattle.reg_shared.specs.Held.{base_of}
use Rattle.reg_pen.specs.Deletes.{deletes_after, deletes_at_first, deletes_of}
use Rattle.reg_pen.specs.Pending.{AreOf, after, is_lost}
use Rattle.reg_pen.specs.declared.deletes.Deletes.{Deletes}
use Rattle.reg_pen.proofs.Ahead.{are_after_one, ends}
use Rattle.reg_pen.proofs.Settling.{held_alone, held_pen, same_state}
use Rattle.reg_pen.proofs.pen.Pen.hold.Goals as goal

pub invariant_of-self : goal.invariant_of-self
invariant_of-self g c =
    let s = c.self.inside in
    let clear : s.writer.value.1 ++ option_to_list s.held ≡ [] = search rules in
    let may : MayFollow (after_items (base_of g.N.FeedName.first) s.writer.value.0) c.args.item = search rules in
    let held = held_pen (base_of g.N.FeedName.first) s.writer.value.0 s.writer.value.1
    (option_to_list s.held) c.args.item c.args.pending c.self.invariant.0 clear may c.requires.pending in
    let xs : List Item = s.writer.value.0 in
    let here : AreOf (after_items (base_of g.N.FeedName.first) xs) s.floor s.next =
    subst (λ (ys : List Item). AreOf (after_items (base_of g.N.FeedName.first) ys) s.floor s.next) (append-nil xs)
    (subst (λ (ys : List Item). AreOf (after_items (base_of g.N.FeedName.first) (xs ++ ys)) s.floor s.next) clear c.self.invariant.3) in
    let turn = c.lawful_items_follow.ensures.in_turn in
    let ahead = are_after_one c.commits_follow.ensures turn (base_of g.N.FeedName.first) xs c.args.item s.floor s.next may here in
    let alone : s.writer.value.1 ++ c.args.item ∷ [] ≡ c.args.item ∷ [] =
    held_alone s.writer.value.1 (option_to_list s.held) c.args.item clear in
    let now : AreOf (after_items (base_of g.N.FeedName.first) (xs ++ (s.writer.value.1 ++ c.args.item ∷ [])))
    (after c.args.item s.floor s.next).0 (after c.args.item s.floor s.next).1 =
    subst
    (λ (ys : List Item).
    AreOf (after_items (base_of g.N.FeedName.first) (xs ++ ys))
    (after c.args.item s.floor s.next).0 (after c.args.item s.floor s.next).1)
    (sym alone) ahead in
    let base = base_of g.N.FeedName.first in
    let counts : s.deletes ≡ deletes_of base xs =
    c.self.invariant.4 ∙ ap (λ (ys : List Item). deletes_of base (xs ++ ys)) clear ∙ ap (deletes_of base) (append-nil xs) in
    let counted : c.after-self-inside.result ≡ deletes_of base (xs ++ (s.writer.value.1 ++ c.args.item ∷ [])) =
    c.after-self-inside.ensures
    ∙ (ap (λ (d : Deletes). deletes_after d c.args.item) counts
    ∙ (sym (fold-append deletes_after (deletes_at_first base) xs (c.args.item ∷ []))
    ∙ ap (λ (ys : List Item). deletes_of base (xs ++ ys)) (sym alone))) in (
      held.0,
      held.1,
      c.self.invariant.2,
      subst (λ (p : ℕ × ℕ). AreOf (after_items (base_of g.N.FeedName.first) (xs ++ (s.writer.value.1 ++ c.args.item ∷ []))) p.0 p.1)
          (sym c.after.ensures) now,
      counted,
    )

pub returns : goal.returns
returns g c =
    let s = c.self.inside in
    let clear : s.writer.value.1 ++ option_to_list s.held ≡ [] = search rules in
    let alone = held_alone s.writer.value.1 (option_to_list s.held) c.args.item clear in
    let published : s.writer.value.0 ≡ c.args.self.now.published = search rules in
    let keep : s.keep ≡ c.args.self.now.keep = search rules in
    same_state s.writer.value.0 c.args.self.now.published (s.writer.value.1 ++ c.args.item ∷ [])
    (c.args.item ∷ []) (is_lost c.args.pending) s.keep c.args.self.now.keep published alone keep

pub after-requires : goal.after-requires
after-requires g c =
    let s = c.self.inside in
    let clear : s.writer.value.1 ++ option_to_list s.held ≡ [] = search rules in
    let may : MayFollow (after_items (base_of g.N.FeedName.first) s.writer.value.0) c.args.item = search rules in
    let xs : List Item = s.writer.value.0 in
    let here : AreOf (after_items (base_of g.N.FeedName.first) xs) s.floor s.next =
    subst (λ (ys : List Item). AreOf (after_items (base_of g.N.FeedName.first) ys) s.floor s.next) (append-nil xs)
    (subst (λ (ys : List Item). AreOf (after_items (base_of g.N.FeedName.first) (xs ++ ys)) s.floor s.next) clear c.self.invariant.3) in
    ends c.commits_follow.ensures (after_items (base_of g.N.FeedName.first) xs) c.args.item s.floor s.next may here
