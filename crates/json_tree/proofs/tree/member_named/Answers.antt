use Rattle.std.proofs.Common.{◌≡◌, ◌+◌, ◌∷◌, drop, bytes_eq, true, false, sym, ap, ◌∙◌, arith}
use Rattle.std.proofs.lemmas.List.{drop_more}
use Rattle.serde_json.specs.Find.{get_member}
use Rattle.json_tree.specs.View.{members_view}
use Rattle.json_tree.proofs.Views.{member_here, member_later}
use Rattle.json_tree.proofs.tree.member_named.Goals as goal

pub returns-then-eq : goal.returns-then-eq
returns-then-eq c =
    let l = c.loop-member in
    let name = c.args.name.now in
    let m = c.member-item.result in
    let all = c.args.members.now in
    let here : drop l.member-index all ≡ m ∷ drop (l.member-index + 1) all =
    drop_more all l.member-index m (omega arith) ∙ ap (λ y. y ∷ drop (l.member-index + 1) all) (sym c.member-item.is) in
    let same : bytes_eq name m.0.now ≡ true = grind arith in
    sym (l.invariant ∙ ap (λ ms. get_member name (members_view ms)) here ∙ member_here name m _ same)

pub loop-member-preserved : goal.loop-member-preserved
loop-member-preserved c =
    let l = c.loop-member in
    let name = c.args.name.now in
    let m = c.member-item.result in
    let all = c.args.members.now in
    let here : drop l.member-index all ≡ m ∷ drop (l.member-index + 1) all =
    drop_more all l.member-index m (omega arith) ∙ ap (λ y. y ∷ drop (l.member-index + 1) all) (sym c.member-item.is) in
    let other : bytes_eq name m.0.now ≡ false = grind arith in
    l.invariant ∙ ap (λ ms. get_member name (members_view ms)) here ∙ member_later name m _ other
