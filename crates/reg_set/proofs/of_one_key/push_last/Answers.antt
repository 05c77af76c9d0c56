use Rattle.std.proofs.Common.{◌≡◌, ◌+◌, ◌-◌, ◌<◌, ◌++◌, [], ◌∷◌, None, length, map, sym, ap, subst, ◌∙◌, arith, rules}
use Rattle.std.proofs.lemmas.List.{map_push}
use Rattle.std.specs.FinSet.{empty, from_list, from_list_push, insert, union}
use Rattle.std.specs.List.{slice_get}
use Rattle.reg_set.specs.ByKey.{last_alone}
use Rattle.reg_set.specs.Compaction.{KeepsLasts}
use Rattle.reg_set.proofs.Alone.{alone-at, none_of}
use Rattle.reg_set.proofs.Joined.{last_keeps_lasts, union-nothing}
use Rattle.reg_set.proofs.KeptLasts.{keeping_lasts_unites}
use Rattle.reg_set.proofs.Orders.{record_cmp-total, record_cmp-ties}
use Rattle.reg_set.proofs.Unions.{insert-union}
use Rattle.reg_set.proofs.of_one_key.push_last.Goals as goal

pub returns-in_ok-push : goal.returns-in_ok-push
returns-in_ok-push c = λ whole kept.
    let rs = c.args.records.now in
    let latest = c.in-Some.latest in
    let r = latest.now in
    let xs = c.args.found.now.items in
    let item = c.in-Some.ensures.item in
    let some : 0 < length rs = item.3.0 in
    let last : length rs - 1 + 1 ≡ length rs = omega arith in
    let alone : last_alone rs ≡ r ∷ [] = alone-at rs (length rs - 1) r last ∙ ap (λ x. x ∷ []) (sym item.1) in
    let more : c.push.new.self.items ≡ xs ++ latest ∷ [] = search rules in
    let added =
    ap (λ ys. from_list (map (λ q. q.now) ys)) more
    ∙ ap from_list (map_push (λ q. q.now) xs latest)
    ∙ from_list_push record_cmp-total record_cmp-ties (map (λ q. q.now) xs) r
    ∙ insert-union (from_list (map (λ q. q.now) xs)) r in
    subst (λ s. KeepsLasts s (union whole (from_list rs))) (sym added)
    (keeping_lasts_unites (from_list (map (λ q. q.now) xs)) whole (insert empty r) (from_list rs) kept
    (last_keeps_lasts c.args._key.now rs c.requires r alone))

pub returns-in_default : goal.returns-in_default
returns-in_default c = λ whole kept.
    let rs = c.args.records.now in
    let gone : slice_get rs (length rs - 1) ≡ None = search rules in
    let same = ap (λ qs. union whole (from_list qs)) (none_of rs gone) ∙ union-nothing whole in
    subst (KeepsLasts (from_list (map (λ q. q.now) c.args.found.now.items))) (sym same) kept
