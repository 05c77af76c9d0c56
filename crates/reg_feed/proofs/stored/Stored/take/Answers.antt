use Rattle.std.proofs.Common.{rules, arith, ◌≡◌, ◌++◌, ◌∷◌, [], fold, sym, ap, ◌∙◌}
use Rattle.std.proofs.lemmas.List.Sums.{fold-append}
use Rattle.reg_feed.proofs.Prefixes.{next_item}
use Rattle.reg_feed.proofs.stored.Stored.take.Goals as goal

pub invariant_of-self-2 : goal.invariant_of-self-2
invariant_of-self-2 g c =
    let xs = c.self.inside.front in
    let e = c.args.item.now in
    let applied = g.V.Fold.applied in
    let longer = c.longer-longer.ensures in
    let took : c.take_item.new.self ≡ applied c.self.inside.value e = search rules in
    let front : c.longer-longer.result ≡ xs ++ e ∷ [] = next_item xs c.args.front.now c.requires.0
    c.longer-longer.result e longer.one longer.this longer.that c.requires.1 (omega arith) in
    took
    ∙ (
    ap (λ v. applied v e) c.self.invariant
    ∙ (sym (fold-append applied g.N.FeedName.first xs (e ∷ [])) ∙ sym (ap (fold applied g.N.FeedName.first) front)))
