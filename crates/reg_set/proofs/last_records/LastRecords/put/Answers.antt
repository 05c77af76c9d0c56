use Rattle.std.proofs.Common.{◌≡◌, IsSome, false, true, sym, subst, ◌∙◌, rules}
use Rattle.reg_set.specs.LastRecords.{last}
use Rattle.reg_set.proofs.OneEach.{there-inserted}
use Rattle.reg_set.proofs.last_records.LastRecords.put.Goals as goal

pub put_news-requires : goal.put_news-requires
put_news-requires c = c.is_news.ensures.news (search rules)

pub returns-then-not-is_news-clause-there : goal.returns-then-not-is_news-clause-there
returns-then-not-is_news-clause-there c =
    let S = c.args.self.now in
    let r = c.args.given.now in
    let no : c.is_news.result ≡ false = search rules in
    subst (λ s. IsSome (last s r.key)) (c.is_news.ensures.no_news no) (there-inserted S r)

pub returns-clause-kept : goal.returns-clause-kept
returns-clause-kept c = λ same. absurd (c.is_news.ensures.news (search rules) (sym c.in_ok-before.ensures.added ∙ same))
