use Rattle.std.proofs.Common.{◌≡◌, true, false, cond, sym, subst, ◌∙◌, rules, tests}
use Rattle.std.proofs.lemmas.Bool.{false≢true}
use Rattle.std.specs.BTreeSet.{contains}
use Rattle.std.specs.Ordering.{eq_by_cmp}
use Rattle.reg_entries.specs.Meanings.{Meaning, meaning_cmp}
use Rattle.reg_entries.proofs.Meant.{refreshes_gone, refreshes_stays}
use Rattle.reg_entries.proofs.meanings.refresh_meaning.Goals as goal

pub returns-then-not-is_meant-clause-refreshed : goal.returns-then-not-is_meant-clause-refreshed
returns-then-not-is_meant-clause-refreshed c =
    let no : c.is_meant.result ≡ false = search (rules, tests) in
    let old = c.args.meanings.now in
    let new = c.forget_meaning.new.meanings in
    let gone : (k : Meaning)
    → contains meaning_cmp new k ≡ cond (eq_by_cmp meaning_cmp (c.args.id, c.args.normal) k) false (contains meaning_cmp old k) =
    subst (λ i. (k : Meaning)
    → contains meaning_cmp new k
    ≡ cond (eq_by_cmp meaning_cmp (i, c.args.normal) k) false
    (contains meaning_cmp old k)) c.from.ensures c.forget_meaning.ensures.gone in
    refreshes_gone new old (c.args.id, c.args.normal) gone c.args.schemas.now (λ is. false≢true (sym no ∙ c.is_meant.ensures.1 is))

pub returns-else-not-is_meant-clause-refreshed : goal.returns-else-not-is_meant-clause-refreshed
returns-else-not-is_meant-clause-refreshed c =
    let yes : c.is_meant.result ≡ true = search (rules, tests) in
    refreshes_stays c.args.schemas.now (c.args.id, c.args.normal) c.args.meanings.now (c.is_meant.ensures.0 yes)
