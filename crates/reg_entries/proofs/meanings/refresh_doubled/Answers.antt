use Rattle.std.proofs.Common.{◌≡◌, true, false, sym, ◌∙◌, rules, tests}
use Rattle.std.proofs.lemmas.Bool.{false≢true}
use Rattle.reg_entries.proofs.Meant.{doubled_gone, doubled_stays}
use Rattle.reg_entries.proofs.meanings.refresh_doubled.Goals as goal

pub returns-then-not-has_two : goal.returns-then-not-has_two
returns-then-not-has_two c =
    let no : c.has_two.result ≡ false = search (rules, tests) in
    doubled_gone c.args.meanings.now c.args.doubled.now c.remove.new.self c.args.id (λ two.
    false≢true (sym no ∙ c.has_two.ensures.1 two)) c.remove.ensures.updates.0

pub returns-else-not-has_two : goal.returns-else-not-has_two
returns-else-not-has_two c =
    let yes : c.has_two.result ≡ true = search (rules, tests) in
    doubled_stays c.args.meanings.now c.args.doubled.now c.args.id (c.has_two.ensures.0 yes)
