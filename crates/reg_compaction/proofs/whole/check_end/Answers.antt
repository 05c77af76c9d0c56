use Rattle.std.proofs.Common.{◌≡◌, ⊎_elim, false, sym, ap, ◌∙◌, rules, true≢false}
use Rattle.reg_journal.specs.Lines.{text_of}
use Rattle.reg_compaction.specs.Whole.{is_end}
use Rattle.reg_compaction.proofs.whole.check_end.Goals as goal

pub returns-then-not-has_end-clause-not_cut : goal.returns-then-not-has_end-clause-not_cut
returns-then-not-has_end-clause-not_cut c log read ends =
    let (lines, say, most, whole) = c.lines_are_logs.ensures.lines c.args.text.now log read in
    let unseen : c.has_end.result ≡ false = search rules in
    absurd (⊎_elim
    (λ is. true≢false (sym (c.has_end.ensures (text_of lines) log.rest is ends) ∙ unseen))
    (λ is. true≢false (sym ends ∙ ap is_end is.1))
    whole)
