use Rattle.std.proofs.Common.{length, take, sym, ap, ◌∙◌, arith, rules, take_all}
use Rattle.std.proofs.lemmas.List.Sums.{position_or_len_is}
use Rattle.reg_messages.specs.Types.{is_semicolon}
use Rattle.reg_messages.proofs.types.without_parameters.Goals as goal

pub returns-in-Some : goal.returns-in-Some
returns-in-Some c =
    let input = c.args.value.now in
    ap (λ n. take n input) (sym (position_or_len_is is_semicolon input c.in-Some.end 0 (search rules) (search rules) (search rules)))

pub returns-in-None : goal.returns-in-None
returns-in-None c =
    let input = c.args.value.now in
    let none = position_or_len_is is_semicolon input (length input) 0 (omega arith) (search rules) (search rules) in
    sym (ap (λ n. take n input) none ∙ take_all (length input) input (omega arith))
