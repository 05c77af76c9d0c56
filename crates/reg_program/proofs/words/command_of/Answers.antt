use Rattle.std.proofs.Common.{rules, ◌≡◌, true, string_bytes, ◌∙◌, arith}
use Rattle.std.specs.Prelude.{codes, bytes_eq}
use Rattle.reg_program.specs.Words.{number_in, serving}
use Rattle.reg_program.proofs.WordLists.{few_words, five_words, many_words, some_words}
use Rattle.reg_program.proofs.words.command_of.Goals as goal

pub returns-then-eq : goal.returns-then-eq
returns-then-eq c =
    let is : bytes_eq (string_bytes c.word-item-then-words-lt6.result) (codes "serve") ≡ true = search rules in
    let told : c.serving.result
    ≡ serving (number_in (1, 65535) (string_bytes c.port-item.result))
    (number_in (1, 3) (string_bytes c.nodes-item.result)) (number_in (1, 16) (string_bytes c.workers-item.result)) =
    search rules in
    told
    ∙ five_words string_bytes c.args.words.now c.word-item-then-words-lt6.result
    c.port-item.result c.nodes-item.result c.workers-item.result
    (omega (arith, c.in-len5.len_at_least))
    (omega (arith, c.in-len5.len_below)) c.word-item-then-words-lt6.is c.port-item.is c.nodes-item.is c.workers-item.is is

pub returns-in_default : goal.returns-in_default
returns-in_default c = few_words string_bytes c.args.words.now (omega (arith, c.in_default.len_below))

pub returns-in_default-2 : goal.returns-in_default-2
returns-in_default-2 c =
    some_words string_bytes c.args.words.now (omega (arith, c.in_default.len_at_least)) (omega (arith, c.in_default.len_below))

pub returns-in_default-3 : goal.returns-in_default-3
returns-in_default-3 c = many_words string_bytes c.args.words.now (omega (arith, c.in_default.len_at_least))
