use Rattle.std.proofs.Common.{sym}
use Rattle.reg_adapter.proofs.Words.{of_batch, of_behind, of_declined, of_kept, of_lost, of_none, of_ready}
use Rattle.reg_adapter.proofs.line.word_of.Goals as goal

pub returns-then-is_word : goal.returns-then-is_word
returns-then-is_word c = of_batch c.args.text.now (sym c.if-is_word.ensures)

pub returns-then-is_word-2 : goal.returns-then-is_word-2
returns-then-is_word-2 c = of_kept c.args.text.now (sym c.if-is_word.ensures) (sym c.if-is_word-2.ensures)

pub returns-then-is_word-3 : goal.returns-then-is_word-3
returns-then-is_word-3 c = of_behind c.args.text.now (sym c.if-is_word.ensures) (sym c.if-is_word-2.ensures) (sym c.if-is_word-3.ensures)

pub returns-then-is_word-4 : goal.returns-then-is_word-4
returns-then-is_word-4 c = of_declined c.args.text.now (sym c.if-is_word.ensures) (sym c.if-is_word-2.ensures) (sym c.if-is_word-3.ensures) (sym c.if-is_word-4.ensures)

pub returns-then-is_word-5 : goal.returns-then-is_word-5
returns-then-is_word-5 c = of_lost c.args.text.now (sym c.if-is_word.ensures) (sym c.if-is_word-2.ensures) (sym c.if-is_word-3.ensures) (sym c.if-is_word-4.ensures) (sym c.if-is_word-5.ensures)

pub returns-then-is_word-6 : goal.returns-then-is_word-6
returns-then-is_word-6 c = of_ready c.args.text.now (sym c.if-is_word.ensures) (sym c.if-is_word-2.ensures) (sym c.if-is_word-3.ensures) (sym c.if-is_word-4.ensures) (sym c.if-is_word-5.ensures) (sym c.if-is_word-6.ensures)

pub returns-else-is_word-6 : goal.returns-else-is_word-6
returns-else-is_word-6 c = of_none c.args.text.now (sym c.if-is_word.ensures) (sym c.if-is_word-2.ensures) (sym c.if-is_word-3.ensures) (sym c.if-is_word-4.ensures) (sym c.if-is_word-5.ensures) (sym c.if-is_word-6.ensures)
