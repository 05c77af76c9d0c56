use Rattle.reg_records.proofs.Grammar.{Spells-reading, reading-Spells}
use Rattle.reg_records.proofs.line.lines_are_of_the_grammar.Goals as goal

pub returns-clause-read : goal.returns-clause-read
returns-clause-read c = Spells-reading

pub returns-clause-spelled : goal.returns-clause-spelled
returns-clause-spelled c = reading-Spells
